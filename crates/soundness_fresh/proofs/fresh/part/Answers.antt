-- `soundness_fresh::fresh::part` meets its contract. The loop's invariant: the part sought is as many parts on, of what stands up to `end`, as
-- turns are left.
-- Assumes nothing.
use Rattle.std.proofs.Common.{◌≡◌, ◌≤◌, ◌-◌, ◌<◌, ◌+◌, ℕ, List, [], ◌∷◌, get_or, length, take, drop, reverse, ap, ap₂, sym, ◌∙◌, arith}
use lib.Seq.{take-length}
use Rattle.chars.specs.Parts.{run}
use Rattle.mailaddr.specs.Domain.{parts_of}
use Rattle.mailaddr.proofs.Laws.Domain.{left_none, left_some, part-first, parts_left, start-within}
use Rattle.soundness.specs.Tokens.{Tok}
use Rattle.soundness.proofs.Laws.Marks.{at_first, at_later}
use Rattle.soundness_fresh.proofs.fresh.part.Goals as goal

-- the part that ends at `end` is the first of those up to there, and the rest stand in front of it
module _ (d : List ℕ) (end r : ℕ) (within : end ≤ length d) (start : r ≡ end - run 46 (reverse (take end d))) (k i : ℕ)
    (sought : get_or (parts_of d) k [] ≡ get_or (parts_of (take end d)) i []) where
  here : i ≡ 0 → take (end - r) (drop r d) ≡ get_or (parts_of d) k []
  here h = sym (sought ∙ at_first (parts_of (take end d)) (take (end - r) (drop r d)) (parts_left d r) (part-first d end r within start) i h)

  later : (i ≡ 0 → ⊥) → get_or (parts_of d) k [] ≡ get_or (parts_left d r) (i - 1) []
  later h = sought ∙ at_later (parts_of (take end d)) (take (end - r) (drop r d)) (parts_left d r) (part-first d end r within start) i h

pub loop-init : goal.loop-init
loop-init c =
    let d = c.args.domain.now in
    record { within = omega arith; sought = ap₂ (λ (s : List ℕ) (n : ℕ). get_or (parts_of s) n []) (sym (take-length d)) (omega arith) }

pub returns-then-start-eq0 : goal.returns-then-start-eq0
returns-then-start-eq0 c =
    let l = c.loop in
    let d = c.args.domain.now in
    let r = c.part_start-start.result in
    let i = c.args.k - l.counter in
    sym (later d l.end r l.invariant.within c.part_start-start.ensures c.args.k i l.invariant.sought (omega arith)
    ∙ ap (λ (ts : List Tok). get_or ts (i - 1) []) (left_none d r c.if-start-eq0.true))

pub loop-preserved : goal.loop-preserved
loop-preserved c =
    let l = c.loop in
    let d = c.args.domain.now in
    let r = c.part_start-start.result in
    let i = c.args.k - l.counter in
    let le = start-within d l.end r l.invariant.within c.part_start-start.ensures in
    let z : i - 1 ≡ c.args.k - (l.counter + 1) = omega arith in
    record {
      within = omega (arith, l.invariant.within);
      sought = later d l.end r l.invariant.within c.part_start-start.ensures c.args.k i l.invariant.sought (omega arith)
          ∙ ap (λ (ts : List Tok). get_or ts (i - 1) []) (left_some d r (omega arith))
          ∙ ap (λ (n : ℕ). get_or (parts_of (take (r - 1) d)) n []) z;
    }

pub returns : goal.returns
returns c =
    let l = c.loop in
    here c.args.domain.now l.end c.part_start.result l.invariant.within c.part_start.ensures c.args.k (c.args.k - l.counter) l.invariant.sought (omega arith)
