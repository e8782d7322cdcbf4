-- `router::run::route_from` meets its contract.
-- Assumes nothing.
use mathlib.Core.Path.{◌≡◌, refl, ap, ◌∙◌, subst}
use mathlib.Core.List.{List}
use Prim.Native.Nat.{ℕ, ◌-◌, ◌+◌, ◌<◌}
use native.Mathlib.Omega.{arith}
use lib.ListN.{length, take, drop, length-drop}
use Rattle.chars.specs.Parts.{run}
use Rattle.chars.proofs.Laws.Parts.{run_le}
use Rattle.table_load.specs.Tables.{table_answer}
use Rattle.chars.proofs.Laws.Write.{wrote_as}
use Rattle.router_line.specs.Line.{line_answer}
use Rattle.router.proofs.Laws.Run.{routing-end, routing-full, routing_then, went_line, went-start, went_then}
use Rattle.router.proofs.run.route_from.Goals as goal

-- where an LF stands behind a place, it stands within the text
lf_within : (s : List ℕ) (at end : ℕ) → at < length s → end ≡ at + run 10 (drop at s) → (end ≡ length s → ⊥) → end < length s
lf_within s at end h e n = omega (arith, run_le 10 (drop at s), length-drop at s)

-- the line from there is what stands before its LF
line_is : (s : List ℕ) (at end : ℕ) → end ≡ at + run 10 (drop at s) → take (end - at) (drop at s) ≡ take (run 10 (drop at s)) (drop at s)
line_is s at end e =
    let k : end - at ≡ run 10 (drop at s) = omega arith in
    ap (λ (k : ℕ). take k (drop at s)) k

pub loop-at-init : goal.loop-at-init
loop-at-init c = (refl, went-start c.args.from 0 c.args.out.now c.requires (omega arith))

pub route_rest-requires : goal.route_rest-requires
route_rest-requires c =
    let l = c.loop-at in record {
      at_in_bounds = omega arith;
      input_value = omega (arith, c.part_end-end.ensures, length-drop l.at c.args.input.now, c.if-end-input.true);
      written_in_bounds = omega (arith, l.invariant.1.room, l.invariant.0);
    }

pub shape_of-out-then-end-input : goal.shape_of-out-then-end-input
shape_of-out-then-end-input c = c.route_rest.auto.out ∙ c.loop-at.invariant.0

pub returns-then-end-input : goal.returns-then-end-input
returns-then-end-input c = routing_then c.loop-at.invariant.1 c.route_rest.ensures

pub slice_bounds-line-count : goal.slice_bounds-line-count
slice_bounds-line-count c = omega (arith, c.part_end-end.ensures)

pub slice_bounds-line-end : goal.slice_bounds-line-end
slice_bounds-line-end c =
    let l = c.loop-at in
    let end = c.part_end-end in
    omega (arith, lf_within c.args.input.now l.at end.result (omega arith) end.ensures c.if-end-input.false)

pub place_answer-requires : goal.place_answer-requires
place_answer-requires c =
    omega (arith, c.loop-at.invariant.1.room, c.loop-at.invariant.0)

pub shape_of-out-in_default : goal.shape_of-out-in_default
shape_of-out-in_default c = c.place_answer.auto.out ∙ c.loop-at.invariant.0

pub returns-in_default : goal.returns-in_default
returns-in_default c =
    let a = c.args in
    let l = c.loop-at in
    let loaded = table_answer a.read.now in
    let q = c.in_default.ensures in
    routing-full l.invariant.1 c.place_answer.new.out (omega arith) q.0
    (subst (λ (t : List ℕ). length l.out < l.written + length (line_answer loaded t))
    (line_is a.input.now l.at c.part_end-end.result c.part_end-end.ensures) q.1)

pub overflow_add-at : goal.overflow_add-at
overflow_add-at c =
    let l = c.loop-at in
    let end = c.part_end-end in
    omega (arith, lf_within c.args.input.now l.at end.result (omega arith) end.ensures c.if-end-input.false)

pub loop-at-smaller : goal.loop-at-smaller
loop-at-smaller c =
    let l = c.loop-at in
    let end = c.part_end-end in
    omega (arith, lf_within c.args.input.now l.at end.result (omega arith) end.ensures c.if-end-input.false, end.ensures)

pub loop-at-preserved : goal.loop-at-preserved
loop-at-preserved c =
    let a = c.args in
    let s = a.input.now in
    let l = c.loop-at in
    let end = c.part_end-end in
    let loaded = table_answer a.read.now in
    let q = c.in-Some.ensures in
    let new = c.place_answer.new.out in
    let before = line_answer loaded (take (end.result - l.at) (drop l.at s)) in
    let line = line_answer loaded (take (run 10 (drop l.at s)) (drop l.at s)) in (
      c.place_answer.auto.out ∙ l.invariant.0,
      went_then l.invariant.1
          (went_line l.at end.result l.written c.in-Some.n l.out new (omega arith) end.ensures
          (lf_within s l.at end.result (omega arith) end.ensures c.if-end-input.false)
          (wrote_as before line (ap (line_answer loaded) (line_is s l.at end.result end.ensures)) q.0)
          q.1),
    )

pub shape_of-out : goal.shape_of-out
shape_of-out c = c.loop-at.invariant.0

pub returns : goal.returns
returns c = routing-end c.loop-at.invariant.1 (omega arith)
