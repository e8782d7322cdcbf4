-- `mailaddr::tail::tail_start` meets its contract. The loop's invariant: what the shared parts take is what stands behind `i`
-- and what is shared of the parts that end at `i` and `j`; `start` is behind the dot at `i`, or at the end.
-- Assumes nothing.
use Rattle.std.proofs.Common.{sym}
use Prim.Native.Nat.{ℕ, suc, ◌≤◌, ◌<◌, ◌+◌, ◌-◌}
use mathlib.Core.Path.{◌≡◌, ap, ◌∙◌}
use native.Mathlib.Omega.{arith}
use lib.ListN.{length, take}
use lib.Seq.{take-length}
use Rattle.mailaddr.specs.Domain.{parts_of}
use Rattle.mailaddr.proofs.Laws.Domain.{parts_left, start-within}
use Rattle.mailaddr.proofs.Laws.Tail.{spread, spread_differ, spread_first, spread_more, spread_same, spread_second, tail_at, tail-length}
use Rattle.mailaddr.proofs.tail.tail_start.Goals as goal
use Rattle.mailaddr.proofs.tail.tail_start.Goals.{then-p-eq0-via-then-p-eq0, then-p-eq0-via-else-p-eq0+then-q-eq0}

-- the numbers of a turn that goes on before the dot: n is the length, t what all shared parts take, s and m what is shared
-- before and after the turn
turn : (n i p t s m : ℕ) → 0 < p → p ≤ i → i ≤ n → t + i ≡ n + s → s + p ≡ suc (i + m)
    → (p - 1 < i) × (p - 1 ≤ n) × (p ≡ n - (n - (p - 1) - 1)) × (t + (p - 1) ≡ n + m)
turn n i p t s m h k l e f = (omega arith, omega arith, omega arith, omega arith)

pub loop-start-init : goal.loop-start-init
loop-start-init c =
    let a = c.args.a.now in
    let b = c.args.b.now in
    let e : spread (parts_of (take (length a) a)) (parts_of (take (length b) b)) ≡ spread (parts_of a) (parts_of b) =
    rw (take-length a, take-length b) in
    omega arith

pub returns-then-not-same_text : goal.returns-then-not-same_text
returns-then-not-same_text c =
    let a = c.args.a.now in
    let b = c.args.b.now in
    let l = c.loop-start in
    let p = c.part_start-p in
    let q = c.part_start-q in
    omega (
      arith,
      l.invariant,
      tail-length a b,
      spread_differ a b l.i l.j p.result q.result l.invariant.0 l.invariant.1 p.ensures q.ensures
          (sym c.same_text.ensures ∙ c.if-not-same_text.true),
    )

pub returns-then-p-eq0 : goal.returns-then-p-eq0
returns-then-p-eq0 c =
    let a = c.args.a.now in
    let b = c.args.b.now in
    let l = c.loop-start in
    let p = c.part_start-p in
    let q = c.part_start-q in
    let same = spread_same a b l.i l.j p.result q.result l.invariant.0 l.invariant.1 p.ensures q.ensures
    (sym c.same_text.ensures ∙ c.if-not-same_text.false) in
    elim c.then-p-eq0.branch [
      | then-p-eq0-via-then-p-eq0 w ↦
          tail_at a b p.result (omega (arith, p.ensures))
          (omega (arith, l.invariant.3, same, spread_first a p.result (parts_left b q.result) w.if-p-eq0.true))
      | then-p-eq0-via-else-p-eq0+then-q-eq0 w ↦
          tail_at a b p.result (omega (arith, p.ensures))
          (omega (arith, l.invariant.3, same, spread_second (parts_left a p.result) b q.result w.if-q-eq0.true))
    ]

pub loop-start-smaller : goal.loop-start-smaller
loop-start-smaller c =
    let a = c.args.a.now in
    let b = c.args.b.now in
    let l = c.loop-start in
    let p = c.part_start-p in
    let q = c.part_start-q in
    let same = spread_same a b l.i l.j p.result q.result l.invariant.0 l.invariant.1 p.ensures q.ensures
    (sym c.same_text.ensures ∙ c.if-not-same_text.false) in
    (turn (length a) l.i p.result (spread (parts_of a) (parts_of b)) (spread (parts_of (take l.i a)) (parts_of (take l.j b)))
    (spread (parts_left a p.result) (parts_left b q.result))
    (omega arith)
    (start-within a l.i p.result l.invariant.0 p.ensures)
    l.invariant.0
    l.invariant.3
    same).0

pub loop-start-preserved : goal.loop-start-preserved
loop-start-preserved c =
    let a = c.args.a.now in
    let b = c.args.b.now in
    let l = c.loop-start in
    let p = c.part_start-p in
    let q = c.part_start-q in
    let same = spread_same a b l.i l.j p.result q.result l.invariant.0 l.invariant.1 p.ensures q.ensures
    (sym c.same_text.ensures ∙ c.if-not-same_text.false) in
    let on = turn (length a) l.i p.result (spread (parts_of a) (parts_of b)) (spread (parts_of (take l.i a)) (parts_of (take l.j b)))
    (spread (parts_left a p.result) (parts_left b q.result))
    (omega arith)
    (start-within a l.i p.result l.invariant.0 p.ensures)
    l.invariant.0
    l.invariant.3
    same in (
      on.1,
      omega (arith, q.ensures),
      on.2,
      on.3 ∙ ap (λ k. length a + k) (spread_more a b p.result q.result (omega arith) (omega arith)),
    )
