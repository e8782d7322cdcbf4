-- `table_order::compare::equal_block` meets its contract. The loop's invariant: while none differs, the bytes passed are equal.
-- Assumes nothing.
use mathlib.Core.Path.{◌≡◌}
use mathlib.Core.Bool.{true, ◌&&◌}
use native.Mathlib.Omega.{arith}
use borrow.Author.Tests.{eqb-false, eqb-true}
use lib.Dec.{eqb}
use lib.ListN.{get_or}
use Rattle.chars.proofs.Laws.Lists.{and_left, and_right, by_test}
use Rattle.table_order.proofs.compare.equal_block.Goals as goal

pub loop-i-init : goal.loop-i-init
loop-i-init c = λ e j h. absurd (omega arith)

pub loop-i-preserved : goal.loop-i-preserved
loop-i-preserved c =
    let l = c.loop-i in
    let a = c.args in
    let x = get_or a.a.now l.i 0 in
    let y = get_or a.b.now l.i 0 in
    λ e j h. let t : (l.same && eqb x y) ≡ true = e in
    by_test (eqb j l.i)
    (λ f. rw (eqb-true j l.i f) (eqb-true x y (and_right l.same (eqb x y) t)))
    (λ f. l.invariant (and_left l.same (eqb x y) t) j (omega (arith, eqb-false j l.i f)))

pub returns : goal.returns
returns c =
    let l = c.loop-i in
    λ e. record { onward = omega arith; within = omega arith; equal = λ j m h. l.invariant e j (omega arith) }
