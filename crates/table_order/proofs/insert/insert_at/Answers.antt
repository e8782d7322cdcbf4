-- `table_order::insert::insert_at` meets its contract. The loop's invariant: the numbers from i on stand one place further.
-- Assumes nothing.
use mathlib.Core.Path.{◌≡◌, ◌∙◌}
use Prim.Native.Nat.{suc, ◌+◌, ◌-◌}
use native.Mathlib.Omega.{arith}
use lib.ListN.{length-set}
use Rattle.table.specs.Rows.{order_start}
use Rattle.table_order.specs.Place.{number_in}
use Rattle.table_order.proofs.Laws.Insert.{Moved, moved-end, moved_none, moved_step}
use Rattle.table_order.proofs.insert.insert_at.Goals as goal

pub loop-i-init : goal.loop-i-init
loop-i-init c = (c.requires.0, moved_none c.args.rows.now c.args.n)

pub loop-i-preserved : goal.loop-i-preserved
unfolding number_in
loop-i-preserved c =
    let a = c.args in
    let i = c.loop-i.i - 1 in
    let e : suc i ≡ c.loop-i.i = omega arith in
    let f : order_start + i + 1 ≡ order_start + suc i = omega arith in
    let m : Moved a.rows.now a.n (suc i) c.loop-i.rows = rw e c.loop-i.invariant.1 in
    (omega arith, rw f (moved_step a.rows.now a.n c.loop-i.rows c.requires.1 c.requires.2 i (omega arith) m))

pub bounds-rows-k : goal.bounds-rows-k
bounds-rows-k c = omega (arith, c.loop-i.invariant.1.size)

pub shape_of-rows : goal.shape_of-rows
shape_of-rows c = length-set c.loop-i.rows (order_start + c.args.k) c.args.n ∙ c.loop-i.invariant.1.size

pub returns : goal.returns
returns c =
    let a = c.args in
    let e : c.loop-i.i ≡ a.k = omega arith in
    moved-end a.rows.now a.n c.loop-i.rows c.requires.1 c.requires.2 a.k c.requires.0 (rw e at c.loop-i.invariant.1)
