-- `table_order::compare::equal_blocks` meets its contract. The loop's invariant: the two are equal up to the place i.
-- Assumes nothing.
use Prim.Native.Nat.{◌-◌}
use Rattle.table_order.specs.Place.{EqualUpTo}
use Rattle.table_order.proofs.compare.equal_blocks.Given as goal

abbrev pub invariant-loop-i : goal.invariant-loop-i
invariant-loop-i l = EqualUpTo l.a l.b l.from l.end l.i

abbrev pub decreases-loop-i : goal.decreases-loop-i
decreases-loop-i l = l.end - l.i
