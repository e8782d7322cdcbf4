-- `table_order::compare::compare` meets its contract. The loop's invariant: the two are equal up to the place i.
-- Assumes nothing.
use Prim.Native.Nat.{◌≤◌}
use Rattle.table_order.specs.Order.{spell_by}
use Rattle.table_order.proofs.Laws.Compare.{Parted}
use Rattle.table_order.proofs.compare.compare.Given as goal

abbrev pub invariant-loop-i : goal.invariant-loop-i
invariant-loop-i l = (l.i ≤ l.end) × Parted (spell_by l.key l.a) (spell_by l.key l.b) l.i
