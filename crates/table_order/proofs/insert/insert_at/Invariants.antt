-- `table_order::insert::insert_at` meets its contract. The loop's invariant: the numbers from i on stand one place further.
-- Assumes nothing.
use Prim.Native.Nat.{◌≤◌}
use Rattle.table_order.proofs.Laws.Insert.{Moved}
use Rattle.table_order.proofs.insert.insert_at.Given as goal

abbrev pub invariant-loop-i : goal.invariant-loop-i
invariant-loop-i l = (l.k ≤ l.i) × Moved l.initial.rows l.n l.i l.rows
