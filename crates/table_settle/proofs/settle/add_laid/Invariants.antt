-- `table_settle::settle::add_laid` meets its contract. The loop's invariant: the levels left, noted from k on, added to what came so far,
-- are all of them added.
-- Assumes nothing.
use mathlib.Core.Path.{◌≡◌}
use Prim.Native.Nat.{◌+◌, ◌-◌}
use Rattle.oraddr.specs.Add.{told}
use Rattle.oraddr.specs.View.{empty_record}
use Rattle.table.specs.Rows.{fields_at}
use Rattle.table_settle.specs.Settle.{add_levels, begun}
use Rattle.table_settle.proofs.Laws.Nexts.{Noted}
use Rattle.table_settle.proofs.settle.add_laid.Given as goal

abbrev pub invariant-loop-from : goal.invariant-loop-from
invariant-loop-from l =
    Noted l.text l.from l.end l.nexts l.k
    × (add_levels 0 (fields_at l.text l.at l.end) (begun empty_record) ≡ add_levels l.k (fields_at l.text l.from l.end) (told l.done))

abbrev pub decreases-loop-from : goal.decreases-loop-from
decreases-loop-from l = l.end + 1 - l.from
