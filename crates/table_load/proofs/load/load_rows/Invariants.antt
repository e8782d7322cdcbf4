-- `table_load::load::load_rows` meets its contract. The loop's invariant: what the lines from `from` on come to is what those from `at` on come to
-- after the rows read so far, and the number of the line is at most two more than the place.
-- Assumes nothing.
use mathlib.Core.Path.{◌≡◌}
use Prim.Native.Nat.{◌-◌}
use lib.ListN.{length}
use Rattle.table.specs.Rows.{bare_table, row_at}
use Rattle.table_load.proofs.Laws.Load.{Progress}
use Rattle.table_load.proofs.load.load_rows.Given as goal

abbrev pub invariant-loop-at : goal.invariant-loop-at
invariant-loop-at l =
    (length l.to_path ≡ length l.initial.to_path)
    × (length l.to_domain ≡ length l.initial.to_domain)
    × (Progress l.text (bare_table (row_at l.text l.initial.table.gateway)) l.from l.to_path l.to_domain l.table l.at l.line)

abbrev pub decreases-loop-at : goal.decreases-loop-at
decreases-loop-at l = length l.text - l.at
