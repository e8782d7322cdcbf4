-- `soundness_check::check::judge_pairs` meets its contract. The loop's invariant: the second candidates of each row before row i come back.
-- Assumes nothing.
use Rattle.std.proofs.Common.{ℕ, ◌<◌}
use Rattle.table_load.specs.Tables.{table_of}
use Rattle.table.specs.Rows.{places_at, row_at}
use Rattle.soundness.specs.Check.{AllUnder}
use Rattle.soundness_check.proofs.check.judge_pairs.Given as goal

abbrev pub invariant-loop-i : goal.invariant-loop-i
invariant-loop-i l = (j : ℕ) → j < l.i → AllUnder (table_of l.table) (row_at l.table.text.now (places_at l.table.to_domain.now j))
