-- `soundness_check::check::judge_under` meets its contract. The loop's invariant: the second candidates of the gateway's domain and of the rows
-- before row i come back.
-- Assumes nothing.
use Rattle.std.proofs.Common.{ℕ, ◌<◌}
use Rattle.table_load.specs.Tables.{table_of}
use Rattle.table.specs.Rows.{places_at, row_at}
use Rattle.table.specs.Table.{Table}
use Rattle.soundness.specs.Check.{SecondBack}
use Rattle.soundness_check.proofs.check.judge_under.Given as goal

abbrev pub invariant-loop-i : goal.invariant-loop-i
invariant-loop-i l =
    let t : Table = table_of l.table in record {
      gateway : SecondBack t (row_at l.table.text.now l.row) t.gateway.domain;
      before : (j : ℕ) → j < l.i → SecondBack t (row_at l.table.text.now l.row) (row_at l.table.text.now (places_at l.table.to_path.now j)).domain;
    }
