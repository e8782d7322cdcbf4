-- `soundness_check::check::check_under` meets its contract: the table that was read is checked, or the number of its first bad line is told.
-- Assumes nothing.
use Rattle.std.proofs.Common.{refl}
use borrow.Author.Rules.{rules}
use Rattle.table_load.specs.Tables.{table_of}
use Rattle.soundness.proofs.Laws.Judged.{told-judged}
use Rattle.soundness_check.proofs.check.check_under.Goals as goal

pub returns-in-Ok : goal.returns-in-Ok
returns-in-Ok c =
    rw c.in-Ok.is
    (told-judged (table_of c.in-Ok.table) c.check_loaded.result c.map_err.result c.check_loaded.ensures (search rules))

pub returns-in-Err : goal.returns-in-Err
returns-in-Err c = rw c.in-Err.is (record { number = refl; line = refl; empty = refl })
