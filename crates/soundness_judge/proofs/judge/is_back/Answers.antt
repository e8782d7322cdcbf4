-- `soundness_judge::judge::is_back` meets its contract: address to record gives a record, or none.
-- Assumes nothing.
use Rattle.std.proofs.Common.{◌∙◌}
use Rattle.table_load.specs.Tables.{table_of}
use Rattle.soundness.proofs.Laws.Told.{back_done, back-not}
use Rattle.soundness_judge.proofs.judge.is_back.Goals as goal

pub returns-in-Ok : goal.returns-in-Ok
returns-in-Ok c = let a = c.args in c.same_record.ensures ∙ back_done (table_of a.table.now) a.s.now a.rec c.in-Ok.back (c.in-Ok.ensures ∙ c.of.ensures a.s.now)

pub returns-in-Err : goal.returns-in-Err
returns-in-Err c = let a = c.args in back-not (table_of a.table.now) a.s.now a.rec c.in-Err.field-0 (c.in-Err.ensures ∙ c.of.ensures a.s.now)
