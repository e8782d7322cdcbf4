-- `soundness_check::check::check_loaded` meets its contract: with all candidates back the table is sound.
-- Assumes nothing.
use Rattle.table_load.specs.Tables.{table_of}
use Rattle.table.specs.Table.{Table}
use Rattle.soundness.specs.Check.{AllSecond}
use Rattle.soundness.specs.Sound.{Sound}
use Rattle.soundness.proofs.Laws.Accept.{sound-table}
use Rattle.soundness.proofs.Laws.Judged.{all_checked, judged_then}
use Rattle.soundness_check.proofs.check.check_loaded.Goals as goal

pub returns : goal.returns
returns c =
    let a = c.args in
    let t : Table = table_of a.table.now in
    judged_then t (AllSecond t) (Sound t) c.judge_pairs.result
    (λ second. sound-table t a.table.now.formed (all_checked t c.in_ok-judge_rows.ensures second))
    c.judge_pairs.ensures
