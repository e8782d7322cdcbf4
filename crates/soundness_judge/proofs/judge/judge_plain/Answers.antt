-- `soundness_judge::judge::judge_plain` meets its contract: the levels of the row's path make a candidate, and its coming back says that they
-- come back.
-- Assumes nothing.
use borrow.Author.Rules.{rules}
use mathlib.Core.Bool.{true}
use mathlib.Core.Path.{◌≡◌}
use Rattle.table_load.specs.Tables.{table_of}
use Rattle.table.specs.Rows.{row_at}
use Rattle.table.specs.Table.{Row, Table}
use Rattle.soundness.specs.Folded.{domain_row, token_table}
use Rattle.soundness.specs.Sound.{comes_back}
use Rattle.soundness.specs.Tokens.{Back, pad}
use Rattle.soundness.proofs.Laws.First.{plain_asks, plain_tried}
use Rattle.soundness.proofs.Laws.Judged.{judged_then}
use Rattle.soundness_judge.proofs.judge.judge_plain.Goals as goal

pub judge-requires : goal.judge-requires
judge-requires c =
    let a = c.args in
    let t : Table = table_of a.table.now in
    let r : Row = row_at a.table.now.text.now a.row in
    let w = plain_asks t c.args.table.now.formed r c.requires.member c.plain.result c.plain.ensures in
    record { canonical = w.0; free = w.1 }

pub returns : goal.returns
returns c =
    let made = c.plain in
    let a = c.args in
    let t : Table = table_of a.table.now in
    let r : Row = row_at a.table.now.text.now a.row in
    judged_then t (comes_back t made.result ≡ true) (Back (token_table t) (pad (domain_row r).key)) c.judge.result
    (plain_tried t c.args.table.now.formed r c.requires.member made.result made.ensures)
    c.judge.ensures
