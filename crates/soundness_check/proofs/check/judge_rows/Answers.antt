-- `soundness_check::check::judge_rows` meets its contract: each row was judged.
-- Assumes nothing.
use Rattle.std.proofs.Common.{ℕ, subst, arith, below_more}
use Rattle.table_load.specs.Tables.{table_of}
use Rattle.table.specs.Rows.{places_at, row_at}
use Rattle.table.specs.Table.{Table}
use Rattle.table.specs.declared.line as line
use Rattle.soundness.specs.Check.{FirstBack}
use Rattle.soundness.proofs.Laws.Judged.{each-domain}
use Rattle.soundness_judge.proofs.Laws.{row-of}
use Rattle.soundness_check.proofs.check.judge_rows.Goals as goal

pub judge_row-requires : goal.judge_row-requires
judge_row-requires c =
    let a = c.args in
    row-of a.table.now c.row_at.result c.loop-i.i (omega arith) c.row_at.ensures

pub loop-i-preserved : goal.loop-i-preserved
loop-i-preserved c =
    let a = c.args in
    let t : Table = table_of a.table.now in
    below_more (λ j. FirstBack t (row_at a.table.now.text.now (places_at a.table.now.to_domain.now j))) c.loop-i.i c.loop-i.invariant
    (subst (λ (q : line.Row.Row). FirstBack t (row_at a.table.now.text.now q)) c.row_at.ensures c.in_ok-judge_row.ensures)

pub returns : goal.returns
returns c =
    let a = c.args in
    each-domain a.table.now.text.now a.table.now.to_path.now a.table.now.to_domain.now a.table.now.loaded (FirstBack (table_of a.table.now))
    (λ i h. c.loop-i.invariant i (omega arith))
