-- `soundness_check::check::judge_row` meets its contract: each way out has judged the candidates that a path of so many fields has, and the
-- other candidates are none.
-- Assumes nothing.
use Rattle.std.proofs.Common.{◌≡◌, eqb}
use Rattle.table_load.specs.Tables.{table_of}
use Rattle.table.specs.Rows.{row_at}
use Rattle.table.specs.Table.{Row, Table}
use Rattle.soundness.specs.Check.{FirstBack}
use Rattle.soundness.specs.Folded.{domain_row, token_table}
use Rattle.soundness.specs.Tokens.{Tried}
use Rattle.soundness.proofs.Laws.First.{first-bare, first-named, first_plain, first_two}
use Rattle.soundness.proofs.Laws.Judged.{judged_then}
use Rattle.soundness_check.proofs.check.judge_row.Goals.{else-k-eq3-via-then-k-eq3+else-level_span-eq0, else-k-eq3-via-else-k-eq3}
use Rattle.soundness_check.proofs.check.judge_row.Goals as goal

pub judge_fresh-requires-clause-k_value : goal.judge_fresh-requires-clause-k_value
unfolding row_at
judge_fresh-requires-clause-k_value c = c.count_levels-k.ensures

pub returns-then-k-eq2 : goal.returns-then-k-eq2
unfolding row_at
returns-then-k-eq2 c =
    let a = c.args in
    let t : Table = table_of a.table.now in
    let r : Row = row_at a.table.now.text.now a.row in
    let k = c.count_levels-k in
    judged_then t (Tried (token_table t) (domain_row r) (eqb k.result 3)) (FirstBack t r) c.judge_fresh.result
    (first_two t r k.result k.ensures c.if-k-eq2.true)
    c.judge_fresh.ensures

pub judge_fresh-requires-then-level_span-eq0-clause-k_value : goal.judge_fresh-requires-then-level_span-eq0-clause-k_value
unfolding row_at
judge_fresh-requires-then-level_span-eq0-clause-k_value c = c.count_levels-k.ensures

pub returns-then-level_span-eq0 : goal.returns-then-level_span-eq0
unfolding row_at
returns-then-level_span-eq0 c =
    let a = c.args in
    let t : Table = table_of a.table.now in
    let r : Row = row_at a.table.now.text.now a.row in
    let k = c.count_levels-k in
    let done = c.judge_fresh-then-level_span-eq0 in
    judged_then t (Tried (token_table t) (domain_row r) (eqb k.result 3)) (FirstBack t r) done.result
    (first-bare t r k.result k.ensures c.if-k-eq2.false c.in_ok-judge_plain.ensures c.if-k-eq3.true)
    done.ensures

pub returns : goal.returns
unfolding row_at
returns c =
    let a = c.args in
    let t : Table = table_of a.table.now in
    let r : Row = row_at a.table.now.text.now a.row in
    let k = c.count_levels-k in
    elim c.else-k-eq3.branch [
      | else-k-eq3-via-then-k-eq3+else-level_span-eq0 w ↦
          let p = w.level_span in
          first-named t r k.result k.ensures c.if-k-eq2.false c.in_ok-judge_plain.ensures a.table.now.text.now p.result.start p.result.len
          p.ensures.within p.ensures.token w.if-level_span-eq0.false
      | else-k-eq3-via-else-k-eq3 w ↦ first_plain t r k.result k.ensures c.if-k-eq2.false c.in_ok-judge_plain.ensures w.if-k-eq3.false
    ]
