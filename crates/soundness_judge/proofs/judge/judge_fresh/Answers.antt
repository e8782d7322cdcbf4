-- `soundness_judge::judge::judge_fresh` meets its contract: the number is the row's fresh one, its label behind the path makes a candidate, and
-- the candidate's coming back is what is tried.
-- Assumes nothing.
use Rattle.std.proofs.Common.{◌≡◌, true, ℕ, List, take, ap, ◌∙◌, arith, eqb}
use Rattle.table_load.specs.Tables.{table_of}
use Rattle.table.specs.Rows.{between, row_at}
use Rattle.table.specs.Table.{Row, Table}
use Rattle.soundness.specs.Folded.{domain_row, token_table}
use Rattle.soundness.specs.Sound.{comes_back}
use Rattle.soundness.specs.Tokens.{Tried}
use Rattle.soundness.proofs.Laws.First.{fresh-small, fresh_asks, fresh_tried, parts-count, path-added}
use Rattle.soundness.proofs.Laws.Judged.{judged_then}
use Rattle.soundness_judge.proofs.judge.judge_fresh.Goals as goal

pub free_number-requires-clause-parts_value : goal.free_number-requires-clause-parts_value
unfolding row_at between
free_number-requires-clause-parts_value c =
    let a = c.args in
    c.count_parts-parts.ensures ∙ parts-count (between a.table.now.text.now a.row.domain a.row.domain_end)

pub odd_label-label-requires : goal.odd_label-label-requires
odd_label-label-requires c =
    let a = c.args in
    fresh-small (table_of a.table.now) c.args.table.now.formed (row_at a.table.now.text.now a.row) c.requires.row_of.member
    c.free_number.result c.free_number.ensures

pub with_token-candidate-requires-clause-path_fits : goal.with_token-candidate-requires-clause-path_fits
with_token-candidate-requires-clause-path_fits c =
    let a = c.args in
    path-added (table_of a.table.now) c.args.table.now.formed (row_at a.table.now.text.now a.row) c.requires.row_of.member

pub judge-requires : goal.judge-requires
judge-requires c =
    let a = c.args in
    let w =
    fresh_asks (table_of a.table.now) c.args.table.now.formed (row_at a.table.now.text.now a.row) c.requires.row_of.member
    c.free_number.result c.label_size.result a.k c.requires.k_value c.requires.two_or_three c.label_size.ensures.whole c.label_size.ensures.part
    c.with_token-candidate.result (rw c.odd_label-label.ensures at c.with_token-candidate.ensures) in
    record { canonical = w.0; free = w.1 }

pub returns : goal.returns
returns c =
    let a = c.args in
    let t : Table = table_of a.table.now in
    let r : Row = row_at a.table.now.text.now a.row in
    judged_then t (comes_back t c.with_token-candidate.result ≡ true) (Tried (token_table t) (domain_row r) (eqb a.k 3)) c.judge.result
    (fresh_tried t c.args.table.now.formed r c.requires.row_of.member c.free_number.result c.label_size.result a.k c.requires.k_value
    c.requires.two_or_three c.label_size.ensures.whole c.label_size.ensures.part c.with_token-candidate.result
    (rw c.odd_label-label.ensures at c.with_token-candidate.ensures) c.free_number.ensures)
    c.judge.ensures
