-- `soundness_fresh::fresh::mark_paths` meets its contract. The loop's invariant: the rows that are left, marked in the marks so far, are all
-- rows marked.
-- Assumes nothing.
use Rattle.std.proofs.Common.{◌≡◌, ◌-◌, ◌+◌, ℕ, List, Bool, true, [], map, set, get_or, refl, ap, sym, ◌∙◌, arith}
use Rattle.table.specs.Rows.{between, row_at, rows_from}
use Rattle.table.specs.declared.line.Row.{Row}
use Rattle.soundness.specs.Folded.{domain_row, fold_tokens}
use Rattle.soundness.specs.Labels.{label_number, marked}
use Rattle.soundness.proofs.Laws.Marks.{marks-all, marks-end, marks-more, number_at}
use Rattle.soundness_fresh.proofs.fresh.mark_paths.Goals as goal

pub loop-i-init : goal.loop-i-init
loop-i-init c = let a = c.args in marks-all domain_row a.k a.text.now a.rows.now a.n a.marks.now

pub loop-i-preserved : goal.loop-i-preserved
unfolding row_at
loop-i-preserved c =
    let l = c.loop-i in
    let a = c.args in
    let span = c.level_span-span.result in
    let number =
    number_at a.text.now span.start (span.start + span.len) span.len (row_at a.text.now c.row_at-row.result).path a.k refl c.level_span-span.ensures.token
    ∙ ap (λ (p : Row). label_number (get_or (fold_tokens (row_at a.text.now p).path) a.k [])) c.row_at-row.ensures in
    l.invariant
    ∙ marks-more domain_row a.k a.text.now a.rows.now a.n l.marks l.i (omega arith)
    ∙ ap (λ (ms : List Bool). marked a.k (map domain_row (rows_from a.text.now a.rows.now (l.i + 1) (a.n - (l.i + 1)))) ms)
    (sym (c.mark.ensures ∙ ap (λ (m : ℕ). set l.marks m true) number))

pub returns : goal.returns
returns c =
    let l = c.loop-i in
    let a = c.args in
    sym (l.invariant ∙ marks-end domain_row a.k a.text.now a.rows.now a.n l.marks l.i (omega arith))
