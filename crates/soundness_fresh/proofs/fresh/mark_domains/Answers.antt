-- `soundness_fresh::fresh::mark_domains` meets its contract. The loop's invariant: the rows that are left, marked in the marks so far, are all
-- rows marked.
-- Assumes nothing.
use Rattle.std.proofs.Common.{◌≡◌, ◌-◌, ◌+◌, ℕ, List, Bool, true, [], map, set, get_or, refl, ap, sym, ◌∙◌, arith}
use Rattle.mailaddr.specs.Domain.{parts_of}
use Rattle.table.specs.Rows.{between, row_at, rows_from}
use Rattle.table.specs.declared.line.Row.{Row}
use Rattle.soundness.specs.Folded.{path_row, fold_tokens}
use Rattle.soundness.specs.Labels.{label_number, marked}
use Rattle.soundness.proofs.Laws.Marks.{marks-all, marks-end, marks-more, part_number}
use Rattle.soundness_fresh.proofs.fresh.mark_domains.Goals as goal

pub loop-i-init : goal.loop-i-init
loop-i-init c = let a = c.args in marks-all path_row a.k a.text.now a.rows.now a.n a.marks.now

pub loop-i-preserved : goal.loop-i-preserved
unfolding row_at between
loop-i-preserved c =
    let l = c.loop-i in
    let a = c.args in
    let number =
    part_number c.part.result.now (row_at a.text.now c.row_at-row.result).domain a.k c.part.ensures
    ∙ ap (λ (p : Row). label_number (get_or (fold_tokens (parts_of (row_at a.text.now p).domain)) a.k [])) c.row_at-row.ensures in
    l.invariant
    ∙ marks-more path_row a.k a.text.now a.rows.now a.n l.marks l.i (omega arith)
    ∙ ap (λ (ms : List Bool). marked a.k (map path_row (rows_from a.text.now a.rows.now (l.i + 1) (a.n - (l.i + 1)))) ms)
    (sym (c.mark.ensures ∙ ap (λ (m : ℕ). set l.marks m true) number))

pub returns : goal.returns
returns c =
    let l = c.loop-i in
    let a = c.args in
    sym (l.invariant ∙ marks-end path_row a.k a.text.now a.rows.now a.n l.marks l.i (omega arith))
