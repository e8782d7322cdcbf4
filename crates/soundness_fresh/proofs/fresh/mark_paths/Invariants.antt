-- `soundness_fresh::fresh::mark_paths` meets its contract. The loop's invariant: the rows that are left, marked in the marks so far, are all
-- rows marked.
-- Assumes nothing.
use Rattle.std.proofs.Common.{◌≡◌, ◌-◌, map}
use Rattle.table.specs.Rows.{rows_at, rows_from}
use Rattle.soundness.specs.Folded.{domain_row}
use Rattle.soundness.specs.Labels.{marked}
use Rattle.soundness_fresh.proofs.fresh.mark_paths.Given as goal

abbrev pub invariant-loop-i : goal.invariant-loop-i
invariant-loop-i l =
    marked l.k (map domain_row (rows_at l.text l.rows l.n)) l.initial.marks ≡ marked l.k (map domain_row (rows_from l.text l.rows l.i (l.n - l.i))) l.marks
