-- `table::line::are_fields` meets its contract. It calls itself for the fields behind the first with one level less left, which is
-- the measure.
-- Assumes nothing.
use mathlib.Core.Path.{sym, ap, ◌∙◌}
use native.Mathlib.Omega.{arith}
use lib.Seq.{length-take-le}
use Rattle.table.specs.Rows.{between, fields_at}
use Rattle.table.proofs.Laws.Fields.{fields-first, fields-past, fields-some, fit, fit_next, fit_none, fit_over, fit_stop, stop_within}
use Rattle.table.proofs.line.+are_fields.Goals as goal

pub returns-then-end-at : goal.returns-then-end-at
returns-then-end-at t c =
    let a = c.args in
    sym (ap (fit a.k a.left) (fields-past a.text.now a.at a.end c.if-end-at.true) ∙ fit_none a.k a.left)

pub returns-then-left-eq0 : goal.returns-then-left-eq0
returns-then-left-eq0 t c =
    let a = c.args in
    sym (fit_over a.k a.left (fields_at a.text.now a.at a.end) (fields-some a.text.now a.at a.end (omega arith)) (omega arith))

pub slice_bounds-part_end-end : goal.slice_bounds-part_end-end
slice_bounds-part_end-end t c =
    let a = c.args in
    sym (length-take-le a.end a.text.now (omega arith))

pub slice_bounds-is_field-end : goal.slice_bounds-is_field-end
slice_bounds-is_field-end t c =
    let a = c.args in
    omega (arith, stop_within a.text.now a.at a.end c.part_end-stop.result (omega arith) (omega arith) c.part_end-stop.ensures)

pub returns-else-is_field : goal.returns-else-is_field
unfolding between
returns-else-is_field t c =
    let a = c.args in
    let first = fields-first a.text.now a.at a.end c.part_end-stop.result (omega arith) (omega arith) c.part_end-stop.ensures in
    c.if-is_field.false
    ∙ sym (fit_stop a.k a.left first (sym c.is_field.ensures ∙ c.if-is_field.false))

pub overflow_add-stop : goal.overflow_add-stop
overflow_add-stop t c =
    let a = c.args in
    omega (arith, stop_within a.text.now a.at a.end c.part_end-stop.result (omega arith) (omega arith) c.part_end-stop.ensures)

pub are_fields-requires : goal.are_fields-requires
are_fields-requires t c = (omega arith, (omega arith, omega arith))

pub returns-then-is_field : goal.returns-then-is_field
unfolding between
returns-then-is_field t c =
    let a = c.args in
    let first = fields-first a.text.now a.at a.end c.part_end-stop.result (omega arith) (omega arith) c.part_end-stop.ensures in
    c.are_fields.ensures ∙ sym (fit_next a.k a.left first (sym c.is_field.ensures ∙ c.if-is_field.true) (omega arith))
