-- `table::line::is_path` meets its contract: a first field that ends with the path is its only one.
-- Assumes nothing.
use mathlib.Core.Path.{sym, ap, ◌∙◌}
use mathlib.Core.Bool.{not}
use borrow.Author.Tests.{eq-eqb}
use Prim.Native.Nat.{◌+◌}
use native.Mathlib.Omega.{arith}
use lib.Seq.{length-take-le}
use Rattle.table.proofs.Laws.Fields.{fields-first, fields-past, fields-some, path-more, path-one, stop_within}
use Rattle.table.proofs.line.is_path.Goals as goal

pub slice_bounds-part_end-end : goal.slice_bounds-part_end-end
slice_bounds-part_end-end c =
    let a = c.args in
    sym (length-take-le a.end a.text.now (omega arith))

pub returns-else-part_end-end : goal.returns-else-part_end-end
returns-else-part_end-end c =
    let a = c.args in
    let first = fields-first a.text.now a.at a.end c.part_end.result (omega arith) (omega arith) c.part_end.ensures in
    ap not (eq-eqb c.part_end.result a.end (omega arith))
    ∙ sym (path-one first (fields-past a.text.now (c.part_end.result + 1) a.end (omega arith)))

pub returns-then-part_end-end : goal.returns-then-part_end-end
returns-then-part_end-end c =
    let a = c.args in
    let stop = c.part_end.result in
    let within = stop_within a.text.now a.at a.end stop (omega arith) (omega arith) c.part_end.ensures in
    let first = fields-first a.text.now a.at a.end stop (omega arith) (omega arith) c.part_end.ensures in
    c.are_fields.ensures ∙ sym (path-more first (fields-some a.text.now (stop + 1) a.end (omega arith)))
