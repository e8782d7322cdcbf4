-- `table::line::read_row` meets its contract: once the tag and the tab behind it are there, the line's fields are the tag, the domain
-- up to the next tab, and the path.
-- Assumes nothing.
use mathlib.Core.Path.{refl, sym, ap, ◌∙◌}
use mathlib.Core.Bool.{◌&&◌, and-false}
use Prim.Native.Nat.{◌+◌, ◌-◌}
use native.Mathlib.Omega.{arith}
use borrow.Author.Tests.{le-leb, lt-leb}
use lib.Dec.{leb}
use lib.Seq.{length-take-le}
use Rattle.chars.specs.Parts.{split}
use Rattle.mailaddr.specs.Domain.{is_domain}
use Rattle.table.specs.Lines.{has_tag, row_of}
use Rattle.table.specs.Rows.{between, row_at}
use Rattle.table.proofs.Laws.Fields.{between-length, fields-past, line-fields, line_test, line_untabbed, line_untagged, no_path, row-short, stop_within}
use Rattle.table.proofs.line.read_row.Goals.{then-end-from-via-then-end-from, then-end-from-via-else-end-from+then-text-from, then-end-from-via-else-end-from+else-text-from+then-text-from-ne9, then-stop-end-via-then-stop-end, then-stop-end-via-else-stop-end+then-most-stop, then-not-is_domain-via-then-not-is_domain, then-not-is_domain-via-else-not-is_domain+then-not-is_path}
use Rattle.table.proofs.line.read_row.Goals as goal

pub returns-then-end-from : goal.returns-then-end-from
returns-then-end-from c =
    let a = c.args in
    let line = between a.text.now a.from a.end in
    elim c.then-end-from.branch [
      | then-end-from-via-then-end-from w ↦
          rw (
            row-short a.most line (omega (arith, between-length a.text.now a.from a.end (omega arith) (omega arith))),
            and-false (has_tag a.tag (split 9 line)),
          )
      | then-end-from-via-else-end-from+then-text-from w ↦
          rw (line_untagged a.text.now a.from a.end a.tag (omega arith) (omega arith) w.if-text-from.true)
      | then-end-from-via-else-end-from+else-text-from+then-text-from-ne9 w ↦
          rw (line_untabbed a.text.now a.from a.end a.tag (omega arith) (omega arith) w.if-text-from-ne9.true)
    ]

pub slice_bounds-part_end-end : goal.slice_bounds-part_end-end
slice_bounds-part_end-end c =
    let a = c.args in
    sym (length-take-le a.end a.text.now (omega arith))

pub returns-then-stop-end : goal.returns-then-stop-end
returns-then-stop-end c =
    let a = c.args in
    let stop = c.part_end-stop.result in
    line_test a.text.now a.from a.end a.tag (omega arith) (omega arith) stop
    c.requires.no_tab c.if-text-from.false c.if-text-from-ne9.false c.part_end-stop.ensures a.most
    ∙ elim c.then-stop-end.branch [
      | then-stop-end-via-then-stop-end w ↦
          rw (
            fields-past a.text.now (stop + 1) a.end (omega arith),
            no_path,
            and-false (leb (stop - (a.from + 2)) a.most && is_domain (between a.text.now (a.from + 2) stop)),
          )
      | then-stop-end-via-else-stop-end+then-most-stop w ↦
          rw (lt-leb (stop - (a.from + 2)) a.most w.if-most-stop.true)
    ]

pub slice_bounds-is_domain-end : goal.slice_bounds-is_domain-end
slice_bounds-is_domain-end c =
    let a = c.args in
    omega (arith, stop_within a.text.now (a.from + 2) a.end c.part_end-stop.result (omega arith) (omega arith) c.part_end-stop.ensures)

pub returns-then-not-is_domain : goal.returns-then-not-is_domain
unfolding between
returns-then-not-is_domain c =
    let a = c.args in
    let stop = c.part_end-stop.result in
    line_test a.text.now a.from a.end a.tag (omega arith) (omega arith) stop
    c.requires.no_tab c.if-text-from.false c.if-text-from-ne9.false c.part_end-stop.ensures a.most
    ∙ elim c.then-not-is_domain.branch [
      | then-not-is_domain-via-then-not-is_domain w ↦
          rw (sym c.is_domain.ensures ∙ w.if-not-is_domain.true, and-false (leb (stop - (a.from + 2)) a.most))
      | then-not-is_domain-via-else-not-is_domain+then-not-is_path w ↦
          rw (
            sym w.is_path.ensures ∙ w.if-not-is_path.true,
            and-false (leb (stop - (a.from + 2)) a.most && is_domain (between a.text.now (a.from + 2) stop)),
          )
    ]

pub overflow_add-stop : goal.overflow_add-stop
overflow_add-stop c =
    let a = c.args in
    omega (arith, stop_within a.text.now (a.from + 2) a.end c.part_end-stop.result (omega arith) (omega arith) c.part_end-stop.ensures)

pub is_path-requires : goal.is_path-requires
is_path-requires c =
    let a = c.args in
    omega (arith, stop_within a.text.now (a.from + 2) a.end c.part_end-stop.result (omega arith) (omega arith) c.part_end-stop.ensures)

pub overflow_add-result : goal.overflow_add-result
overflow_add-result c =
    let a = c.args in
    omega (arith, stop_within a.text.now (a.from + 2) a.end c.part_end-stop.result (omega arith) (omega arith) c.part_end-stop.ensures)

pub returns : goal.returns
unfolding between row_at row_of
returns c =
    let a = c.args in
    let stop = c.part_end-stop.result in
    let within = stop_within a.text.now (a.from + 2) a.end stop (omega arith) (omega arith) c.part_end-stop.ensures in
    record {
      accepted = line_test a.text.now a.from a.end a.tag (omega arith) (omega arith) stop
          c.requires.no_tab c.if-text-from.false c.if-text-from-ne9.false c.part_end-stop.ensures a.most
          ∙ rw (
            le-leb (stop - (a.from + 2)) a.most (omega arith),
            sym c.is_domain.ensures ∙ c.if-not-is_domain.false,
            sym c.is_path.ensures ∙ c.if-not-is_path.false,
          );
      row = sym (ap row_of (line-fields a.text.now a.from a.end a.tag (omega arith) (omega arith) stop
          c.requires.no_tab c.if-text-from.false c.if-text-from-ne9.false c.part_end-stop.ensures));
      starts = refl;
      domain = omega arith;
      apart = refl;
      path = omega arith;
      ends = refl;
    }
