-- `table_load::load::add_row` meets its contract: the row of a line with one tag joins those of that tag where none of them has its key, else
-- the line is bad; a line with neither tag is bad, and so is any line after 512 rows.
-- Assumes nothing.
use mathlib.Core.Path.{refl}
use native.Mathlib.Omega.{arith}
use Rattle.table.specs.Lines.{longest_row_domain}
use Rattle.table.specs.Rows.{RowFound, line_at}
use Rattle.table.specs.declared.rows.Key.TheVariants.{Domain, Path}
use Rattle.table.proofs.Laws.Fields.{found_inside}
use Rattle.table_load.proofs.Laws.Load.{adding, bad-full, bad_neither}
use Rattle.table_load.proofs.load.add_row.Goals as goal

pub returns-then-table-ge-MOST_ROWS : goal.returns-then-table-ge-MOST_ROWS
returns-then-table-ge-MOST_ROWS c =
    let a = c.args in
    bad-full a.text.now a.to_path.now a.to_domain.now a.table (line_at a.text.now a.from a.end) (omega arith)

pub join_row-requires : goal.join_row-requires
join_row-requires c =
    let p = c.requires in
    record {
      to_path_len = p.to_path_len;
      to_domain_len = p.to_domain_len;
      kept = p.kept;
      to_domain_bound = omega arith;
      row_inside = found_inside c.in-Some.ensures p.end_in_bounds (omega arith);
    }

pub returns-in-Some : goal.returns-in-Some
unfolding line_at
returns-in-Some c =
    let a = c.args in
    let j = c.join_row in
    let found : RowFound a.text.now a.from a.end 68 longest_row_domain c.in-Some.row = c.in-Some.ensures in
    adding a.text.now a.to_path.now a.to_domain.now a.table (line_at a.text.now a.from a.end) (omega (arith, c.if-table-ge-MOST_ROWS.false)) refl
    Domain c.in-Some.row tt found.accepted found.row j.result j.new.to_path j.new.to_domain j.ensures

pub join_row-requires-2 : goal.join_row-requires-2
join_row-requires-2 c =
    let p = c.requires in
    record {
      to_path_len = p.to_path_len;
      to_domain_len = p.to_domain_len;
      kept = p.kept;
      to_domain_bound = omega arith;
      row_inside = found_inside c.in_ok-row.ensures p.end_in_bounds (omega arith);
    }

pub returns-in_err-row : goal.returns-in_err-row
unfolding line_at
returns-in_err-row c =
    let a = c.args in
    rw c.from_residual.ensures
    (bad_neither a.text.now a.to_path.now a.to_domain.now a.table (line_at a.text.now a.from a.end) (omega arith) refl
    c.in_default.ensures c.in_err-row.ensures)

pub returns : goal.returns
unfolding line_at
returns c =
    let a = c.args in
    let j = c.join_row-2 in
    let found : RowFound a.text.now a.from a.end 82 longest_row_domain c.in_ok-row.row = c.in_ok-row.ensures in
    adding a.text.now a.to_path.now a.to_domain.now a.table (line_at a.text.now a.from a.end) (omega (arith, c.if-table-ge-MOST_ROWS.false)) refl
    Path c.in_ok-row.row c.in_default.ensures found.accepted found.row j.result j.new.to_path j.new.to_domain j.ensures
