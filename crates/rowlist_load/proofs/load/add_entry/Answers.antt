-- `rowlist_load::load::add_entry` meets its contract: the row of an entry of one kind joins those of that kind where none of them has its key,
-- else the entry is bad; an entry of neither kind is bad, and so is any entry after 512 rows.
-- Assumes nothing.
use Rattle.std.proofs.Common.{arith}
use Rattle.table.specs.Lines.{longest_row_domain}
use Rattle.table_load.proofs.Laws.Load.{bad-full}
use Rattle.rowlist_load.specs.Listed.{EntryFound, entry_line}
use Rattle.rowlist_load.proofs.Laws.Load.{entry_domain, entry_neither, entry_path}
use Rattle.rowlist_load.proofs.load.add_entry.Goals as goal

pub returns-then-table-ge-MOST_ROWS : goal.returns-then-table-ge-MOST_ROWS
returns-then-table-ge-MOST_ROWS c =
    bad-full c.args.text.now c.args.to_path.now c.args.to_domain.now c.args.table (entry_line c.args.text.now c.args.entry) (omega arith)

pub join_row-requires : goal.join_row-requires
join_row-requires c =
    let found : EntryFound c.args.text.now c.args.entry 68 longest_row_domain c.in-Some.row = c.in-Some.ensures in
    record {
      to_path_len = c.requires.to_path_len;
      to_domain_len = c.requires.to_domain_len;
      kept = c.requires.kept;
      to_domain_bound = omega arith;
      row_inside = found.inside;
    }

pub returns-in-Some : goal.returns-in-Some
returns-in-Some c =
    entry_domain c.args.text.now c.args.entry c.args.to_path.now c.args.to_domain.now c.args.table c.if-table-ge-MOST_ROWS.false
    c.in-Some.ensures c.join_row.result c.join_row.new.to_path c.join_row.new.to_domain c.join_row.ensures

pub join_row-requires-2 : goal.join_row-requires-2
join_row-requires-2 c =
    let found : EntryFound c.args.text.now c.args.entry 82 longest_row_domain c.in_ok-row.row = c.in_ok-row.ensures in
    record {
      to_path_len = c.requires.to_path_len;
      to_domain_len = c.requires.to_domain_len;
      kept = c.requires.kept;
      to_domain_bound = omega arith;
      row_inside = found.inside;
    }

pub returns : goal.returns
returns c =
    let join = c.join_row-2 in
    entry_path c.args.text.now c.args.entry c.args.to_path.now c.args.to_domain.now c.args.table c.if-table-ge-MOST_ROWS.false
    c.in_default.ensures c.in_ok-row.ensures join.result join.new.to_path join.new.to_domain join.ensures

pub returns-in_err-row : goal.returns-in_err-row
returns-in_err-row c =
    rw c.from_residual.ensures
    (entry_neither c.args.text.now c.args.entry c.args.to_path.now c.args.to_domain.now c.args.table c.if-table-ge-MOST_ROWS.false
    c.in_default.ensures c.in_err-row.ensures)
