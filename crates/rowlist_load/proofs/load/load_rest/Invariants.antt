-- `rowlist_load::load::load_rest` meets its contract. The loop's invariant: what the entries behind the gateway's come to is what those from
-- number i on come to after the rows read so far.
-- Assumes nothing.
use Rattle.table.specs.Rows.{bare_table, row_at}
use Rattle.rowlist_load.proofs.Laws.Load.{Listing}
use Rattle.rowlist_load.proofs.load.load_rest.Given as goal

abbrev pub invariant-loop-i : goal.invariant-loop-i
invariant-loop-i l =
    Listing l.entries.text.now l.entries.numbers.now l.entries.n (bare_table (row_at l.entries.text.now l.initial.table.gateway))
    l.to_path l.to_domain l.table l.i
