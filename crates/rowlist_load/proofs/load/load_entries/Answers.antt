-- `rowlist_load::load::load_entries` meets its contract: there is a gateway's entry, and the rows behind it are read.
-- Assumes nothing.
use Rattle.std.proofs.Common.{arith}
use Rattle.table.specs.Lines.{longest_gateway_domain}
use Rattle.table_load.proofs.Laws.Load.{refused}
use Rattle.rowlist_load.specs.Listed.{EntryFound}
use Rattle.rowlist_load.proofs.Laws.Load.{listed_bad, listed_none, listed_rows}
use Rattle.rowlist_load.proofs.load.load_entries.Goals as goal

pub returns-then-n-eq0 : goal.returns-then-n-eq0
returns-then-n-eq0 c = refused (listed_none c.args.text.now c.args.numbers.now c.args.n (omega arith))

pub load_rest-requires : goal.load_rest-requires
load_rest-requires c =
    let found : EntryFound c.args.text.now c.entry-entry.result 71 longest_gateway_domain c.in-Some.gateway = c.in-Some.ensures in
    record {
      le_n = omega arith;
      to_path_len = c.requires.to_path_len;
      to_domain_len = c.requires.to_domain_len;
      row_inside = found.inside;
    }

pub returns : goal.returns
returns c =
    rw (listed_rows c.args.text.now c.args.numbers.now c.args.n c.entry-entry.result c.entry-entry.ensures (omega arith)
    c.in-Some.ensures) c.load_rest.ensures

pub returns-in_default : goal.returns-in_default
returns-in_default c =
    refused
    (listed_bad c.args.text.now c.args.numbers.now c.args.n c.entry-entry.result c.entry-entry.ensures (omega arith) c.in_default.ensures)
