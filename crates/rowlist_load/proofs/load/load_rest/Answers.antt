-- `rowlist_load::load::load_rest` meets its contract. The loop's invariant: what the entries behind the gateway's come to is what those from
-- number i on come to after the rows read so far.
-- Assumes nothing.
use Rattle.std.proofs.Common.{sym, arith}
use Rattle.table_load.specs.Load.{load_answer}
use Rattle.rowlist_load.proofs.Laws.Load.{listing_bad, listing_end, listing_start, listing_step}
use Rattle.rowlist_load.proofs.load.load_rest.Goals as goal

pub loop-i-init : goal.loop-i-init
loop-i-init c =
    let e = c.args.entries.now in
    listing_start e.text.now e.numbers.now e.n c.args.to_path.now c.args.to_domain.now c.args.gateway
    c.requires.le_n c.requires.to_path_len c.requires.to_domain_len c.requires.row_inside

pub add_entry-requires : goal.add_entry-requires
add_entry-requires c = record { to_path_len = omega arith; to_domain_len = omega arith; kept = c.loop-i.invariant.kept }

pub returns-in_default : goal.returns-in_default
unfolding load_answer
returns-in_default c = record {
  answers =
      sym (listing_bad c.loop-i.invariant c.entry-entry.result c.entry-entry.ensures c.loop-i-test.true c.in_default.ensures);
  kept = tt;
}

pub loop-i-preserved : goal.loop-i-preserved
loop-i-preserved c =
    listing_step c.loop-i.invariant c.entry-entry.result c.entry-entry.ensures c.loop-i-test.true c.in-Some.ensures

pub returns : goal.returns
returns c = listing_end c.loop-i.invariant c.loop-i-test.false
