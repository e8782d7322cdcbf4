-- `gateway_list::packed::packed_check` meets its contract.
-- Assumes nothing.
use Rattle.rowlist.specs.Entries.{entries_of}
use Rattle.rowlist_load.specs.Listed.{listed_from}
use Rattle.soundness.specs.Check.{told_check}
use Rattle.gateway_export.proofs.Laws.Exports.{packable_check}
use Rattle.gateway_list.proofs.Counts.{listed_counted}
use Rattle.gateway_list.proofs.packed.packed_check.Goals as goal

pub pack_check-requires : goal.pack_check-requires
pack_check-requires c =
    let es = entries_of c.args.numbers.now c.args.n in
    packable_check (listed_from c.args.text.now es) (told_check c.numbers_check.result) (listed_counted c.args.text.now es) c.numbers_check.ensures

pub returns : goal.returns
returns c = c.pack_check.ensures (listed_from c.args.text.now (entries_of c.args.numbers.now c.args.n)) c.numbers_check.ensures
