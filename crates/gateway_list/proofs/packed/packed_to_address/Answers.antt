-- `gateway_list::packed::packed_to_address` meets its contract.
-- Assumes nothing.
use Rattle.std.proofs.Common.{◌∙◌}
use Rattle.rowlist.specs.Entries.{entries_of}
use Rattle.rowlist_load.specs.Listed.{listed_from}
use Rattle.rowlist_load.proofs.Laws.Whole.{listed_rules}
use Rattle.gateway_export.specs.Exports.{text_to_address_by}
use Rattle.gateway_export.proofs.Laws.Exports.{address-counts, exported, text_to_address_lem}
use Rattle.gateway_list.proofs.Counts.{listed_counted}
use Rattle.gateway_list.proofs.packed.packed_to_address.Goals as goal

pub pack_address-requires : goal.pack_address-requires
pack_address-requires c =
    let es = entries_of c.args.numbers.now c.args.n in
    let d = c.numbers_to_address in
    address-counts (listed_from c.args.text.now es) c.read_record.result.«record» c.args.out.now d.new.out d.result
    (listed_counted c.args.text.now es) (listed_rules c.args.text.now es) d.ensures

pub returns : goal.returns
returns c =
    let l = listed_from c.args.text.now (entries_of c.args.numbers.now c.args.n) in
    let d = c.numbers_to_address in
    exported (text_to_address_by l c.args.record_text.now c.args.out.now) d.result c.pack_address.result d.new.out
    (d.ensures ∙ text_to_address_lem l c.args.record_text.now c.args.out.now c.read_record.result c.read_record.ensures)
    c.pack_address.ensures
