-- `gateway::exports::gateway_to_address` meets its contract.
-- Assumes nothing.
use Rattle.std.proofs.Common.{◌∙◌}
use Rattle.table.specs.Lines.{loaded_from}
use Rattle.table_load.proofs.Laws.Ready.{loaded_rules}
use Rattle.mapping.specs.ToAddress.{record_to_address}
use Rattle.gateway_export.proofs.Laws.Exports.{address-counts, exported, text_to_address_lem}
use Rattle.gateway.specs.Exports.{text_to_address}
use Rattle.gateway.proofs.Laws.Bounds.{table-number}
use Rattle.gateway.proofs.exports.gateway_to_address.Goals as goal

pub pack_address-requires : goal.pack_address-requires
unfolding record_to_address
pack_address-requires c =
    let d = c.to_address in
    address-counts (loaded_from c.args.table.now) c.read_record.result.«record» c.args.out.now d.new.out d.result
    (table-number c.args.table.now) (loaded_rules c.args.table.now) d.ensures

pub returns : goal.returns
unfolding record_to_address text_to_address
returns c =
    let d = c.to_address in
    exported (text_to_address c.args.table.now c.args.record_text.now c.args.out.now) d.result c.pack_address.result d.new.out
    (d.ensures
    ∙ text_to_address_lem (loaded_from c.args.table.now) c.args.record_text.now c.args.out.now c.read_record.result c.read_record.ensures)
    c.pack_address.ensures
