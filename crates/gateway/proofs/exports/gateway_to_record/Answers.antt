-- `gateway::exports::gateway_to_record` meets its contract.
-- Assumes nothing.
use Rattle.std.proofs.Common.{subst}
use Rattle.table.specs.Lines.{loaded_from}
use Rattle.table_load.proofs.Laws.Ready.{loaded_rules}
use Rattle.mapping.specs.Answers.{told_record}
use Rattle.mapping.specs.Results.{RecordResult}
use Rattle.mapping.specs.ToRecord.{address_to_record}
use Rattle.gateway_export.specs.Exports.{Exported, text_result}
use Rattle.gateway_export.proofs.Laws.Exports.{packable}
use Rattle.gateway.specs.Exports.{address_to_text}
use Rattle.gateway.proofs.Laws.Bounds.{table-number}
use Rattle.gateway.proofs.exports.gateway_to_record.Goals as goal

pub pack_record-requires : goal.pack_record-requires
unfolding address_to_record
pack_record-requires c =
    packable (loaded_from c.args.table.now) c.args.address.now (told_record c.to_record.result) (table-number c.args.table.now)
    (loaded_rules c.args.table.now) c.to_record.ensures

pub returns : goal.returns
unfolding address_to_text
returns c =
    subst (λ (o : RecordResult). Exported (text_result o c.args.out.now) c.pack_record.result c.pack_record.new.out)
    c.to_record.ensures c.pack_record.ensures
