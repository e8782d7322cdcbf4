-- `gateway_list::packed::packed_to_record` meets its contract.
-- Assumes nothing.
use Rattle.std.proofs.Common.{subst}
use Rattle.rowlist.specs.Entries.{entries_of}
use Rattle.rowlist_load.specs.Listed.{listed_from}
use Rattle.rowlist_load.proofs.Laws.Whole.{listed_rules}
use Rattle.mapping.specs.Answers.{told_record}
use Rattle.mapping.specs.Results.{RecordResult}
use Rattle.gateway_export.specs.Exports.{Exported, text_result}
use Rattle.gateway_export.proofs.Laws.Exports.{packable}
use Rattle.gateway_list.proofs.Counts.{listed_counted}
use Rattle.gateway_list.proofs.packed.packed_to_record.Goals as goal

pub pack_record-requires : goal.pack_record-requires
pack_record-requires c =
    let es = entries_of c.args.numbers.now c.args.n in
    packable (listed_from c.args.text.now es) c.args.address.now (told_record c.numbers_to_record.result)
    (listed_counted c.args.text.now es) (listed_rules c.args.text.now es) c.numbers_to_record.ensures

pub returns : goal.returns
returns c =
    subst (λ (o : RecordResult). Exported (text_result o c.args.out.now) c.pack_record.result c.pack_record.new.out)
    c.numbers_to_record.ensures c.pack_record.ensures
