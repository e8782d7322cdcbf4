-- `gateway_list::numbers::numbers_to_record` meets its contract: the address under what the rows were read as.
-- Assumes nothing.
use Rattle.std.proofs.Common.{ap, ◌∙◌}
use Rattle.table.specs.Lines.{TableOutcome}
use Rattle.mapping.specs.ToRecord.{to_record_by}
use Rattle.gateway_list.proofs.numbers.numbers_to_record.Goals as goal

pub returns : goal.returns
returns c = c.address_under.ensures ∙ c.of_read.ensures c.args.address.now ∙ ap (λ (x : TableOutcome). to_record_by x c.args.address.now) c.read_list-read.ensures.answers
