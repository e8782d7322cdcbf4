-- `gateway_list::numbers::numbers_to_address` meets its contract: the record under what the rows were read as.
-- Assumes nothing.
use Rattle.std.proofs.Common.{ap, ◌∙◌}
use Rattle.table.specs.Lines.{TableOutcome}
use Rattle.mapping.specs.ToAddress.{to_address_by}
use Rattle.gateway_list.proofs.numbers.numbers_to_address.Goals as goal

pub returns : goal.returns
returns c = c.record_under.ensures ∙ ap (λ (x : TableOutcome). to_address_by x c.args.rec c.args.out.now) c.read_list-read.ensures.answers
