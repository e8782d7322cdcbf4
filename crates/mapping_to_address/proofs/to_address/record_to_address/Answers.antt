-- `mapping_to_address::to_address::record_to_address` meets its contract: the record under what the text was read as.
-- Assumes nothing.
use mathlib.Core.Path.{ap, ◌∙◌}
use Rattle.table.specs.Lines.{TableOutcome}
use Rattle.mapping.specs.ToAddress.{record_to_address, to_address_by}
use Rattle.mapping_to_address.proofs.to_address.record_to_address.Goals as goal

pub returns : goal.returns
unfolding record_to_address
returns c =
    let a = c.args in
    c.record_under.ensures ∙ ap (λ (x : TableOutcome). to_address_by x a.rec a.out.now) c.read_table.ensures.answers
