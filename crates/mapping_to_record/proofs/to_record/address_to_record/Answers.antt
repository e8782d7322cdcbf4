-- `mapping_to_record::to_record::address_to_record` meets its contract: the address under what the text was read as.
-- Assumes nothing.
use mathlib.Core.Path.{ap, ◌∙◌}
use Rattle.table.specs.Lines.{TableOutcome}
use Rattle.mapping.specs.ToRecord.{address_to_record, to_record_by}
use Rattle.mapping_to_record.proofs.to_record.address_to_record.Goals as goal

pub returns : goal.returns
unfolding address_to_record
returns c =
    let a = c.args in
    c.address_under.ensures ∙ c.of_read.ensures a.s.now ∙ ap (λ (x : TableOutcome). to_record_by x a.s.now) c.read_table-read.ensures.answers
