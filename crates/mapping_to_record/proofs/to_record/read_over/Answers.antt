-- `mapping_to_record::to_record::read_over` meets its contract.
-- Assumes nothing.
use Rattle.std.proofs.Common.{◌∙◌, sym}
use Rattle.ortext_read.specs.Answers.{fault_reading, reading, reading_result}
use Rattle.mapping.specs.Answers.{read_settled}
use Rattle.mapping_to_record.proofs.to_record.read_over.Goals as goal

pub returns-then-not-is_readable : goal.returns-then-not-is_readable
unfolding read_settled reading fault_reading reading_result
returns-then-not-is_readable c = rw (sym c.is_readable.ensures ∙ c.if-not-is_readable.true)

pub returns : goal.returns
unfolding read_settled
returns c = rw (sym c.is_readable.ensures ∙ c.if-not-is_readable.false) c.read_local.ensures
