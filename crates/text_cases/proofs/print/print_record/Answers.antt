-- `text_cases::print::print_record` is safe: only a canonical record is written.
-- Assumes nothing.
use Rattle.std.proofs.Common.{◌∙◌, sym}
use Rattle.text_cases.proofs.print.print_record.Goals as goal

pub print_text-requires : goal.print_text-requires
print_text-requires c = sym c.is_canonical.ensures ∙ c.if-not-is_canonical.false

pub print_locals-requires : goal.print_locals-requires
print_locals-requires c = sym c.is_canonical.ensures ∙ c.if-not-is_canonical.false
