-- `text_cases::print::print_name` is safe: a name that is read has its pieces in the text.
-- Assumes nothing.
use Rattle.ortext_name.specs.Places.{NameReading}
use Rattle.text_cases.proofs.print.print_name.Goals as goal

pub print_places-requires : goal.print_places-requires
unfolding NameReading
print_places-requires c = rw c.in-Some.is at c.read_name.ensures
