-- `mailbox::entry::phrase_place` meets its contract: the phrase of a line that is read on, and the line's empty start where it is refused.
-- Assumes nothing.
use Rattle.mailbox.specs.Mailbox.{phrase_place, reading}
use Rattle.mailbox.proofs.Laws.Written.{place-refused}
use Rattle.mailbox.proofs.entry.phrase_place.Goals as goal

pub short_phrase-requires : goal.short_phrase-requires
short_phrase-requires c = c.in-Ok.ensures.0

pub returns-in-Ok : goal.returns-in-Ok
unfolding phrase_place
returns-in-Ok c = rw c.in-Ok.ensures.1 c.short_phrase.ensures

pub returns-in-Err : goal.returns-in-Err
unfolding phrase_place
returns-in-Err c = place-refused (reading c.args.line.now) c.in-Err.field-0 c.in-Err.ensures
