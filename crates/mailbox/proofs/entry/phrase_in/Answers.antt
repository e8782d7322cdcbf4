-- `mailbox::entry::phrase_in` meets its contract: the phrase of the mailbox that was read, and the line's empty start where there is none.
-- Assumes nothing.
use Rattle.mailbox.specs.Answers.{told_mailbox}
use Rattle.mailbox.specs.Mailbox.{place_by, reading_of}
use Rattle.mailbox.proofs.entry.phrase_in.Goals as goal

pub returns-in-Some : goal.returns-in-Some
unfolding place_by told_mailbox reading_of
returns-in-Some c = rw (← c.in-Some.ensures.told)

pub returns-in-None : goal.returns-in-None
unfolding place_by told_mailbox reading_of
returns-in-None c = rw (← c.in-None.ensures.told)
