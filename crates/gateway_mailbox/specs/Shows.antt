-- What the entry point for mailboxes shows of its line.
-- Assumes nothing.
use Rattle.std.specs.Prelude.{◌≡◌, List, ℕ}
use Rattle.std.specs.Borrow.{Bor}
use Rattle.chars.specs.Parts.{Part}
use Rattle.mailbox.specs.Mailbox.{MailboxResult}

-- the number, the length and the buffer of a result, and its phrase in the line
pub record Shows (o : MailboxResult) (line : Bor (List ℕ)) (number size : ℕ) (new : List ℕ) (part : Bor (List ℕ)) : Type 0 where
  pub text : record { number = number; size = size; buffer = new } ≡ o.text
  pub phrase : Part line o.phrase part
