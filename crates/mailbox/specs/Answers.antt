-- What the answers of the code that reads a whole mailbox stand for.
-- Assumes nothing.
use Rattle.std.specs.Prelude.{◌≡◌, ℕ, ◌-◌, ◌≤◌, cond, List, Option, None, Some, Result, Ok, Err, IfSome, MatchResult, length, take, drop}
use Rattle.std.proofs.Math.Option as math
use Rattle.chars.specs.Parts.{Place}
use Rattle.lexical.specs.Answers.{Stands, tokens_of}
use Rattle.lexical.specs.Tokens.{longest_line}
use Rattle.mailbox_address.specs.Grammar.{Mailbox, Phrase, route_addr, whole}
use Rattle.mailbox.specs.Mailbox.{Bare, MailboxResult, Reading, bare_in, empty_start, no_mailbox, read, reading, reading_of, too_deep, too_long}
use Rattle.mailbox.specs.declared.entry.MailboxFault.{MailboxFault}
use Rattle.mailbox.specs.declared.entry.MailboxFault.TheVariants.{NoMailbox, ShortBuffer, TooDeep, TooLong}
use Rattle.mailbox.specs.declared.entry.MailboxWritten.{MailboxWritten}
use Rattle.mailbox.specs.declared.phrase.PhrasePlace.{PhrasePlace}
use Rattle.mailbox.specs.declared.phrase.MailboxRead.{MailboxRead}
use Rattle.mailbox.specs.declared.phrase.PhraseRead.{PhraseRead}
use Rattle.mailbox_address.specs.declared.read.SpecRead.{SpecRead}
use Rattle.mailbox_address.specs.Answers.{is_end_kind}

-- ---- a phrase

unfoldable pub told_phrase : List ℕ → PhraseRead → Phrase
unfolding tokens_of
told_phrase s r = record { end = r.end; rest = tokens_of s r.next }

pub record ReadsPhrase (s : List ℕ) (from : ℕ) (o : Phrase) (r : PhraseRead) : Type 0 where
  pub told : told_phrase s r ≡ o
  pub stands : Stands s r.next
  pub low : from ≤ r.end

-- ---- a mailbox

-- an addr-spec that is the last thing in the line
abbrev pub whole_read : SpecRead → ℕ → ℕ → Option MailboxRead
whole_read a start size =
    cond (is_end_kind a.next.kind)
    (Some (record { local = a.local; size = a.size; quoted = a.quoted; phrase = record { start = start; size = size } }))
    None

-- the mailbox of a phrase from a start on and what stands behind it
unfoldable pub named_by : ℕ → Phrase → math.Option Mailbox
unfolding whole route_addr
named_by start p = whole start (p.end - start) (route_addr p.rest)

abbrev pub told_place : PhrasePlace → Place
told_place p = record { start = p.start; size = p.size }

-- the mailbox whose texts stand in a buffer
abbrev pub bare_at : MailboxRead → List ℕ → Bare
bare_at m words = record {
  local = take m.local words;
  is_quoted = m.quoted;
  domain = drop m.local (take m.size words);
  phrase = told_place m.phrase;
}

unfoldable pub told_mailbox : Option MailboxRead → List ℕ → math.Option Bare
told_mailbox None new = math.none
told_mailbox (Some m) new = math.some (bare_at m new)

pub record ReadsMailbox (s : List ℕ) (o : math.Option Bare) (r : Option MailboxRead) (new : List ℕ) : Type 0 where
  pub told : told_mailbox r new ≡ o
  pub sizes : IfSome r (λ m. (m.local ≤ m.size) × (m.size ≤ length s))

-- ---- a line

-- the refusal of a line that is not read
abbrev pub Refused : Reading → MailboxFault → Type 0
Refused too_long f = f ≡ TooLong
Refused too_deep f = f ≡ TooDeep
Refused no_mailbox f = f ≡ NoMailbox
Refused (read b) f = ⊥

-- whether a line is read on: it is no longer than the longest, and reads as what the mailbox in it is
abbrev pub JudgesLine : List ℕ → Result Unit MailboxFault → Type 0
JudgesLine s r = MatchResult r (λ _. (length s ≤ longest_line) × (reading s ≡ reading_of (bare_in s))) (Refused (reading s))

-- request 2's number for each refusal
abbrev pub mailbox_number : MailboxFault → ℕ
mailbox_number TooLong = 2
mailbox_number TooDeep = 9
mailbox_number NoMailbox = 1
mailbox_number ShortBuffer = 6

-- what the call comes to: 0 with the address and the phrase, or a refusal's number with length 0 and the line's empty start
abbrev pub told_written : Result MailboxWritten MailboxFault → List ℕ → MailboxResult
told_written (Ok w) new = record { text = record { number = 0; size = w.size; buffer = new }; phrase = told_place w.phrase }
told_written (Err f) new = record { text = record { number = mailbox_number f; size = 0; buffer = new }; phrase = empty_start }
