-- Request 2: what reading a line as a mailbox comes to. "It writes the bare address into a lent buffer, without white space outside quotes, a local
-- part with a quoted word as one quoted string of the same meaning, escaping only `"` and `\`, and shows where the phrase stands in the lent line,
-- first word to last, or, with none or refused, that line's empty start. A route is dropped."
-- Assumes nothing.
use Rattle.std.specs.Prelude.{ℕ, Bool, cond, List, [], ◌∷◌, ◌++◌, ltb, length}
use Rattle.std.proofs.Math.Option.{Option, none, some}
use Rattle.chars.specs.Parts.{Place}
use Rattle.chars.specs.Write.{TextResult, placed_text, refused_text}
use Rattle.mailaddr.specs.Shape.{escaped}
use Rattle.lexical.specs.Nesting.{nests_too_deep}
use Rattle.lexical.specs.Tokens.{longest_line, tokens_at}
use Rattle.mailbox_address.specs.Grammar.{Mailbox, any_quoted, mailbox, meaning_of}

-- a mailbox's address and the place of its phrase, as texts and numbers
pub record Bare : Type 0 where
  pub local : List ℕ
  pub is_quoted : Bool
  pub domain : List ℕ
  pub phrase : Place

unfoldable pub bare_of : Option Mailbox → Option Bare
unfolding meaning_of any_quoted
bare_of none = none
bare_of (some m) = some (record {
  local = meaning_of m.local;
  is_quoted = any_quoted m.local;
  domain = meaning_of m.domain';
  phrase = m.phrase;
})

-- the mailbox that a line is
unfoldable pub bare_in : List ℕ → Option Bare
unfolding bare_of mailbox tokens_at
bare_in s = bare_of (mailbox (tokens_at s 0))

-- the local part as it is written
unfoldable pub local_text : Bool → List ℕ → List ℕ
unfolding escaped
local_text q s = cond q (34 ∷ escaped s ++ (34 ∷ [])) s

-- "the bare address"
unfoldable pub bare_text : Bare → List ℕ
unfolding local_text
bare_text b = local_text b.is_quoted b.local ++ 64 ∷ b.domain

-- What a line reads as: "Refusals, in order: 2 for a line over 4,096 bytes, 9 for nesting past eight .., 1 for no mailbox of this shape, 6 for a
-- short buffer."
pub data Reading : Type 0 where
  too_long : Reading
  too_deep : Reading
  no_mailbox : Reading
  read : Bare → Reading

unfoldable pub reading_of : Option Bare → Reading
reading_of none = no_mailbox
reading_of (some b) = read b

unfoldable pub reading : List ℕ → Reading
unfolding nests_too_deep reading_of bare_in
reading s = cond (ltb longest_line (length s)) too_long (cond (nests_too_deep s) too_deep (reading_of (bare_in s)))

-- what is returned and left in the buffer
unfoldable pub text_by : Reading → List ℕ → TextResult
unfolding refused_text placed_text bare_text
text_by too_long old = refused_text 2 old
text_by too_deep old = refused_text 9 old
text_by no_mailbox old = refused_text 1 old
text_by (read b) old = placed_text (bare_text b) old

-- where the phrase stands; with none, "that line's empty start"
abbrev pub empty_start : Place
empty_start = record { start = 0; size = 0 }

unfoldable pub place_by : Reading → Place
place_by too_long = empty_start
place_by too_deep = empty_start
place_by no_mailbox = empty_start
place_by (read b) = b.phrase

-- with a buffer: "with none or refused, that line's empty start", 6 among the refusals
unfoldable pub place_in : TextResult → Reading → Place
unfolding place_by
place_in o r = cond (ltb 0 o.number) empty_start (place_by r)

pub record MailboxResult : Type 0 where
  pub text : TextResult
  pub phrase : Place

unfoldable pub mailbox_by : Reading → List ℕ → MailboxResult
unfolding text_by place_in
mailbox_by r old = record { text = text_by r old; phrase = place_in (text_by r old) r }

unfoldable pub read_mailbox : List ℕ → List ℕ → MailboxResult
unfolding reading mailbox_by
read_mailbox s old = mailbox_by (reading s) old

-- with no buffer, as one with room would have it
unfoldable pub phrase_place : List ℕ → Place
unfolding reading place_by
phrase_place s = place_by (reading s)
