-- Laws of the bare address: its length, its place in a lent buffer, and what a call that reads a mailbox comes to by what was read.
-- Assumes nothing.
use mathlib.Core.Path.{◌≡◌, refl, ap, ◌∙◌}
use mathlib.Core.Bool.{Bool, true, false}
use mathlib.Core.List.{List, [], ◌∷◌, ◌++◌}
use Rattle.std.proofs.Common.{None, Some, Ok, Err}
use Prim.Native.Nat.{ℕ, ◌+◌, ◌*◌, ◌≤◌, ◌<◌}
use native.Mathlib.Omega.{arith}
use borrow.Author.Tests.{le-ltb, lt-ltb}
use lib.ListN.{length, length-append}
use Rattle.chars.specs.Write.{placed_buffer, placed_size, placed_text, refused_text}
use Rattle.chars.proofs.Laws.Lists.{by_test}
use Rattle.chars.proofs.Laws.Write.{placed_none, placed_some}
use Rattle.mailaddr.specs.Shape.{escaped}
use Rattle.mailaddr.proofs.Laws.Closing.{length-escaped}
use Rattle.mailbox.specs.Answers.{Refused, told_place, told_written}
use Rattle.mailbox.specs.Mailbox.{Bare, Reading, bare_in, empty_start, no_mailbox, read, bare_text, local_text, mailbox_by, place_by, place_in, reading, reading_of, text_by, too_deep, too_long}
use Rattle.lexical.specs.Nesting.{nests_too_deep}
use Rattle.lexical.specs.Tokens.{longest_line}
use Rattle.mailbox.specs.declared.entry.MailboxFault.{MailboxFault}
use Rattle.mailbox.specs.declared.entry.MailboxFault.TheVariants.{ShortBuffer}
use Rattle.mailbox.specs.declared.entry.MailboxWritten.{MailboxWritten}

-- ---- the local part as it is written

pub local-quoted : (q : Bool) (s : List ℕ) → q ≡ true → local_text q s ≡ 34 ∷ escaped s ++ (34 ∷ [])
unfolding local_text
local-quoted q s e = rw e

pub local-plain : (q : Bool) (s : List ℕ) → q ≡ false → local_text q s ≡ s
unfolding local_text
local-plain q s e = rw e

pub length-quoted : (q : Bool) (s : List ℕ) → q ≡ true → length (local_text q s) ≡ length (escaped s) + 2
length-quoted q s e = ap length (local-quoted q s e) ∙ omega (arith, length-append (escaped s) (34 ∷ []))

-- at most twice as long, and the quotes
pub length-local : (q : Bool) (s : List ℕ) → length (local_text q s) ≤ 2 * length s + 2
length-local q s =
    by_test q
    (λ e. omega (arith, length-quoted q s e, length-escaped s))
    (λ e. omega (arith, ap length (local-plain q s e)))

-- ---- the address in the buffer

-- a local part's text and a domain
pub length-bare : (t d : List ℕ) → length (t ++ 64 ∷ d) ≡ length t + 1 + length d
length-bare t d = omega (arith, length-append t (64 ∷ d))

-- ---- what the call comes to

-- a refused line
pub written-refused : (r : Reading) (f : MailboxFault) (old : List ℕ) → Refused r f → told_written (Err f) old ≡ mailbox_by r old
unfolding mailbox_by text_by place_in place_by refused_text
written-refused too_long f old e = rw e
written-refused too_deep f old e = rw e
written-refused no_mailbox f old e = rw e
written-refused (read b) f old e = absurd e

pub place-refused : (r : Reading) (f : MailboxFault) → Refused r f → empty_start ≡ place_by r
unfolding place_by
place-refused too_long f e = refl
place-refused too_deep f e = refl
place-refused no_mailbox f e = refl
place-refused (read b) f e = absurd e

-- an address without room, and one in the buffer
module _ (b : Bare) (old new : List ℕ) (e : new ≡ placed_buffer (bare_text b) old) where
  pub written-short : None ≡ placed_size (bare_text b) old → told_written (Err ShortBuffer) new ≡ mailbox_by (read b) old
  unfolding mailbox_by text_by place_in placed_text refused_text
  written-short h =
      let p = placed_none (bare_text b) old new h e in
      rw (lt-ltb (length old) (length (bare_text b)) p.0, p.1)

  pub written-done : (w : MailboxWritten) → Some w.size ≡ placed_size (bare_text b) old → told_place w.phrase ≡ b.phrase
      → told_written (Ok w) new ≡ mailbox_by (read b) old
  unfolding mailbox_by text_by place_in place_by placed_text
  written-done w h q =
      let p = placed_some (bare_text b) old new w.size h e in
      rw (le-ltb (length old) (length (bare_text b)) p.1, p.0, p.2, q)

-- ---- what a line reads as, in the order of the refusals

module _ (s : List ℕ) where
  pub reading_long : longest_line < length s → reading s ≡ too_long
  unfolding reading
  reading_long h = rw (lt-ltb longest_line (length s) h)

  module _ (h : length s ≤ longest_line) where
    pub reading_deep : nests_too_deep s ≡ true → reading s ≡ too_deep
    unfolding reading
    reading_deep e = rw (le-ltb longest_line (length s) h, e)

    pub reading-line : nests_too_deep s ≡ false → reading s ≡ reading_of (bare_in s)
    unfolding reading
    reading-line e = rw (le-ltb longest_line (length s) h, e)
