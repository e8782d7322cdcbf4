-- What was written reads as itself: with no phrase, and with the same text written again. So demands 2 and 3 speak of the bare address.
-- Assumes nothing.
use mathlib.Core.Path.{◌≡◌, refl, ◌∙◌}
use mathlib.Core.List.{List}
use mathlib.Core.Option.{some}
use Prim.Native.Nat.{ℕ, ◌≤◌}
use native.Mathlib.Omega.{arith}
use lib.ListN.{length}
use Rattle.lexical.specs.Tokens.{longest_line}
use Rattle.mailbox.specs.Mailbox.{Bare, bare_in, bare_text, empty_start, read, reading}
use Rattle.mailbox.proofs.Laws.Address.{address-reading}
use Rattle.mailbox.proofs.Laws.Bare.{written-length, written-meaning, written-shape}

-- the same address without its phrase
abbrev pub unnamed : Bare → Bare
unnamed b = record { local = b.local; is_quoted = b.is_quoted; domain = b.domain; phrase = empty_start }

pub written-again : (s : List ℕ) (b : Bare) → bare_in s ≡ some b → length s ≤ longest_line → reading (bare_text b) ≡ read (unnamed b)
written-again s b h k =
    address-reading (bare_text b) _ (written-shape s b h) (omega (arith, written-length s b h)) ∙ rw (written-meaning s b h)

pub unnamed_text : (b : Bare) → bare_text (unnamed b) ≡ bare_text b
unfolding bare_text
unnamed_text b = refl
