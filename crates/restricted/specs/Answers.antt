-- What the answers of the code stand for.
-- Assumes nothing.
use Rattle.std.specs.Prelude.{◌≡◌, ℕ, ◌≤◌, true, false, cond, List, [], ◌∷◌, Option, None, Some, Result, Ok, Err, eqb, ltb, length, drop, get_or}
use Rattle.std.proofs.Math.Option.{none, some}
use Rattle.chars.specs.Class.{is_char}
use Rattle.chars.specs.Lists.{all, onto}
use Rattle.chars.specs.Write.{TextResult}
use Rattle.restricted.specs.Code.{char_of, coded, longest_coded_char, numbered, parse}
use Rattle.restricted.specs.declared.code.Coding.{Coding}
use Rattle.restricted.specs.declared.code.Coding.TheVariants.{Single, Number, Short}
use Rattle.restricted.specs.declared.convert.RestrictedFault.{RestrictedFault}
use Rattle.restricted.specs.declared.convert.RestrictedFault.TheVariants.{ByteOver127, ShortBuffer}
use Rattle.restricted.specs.declared.parse.Group.{Group}

-- request 9's number for each refusal; with 0 the text is written
abbrev pub restricted_number : RestrictedFault → ℕ
restricted_number ByteOver127 = 1
restricted_number ShortBuffer = 6

abbrev pub told : Result ℕ RestrictedFault → List ℕ → TextResult
told (Ok n) new = record { number = 0; size = n; buffer = new }
told (Err e) new = record { number = restricted_number e; size = 0; buffer = new }

-- a character as the code says that it is coded
unfoldable pub spelled : ℕ → Coding → List ℕ
unfolding numbered
spelled b (Single c) = c ∷ []
spelled b (Short l) = 35 ∷ l ∷ 35 ∷ []
spelled b Number = numbered b

-- the refusal where the text does not fit: "1 for a byte over 127, then 6"
unfoldable pub short_answer : List ℕ → RestrictedFault
unfolding all is_char
short_answer s = cond (all is_char s) ShortBuffer ByteOver127

-- the answer for a text to be coded, and a buffer of so many bytes
unfoldable pub coded_answer : List ℕ → ℕ → Result (Unit {0}) RestrictedFault
unfolding all is_char short_answer coded
coded_answer s room = cond (ltb room (length (coded s))) (Err (short_answer s)) (cond (all is_char s) (Ok tt) (Err ByteOver127))

-- behind a `#`: the character of a letter and another `#`, 0 where these do not follow
unfoldable pub short_group : List ℕ → ℕ
unfolding char_of
short_group s = cond (eqb (get_or s 1 0) 35) (char_of (get_or s 0 0)) 0

-- the text begins with the group, which has no byte over 127
pub record Begins (s : List ℕ) (g : Group) : Type 0 where
  pub some_bytes : 1 ≤ g.len
  pub fits : g.len ≤ longest_coded_char
  pub holds : parse s ≡ onto g.char (parse (drop g.len s))
  pub chars : all is_char s ≡ all is_char (drop g.len s)

-- the group that a text begins with; or it does not parse
abbrev pub Grouped : List ℕ → Option Group → Type 0
Grouped s (Some g) = Begins s g
Grouped s None = parse s ≡ none

-- the answer for a text that does not parse
unfoldable pub unparsed_answer : List ℕ → Result (Option ℕ) RestrictedFault
unfolding all is_char
unparsed_answer s = cond (all is_char s) (Ok None) (Err ByteOver127)

-- what measuring a text comes to
abbrev pub Measured : List ℕ → Result (Option ℕ) RestrictedFault → Type 0
Measured s (Ok (Some n)) = (all is_char s ≡ true) × (t : List ℕ) × (parse s ≡ some t) × (n ≡ length t)
Measured s (Ok None) = (all is_char s ≡ true) × (parse s ≡ none)
Measured s (Err e) = (e ≡ ByteOver127) × (all is_char s ≡ false)
