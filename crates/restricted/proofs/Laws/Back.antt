-- Decoding what was coded gives back the text, for every text of bytes 0 to 127. The other way round it does not: a counter-example.
-- Assumes nothing.
use mathlib.Core.Path.{◌≡◌, refl, sym, ap, ◌∙◌}
use Prim.Native.Nat.{ℕ, ◌+◌, ◌/◌, ◌%◌}
use mathlib.Core.Bool.{true, false, not, ◌&&◌, ◌||◌}
use mathlib.Core.List.{List, [], ◌∷◌, ◌++◌}
use mathlib.Core.Option.{some}
use native.Mathlib.Omega.{arith}
use borrow.Author.Tests.{eqb-false, eqb-true, not-true}
use lib.Dec.{eqb}
use lib.ListN.{get_or}
use Rattle.chars.specs.Case.{fold_case}
use Rattle.chars.specs.Class.{between, is_char, is_digit}
use Rattle.chars.specs.Digits.{digits_number, is_number_group, three_digits}
use Rattle.chars.specs.Lists.{all, bytes, member, onto}
use Rattle.chars.proofs.Laws.Class.{at_char, char_most}
use Rattle.chars.proofs.Laws.Digits.{digits_back}
use Rattle.chars.proofs.Laws.Lists.{and_left, and_right, by_test}
use Rattle.restricted.specs.Answers.{short_group}
use Rattle.restricted.specs.Code.{char_in, char_of, code_char, coded, decoded, is_control, is_plain, is_short_group, letter_in, letter_of, numbered, or_as_it_stands, parse, parsed_after, short}
use Rattle.restricted.proofs.Laws.Parse.{decoded_parsed, parse-number, parse_plain, parse-short, parse_space}

-- ---- a character

-- a short form's letter stands for the character that has it
short_back : (b : ℕ) → is_char b ≡ true → eqb (letter_of b) 0 ≡ false → (char_of (letter_of b) ≡ b) × (char_of (letter_of b) ≡ 0 → ⊥)
unfolding letter_of letter_in char_of char_in fold_case between short bytes
short_back b h e =
    let k = at_char (λ b. eqb (letter_of b) 0 || eqb (char_of (letter_of b)) b && not (eqb (char_of (letter_of b)) 0)) (λ b. true) tt b h in
    let l : (eqb (char_of (letter_of b)) b && not (eqb (char_of (letter_of b)) 0)) ≡ true = rw e at k in (
      eqb-true (char_of (letter_of b)) b (and_left (eqb (char_of (letter_of b)) b) (not (eqb (char_of (letter_of b)) 0)) l),
      eqb-false (char_of (letter_of b)) 0 (not-true (eqb (char_of (letter_of b)) 0) (and_right (eqb (char_of (letter_of b)) b) (not (eqb (char_of (letter_of b)) 0)) l)),
    )

short_is : (l : ℕ) (s : List ℕ) → short_group (l ∷ 35 ∷ s) ≡ char_of l
unfolding short_group
short_is l s = refl

-- what stands behind the first `#` of a number
abbrev digits : ℕ → List ℕ → List ℕ
digits b s = (48 + b / 100) ∷ (48 + b / 10 % 10) ∷ (48 + b % 10) ∷ 35 ∷ s

number-back : (b : ℕ) (s : List ℕ) → is_char b ≡ true → (short_group (digits b s) ≡ 0) × (three_digits (digits b s) ≡ b)
unfolding short_group
number-back b s h =
    (eqb-true (short_group (digits b s)) 0 (at_char (λ b. eqb (short_group (digits b [])) 0) (λ b. true) tt b h), digits_back b (35 ∷ s) h)

char_back : (b : ℕ) (s : List ℕ) → is_char b ≡ true → parse (code_char b ++ s) ≡ onto b (parse s)
unfolding code_char numbered
char_back b s h =
    by_test (is_plain b)
    (λ e. rw e (parse_plain b s e))
    (λ e. by_test (eqb b 32)
    (λ f. rw (e, f) (parse_space 95 s refl ∙ ap (λ c. onto c (parse s)) (sym (eqb-true b 32 f))))
    (λ f. by_test (eqb (letter_of b) 0)
    (λ g. let n = number-back b s h in
    rw (e, f, g) (parse-number (digits b s) n.0 refl (rw n.1 (char_most b h)) ∙ ap (λ c. onto c (parse s)) n.1))
    (λ g. let l = short_back b h g in
    rw (e, f, g) (parse-short (letter_of b ∷ 35 ∷ s) (rw short_is l.1) ∙ ap (λ c. onto c (parse s)) (short_is (letter_of b) s ∙ l.0)))))

-- ---- a text

parse-coded : (s : List ℕ) → all is_char s ≡ true → parse (coded s) ≡ some s
unfolding all coded parse parsed_after onto
parse-coded [] h = refl
parse-coded (b ∷ s) h =
    char_back b (coded s) (and_left (is_char b) (all is_char s) h) ∙ ap (onto b) (parse-coded s (and_right (is_char b) (all is_char s) h))

pub decoded-coded : (s : List ℕ) → all is_char s ≡ true → decoded (coded s) ≡ s
decoded-coded s h = decoded_parsed (coded s) s (parse-coded s h)

-- ---- and not the other way round

-- of a number where none was needed, and of a text that does not parse
pub not-coded-decoded : (coded (decoded (bytes "#097#")) ≡ bytes "#097#" → ⊥) × (coded (decoded (bytes "#")) ≡ bytes "#" → ⊥)
unfolding bytes member decoded or_as_it_stands parse parsed_after onto is_short_group char_of char_in fold_case between short is_number_group digits_number is_digit coded code_char is_plain is_char is_control letter_of letter_in numbered
not-coded-decoded = (
  λ h. let z : ◌≡◌ {A = ℕ} 97 35 = ap (λ (s : List ℕ). get_or s 0 0) h in omega arith,
  λ h. let z : ◌≡◌ {A = ℕ} 104 0 = ap (λ (s : List ℕ). get_or s 1 0) h in omega arith,
)
