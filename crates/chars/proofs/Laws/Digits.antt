-- Laws of three decimal digits: the number that they spell, the group that they are in, and where they stand in a text.
-- Assumes nothing.
use Rattle.std.proofs.Common.{Some, None}
use Rattle.std.proofs.lemmas.Option.{cond_some, none-some}
use mathlib.Core.Path.{◌≡◌, sym}
use Prim.Native.Nat.{ℕ, ◌+◌, ◌-◌, ◌*◌, ◌/◌, ◌%◌, ◌≤◌, ◌<◌}
use mathlib.Core.Bool.{true, false, ◌&&◌, and-false, cond}
use mathlib.Core.List.{List, [], ◌∷◌}
use native.Mathlib.Nat.{add-zero}
use native.Mathlib.Omega.{arith}
use borrow.Author.Tests.{eqb-true, le-leb, leb-false, leb-true, lt-leb}
use lib.Dec.{eqb, leb}
use lib.ListN.{drop, get_or, get_or-eq_default, length}
use lib.Seq.{get_or-drop}
use Rattle.chars.specs.Class.{between, highest_code, is_char, is_digit}
use Rattle.chars.specs.Digits.{digit_value, digits_number, is_number_group, no_digits, spelt_character, three_digits}
use Rattle.chars.proofs.Laws.Class.{at_char}
use Rattle.chars.proofs.Laws.Lists.{and-three, by_test}

-- a group, tested as code does: what stands behind the digits, and their number
pub is_number : (close : ℕ) (s : List ℕ) → is_number_group close s ≡ (eqb (get_or s 3 0) close && leb (three_digits s) highest_code)
unfolding is_number_group three_digits
is_number close s =
    by_test (is_digit (get_or s 0 0) && is_digit (get_or s 1 0) && is_digit (get_or s 2 0))
    (λ e. rw e)
    (λ e. rw (e, and-false (eqb (get_or s 3 0) close)))

-- where the number is that of a character, three digits stand there, and it is theirs
module _ (s : List ℕ) (h : three_digits s ≤ highest_code) where
  pub number-value : digits_number s ≡ three_digits s
  unfolding three_digits
  number-value =
      by_test (is_digit (get_or s 0 0) && is_digit (get_or s 1 0) && is_digit (get_or s 2 0))
      (λ e. rw e)
      (λ e. let k : no_digits ≤ highest_code = rw e at h in absurd (omega arith))

  pub number_digits : (is_digit (get_or s 0 0) ≡ true) × (is_digit (get_or s 1 0) ≡ true) × (is_digit (get_or s 2 0) ≡ true)
  unfolding three_digits
  number_digits =
      by_test (is_digit (get_or s 0 0) && is_digit (get_or s 1 0) && is_digit (get_or s 2 0))
      (λ e. and-three (is_digit (get_or s 0 0)) (is_digit (get_or s 1 0)) (is_digit (get_or s 2 0)) e)
      (λ e. let k : no_digits ≤ highest_code = rw e at h in absurd (omega arith))

-- the digits of a character's number spell it
pub digits_back : (b : ℕ) (s : List ℕ) → is_char b ≡ true → three_digits ((48 + b / 100) ∷ (48 + b / 10 % 10) ∷ (48 + b % 10) ∷ s) ≡ b
unfolding three_digits digits_number is_digit between
digits_back b s h =
    eqb-true (three_digits ((48 + b / 100) ∷ (48 + b / 10 % 10) ∷ (48 + b % 10) ∷ s)) b
    (at_char (λ b. eqb (three_digits ((48 + b / 100) ∷ (48 + b / 10 % 10) ∷ (48 + b % 10) ∷ [])) b) (λ b. true) tt b h)

-- by places of a text
pub digits_there : (s : List ℕ) (i : ℕ) → three_digits (drop i s) ≡ cond (is_digit (get_or s i 0) && is_digit (get_or s (i + 1) 0) && is_digit (get_or s (i + 2) 0)) ((get_or s i 0 - 48) * 100 + (get_or s (i + 1) 0 - 48) * 10 + (get_or s (i + 2) 0 - 48)) no_digits
unfolding three_digits digits_number
digits_there s i = rw (get_or-drop i s 0 0, get_or-drop i s 1 0, get_or-drop i s 2 0, add-zero)

-- ---- the character that three digits spell

-- a digit's value, and none of another byte
pub value_some : (b d : ℕ) → Some d ≡ digit_value b → (is_digit b ≡ true) × (d ≡ b - 48)
unfolding digit_value
value_some b d h = let q = cond_some (is_digit b) (b - 48) d (sym h) in (q.0, sym q.1)

pub value_none : (b : ℕ) → None ≡ digit_value b → is_digit b ≡ false
unfolding digit_value
value_none b h = by_test (is_digit b) (λ e. absurd (none-some (b - 48) (rw e at h))) (λ e. e)

-- no number where one of the three is no digit, or where the text is shorter than they are; and no character either
pub digits-none : (s : List ℕ) → (is_digit (get_or s 0 0) && is_digit (get_or s 1 0) && is_digit (get_or s 2 0)) ≡ false → three_digits s ≡ no_digits
unfolding three_digits
digits-none s e = rw e

pub digits-short : (s : List ℕ) → length s < 3 → three_digits s ≡ no_digits
unfolding is_digit between
digits-short s h =
    let e : get_or s 2 0 ≡ 0 = get_or-eq_default s 0 (omega arith) in
    digits-none s (rw (e, and-false))

pub spelt-none : (s : List ℕ) → (is_digit (get_or s 0 0) && is_digit (get_or s 1 0) && is_digit (get_or s 2 0)) ≡ false → spelt_character s ≡ None
unfolding spelt_character
spelt-none s e = rw (digits-none s e)

pub spelt-short : (s : List ℕ) → length s < 3 → spelt_character s ≡ None
unfolding spelt_character
spelt-short s h = rw (digits-short s h)

-- three digits, by their values
module _ (s : List ℕ) (a b c : ℕ) (u : Some a ≡ digit_value (get_or s 0 0)) (v : Some b ≡ digit_value (get_or s 1 0)) (w : Some c ≡ digit_value (get_or s 2 0)) where
  pub spelt_three : three_digits s ≡ a * 100 + b * 10 + c
  unfolding three_digits digits_number
  spelt_three =
      let x = value_some (get_or s 0 0) a u in
      let y = value_some (get_or s 1 0) b v in
      let z = value_some (get_or s 2 0) c w in
      rw (x.0, y.0, z.0, x.1, y.1, z.1)

  pub spelt-some : a * 100 + b * 10 + c ≤ highest_code → spelt_character s ≡ Some (a * 100 + b * 10 + c)
  unfolding spelt_character
  spelt-some h = rw (spelt_three, le-leb (a * 100 + b * 10 + c) highest_code h)

  pub spelt-high : highest_code < a * 100 + b * 10 + c → spelt_character s ≡ None
  unfolding spelt_character
  spelt-high h = rw (spelt_three, lt-leb (a * 100 + b * 10 + c) highest_code h)

-- what the answer of a call says of the number
pub character_some : (s : List ℕ) (b : ℕ) → Some b ≡ spelt_character s → (b ≡ three_digits s) × (three_digits s ≤ highest_code)
unfolding spelt_character
character_some s b h =
    let q = cond_some (leb (three_digits s) highest_code) (three_digits s) b (sym h) in
    (sym q.1, leb-true (three_digits s) highest_code q.0)

pub character_none : (s : List ℕ) → None ≡ spelt_character s → highest_code < three_digits s
unfolding spelt_character
character_none s h =
    by_test (leb (three_digits s) highest_code)
    (λ e. absurd (none-some (three_digits s) (rw e at h)))
    (λ e. leb-false (three_digits s) highest_code e)
