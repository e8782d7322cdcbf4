-- The byte classes: two tests agree on a range of bytes where a computed test says so, and which class lies in which.
-- Assumes nothing.
use mathlib.Core.Path.{◌≡◌, refl, subst, subst⁻¹}
use mathlib.Core.Bool.{Bool, true, false, ◌&&◌, ◌||◌, not, beq}
use mathlib.Core.List.{List, [], ◌∷◌}
use mathlib.Core.Logic.{⊎_elim}
use Prim.Native.Nat.{ℕ, zero, suc, ◌+◌, ◌≤◌, ◌<◌, zero-le}
use native.Mathlib.Nat.{eq-or-lt_of_le}
use native.Mathlib.Omega.{arith}
use lib.Dec.{T, leb, eqb}
use borrow.Author.Tests.{eqb-true, le-leb, leb-true, lt-leb}
use Rattle.chars.specs.Lists.{all, bytes, member}
use Rattle.chars.specs.Class.{between, highest_code, in_one_of, is_atom_char, is_char, is_digit, is_label_char, is_letter, is_printable, is_special, printable_list, printable_ranges, PrintableIsTheList, Range}
use Rattle.chars.proofs.Laws.Lists.{and_left, and_right, or_cases}

-- ---- on a range

-- p and q are the same at the n numbers from lo on
abbrev pub matches : (ℕ → Bool) → (ℕ → Bool) → ℕ → ℕ → Bool
matches p q lo zero = true
matches p q lo (suc n) = beq (p lo) (q lo) && matches p q (suc lo) n

beq_path : (a b : Bool) → T (beq a b) → a ≡ b
beq_path true true t = refl
beq_path true false t = absurd t
beq_path false true t = absurd t
beq_path false false t = refl

both : (a b : Bool) → T (a && b) → T a × T b
both true b t = (tt, t)
both false b t = absurd t

pub on_range : (p q : ℕ → Bool) (lo n : ℕ) → T (matches p q lo n) → (b : ℕ) → lo ≤ b → b < lo + n → p b ≡ q b
on_range p q lo zero t b l h = absurd (omega arith)
on_range p q lo (suc n) t b l h =
    ⊎_elim
    (λ e. subst (λ (k : ℕ). p k ≡ q k) e (beq_path (p lo) (q lo) (both (beq (p lo) (q lo)) (matches p q (suc lo) n) t).0))
    (λ g. on_range p q (suc lo) n (both (beq (p lo) (q lo)) (matches p q (suc lo) n) t).1 b g (omega arith))
    (eq-or-lt_of_le l)

-- the same, but for the numbers at which r passes
pub on_range_but : (r p q : ℕ → Bool) (lo n : ℕ) → T (matches (λ b. r b || beq (p b) (q b)) (λ _. true) lo n) → (b : ℕ) → lo ≤ b → b < lo + n → r b ≡ false → p b ≡ q b
on_range_but r p q lo n t b l h e =
    let f : (r b || beq (p b) (q b)) ≡ true = on_range (λ b. r b || beq (p b) (q b)) (λ _. true) lo n t b l h in
    beq_path (p b) (q b) (subst⁻¹ T (rw e at f) tt)

-- ---- ASCII

pub is_char_lem : (b : ℕ) → b ≤ highest_code → is_char b ≡ true
unfolding is_char
is_char_lem b h = le-leb b highest_code h

pub no_char : (b : ℕ) → highest_code < b → is_char b ≡ false
unfolding is_char
no_char b h = lt-leb b highest_code h

pub char_most : (b : ℕ) → is_char b ≡ true → b ≤ highest_code
unfolding is_char
char_most b h = leb-true b highest_code h

-- two tests are the same at each ASCII character where they are computed to be
pub at_char : (p q : ℕ → Bool) → T (matches p q 0 128) → (b : ℕ) → is_char b ≡ true → p b ≡ q b
at_char p q t b h = on_range p q 0 128 t b zero-le (omega (arith, char_most b h))

-- the same, but for the characters at which r passes
pub at_char_but : (r p q : ℕ → Bool) → T (matches (λ b. r b || beq (p b) (q b)) (λ _. true) 0 128) → (b : ℕ) → is_char b ≡ true → r b ≡ false → p b ≡ q b
at_char_but r p q t b h e = on_range_but r p q 0 128 t b zero-le (omega (arith, char_most b h)) e

-- ---- the printable string set

-- the ranges against the list: one test, computed over the 256 bytes
pub printable_is_the_list : PrintableIsTheList
unfolding is_printable printable_list member
printable_is_the_list b h = on_range is_printable (λ b. member b printable_list) 0 256 tt b zero-le (omega arith)

-- ---- where a class ends

between-high : (lo hi b : ℕ) → between lo hi b ≡ true → b ≤ hi
unfolding between
between-high lo hi b e = leb-true b hi (and_right (leb lo b) (leb b hi) e)

between-low : (lo hi b : ℕ) → between lo hi b ≡ true → lo ≤ b
unfolding between
between-low lo hi b e = leb-true lo b (and_left (leb lo b) (leb b hi) e)

letter_below : (b : ℕ) → is_letter b ≡ true → b < 128
unfolding is_letter
letter_below b e =
    or_cases (between 65 90 b) (between 97 122 b) e
    (λ h. omega (arith, between-high 65 90 b h))
    (λ h. omega (arith, between-high 97 122 b h))

pub digit_range : (b : ℕ) → is_digit b ≡ true → (48 ≤ b) × (b ≤ 57)
unfolding is_digit
digit_range b e = (between-low 48 57 b e, between-high 48 57 b e)

pub digit_below : (b : ℕ) → is_digit b ≡ true → b < 128
digit_below b e = omega (arith, (digit_range b e).1)

letter_digit_below : (b : ℕ) → (is_letter b || is_digit b) ≡ true → b < 128
letter_digit_below b e = or_cases (is_letter b) (is_digit b) e (letter_below b) (digit_below b)

-- what lies in one of the ranges is at most n where each of them ends there or before
ranges_below : (n : ℕ) (rs : List Range) → all (λ r. leb r.hi n) rs ≡ true → (b : ℕ) → in_one_of rs b ≡ true → b ≤ n
unfolding all in_one_of
ranges_below n [] h b e = absurd (subst⁻¹ T e tt)
ranges_below n (r ∷ rs) h b e =
    or_cases (between r.lo r.hi b) (in_one_of rs b) e
    (λ f. omega (arith, between-high r.lo r.hi b f, leb-true r.hi n (and_left (leb r.hi n) (all (λ r. leb r.hi n) rs) h)))
    (ranges_below n rs (and_right (leb r.hi n) (all (λ r. leb r.hi n) rs) h) b)

pub printable_below : (b : ℕ) → is_printable b ≡ true → b < 128
unfolding is_printable all
printable_below b e = omega (arith, ranges_below 127 printable_ranges refl b e)

pub label-below : (b : ℕ) → is_label_char b ≡ true → b < 128
unfolding is_label_char
label-below b e =
    or_cases (is_letter b || is_digit b) (eqb b 45) e
    (letter_digit_below b)
    (λ h. omega (arith, eqb-true b 45 h))

pub atom_range : (b : ℕ) → is_atom_char b ≡ true → (33 ≤ b) × (b ≤ 126)
unfolding is_atom_char
atom_range b e =
    let h : between 33 126 b ≡ true = and_left (between 33 126 b) (not (is_special b)) e in
    (between-low 33 126 b h, between-high 33 126 b h)

-- ---- which class lies in which

-- p lies in q where p ends below n and it does up to there
within : (p q : ℕ → Bool) (n : ℕ) → ((b : ℕ) → p b ≡ true → b < n) → T (matches (λ b. not (p b) || q b) (λ _. true) 0 n) → (b : ℕ) → p b ≡ true → q b ≡ true
within p q n f t b e =
    let h : (not (p b) || q b) ≡ true = on_range (λ b. not (p b) || q b) (λ _. true) 0 n t b zero-le (omega (arith, f b e)) in
    rw e at h

pub letter_printable : (b : ℕ) → is_letter b ≡ true → is_printable b ≡ true
unfolding is_letter is_printable
letter_printable = within is_letter is_printable 128 letter_below tt

pub digit_printable : (b : ℕ) → is_digit b ≡ true → is_printable b ≡ true
unfolding is_digit is_printable
digit_printable = within is_digit is_printable 128 digit_below tt

pub label_printable : (b : ℕ) → is_label_char b ≡ true → is_printable b ≡ true
unfolding is_label_char is_printable
label_printable = within is_label_char is_printable 128 label-below tt

pub label_atom : (b : ℕ) → is_label_char b ≡ true → is_atom_char b ≡ true
unfolding between is_label_char is_letter is_digit is_atom_char bytes member
label_atom = within is_label_char is_atom_char 128 label-below tt
