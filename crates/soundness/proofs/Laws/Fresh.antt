-- Fresh tokens: a label tells its number, with three digits it is a domain part and with a `+` behind it is none; and of label_count numbers the
-- rows of a table, each of which marks one at most, leave one free, whose labels are fresh.
-- Assumes nothing.
use mathlib.Core.Path.{◌≡◌, refl, sym, ap, subst, ◌∙◌}
use mathlib.Core.Logic.{⊎_elim}
use mathlib.Core.Bool.{Bool, true, false, not, and-false}
use mathlib.Core.List.Memᴰ
use mathlib.Core.List.{List, [], ◌∷◌, Memᴰ, cons≢nil}
use Prim.Native.Nat.{ℕ, zero, suc, ◌+◌, ◌-◌, ◌*◌, ◌/◌, ◌%◌, ◌≤◌, ◌<◌, suc-le-suc, zero-le}
use native.Mathlib.Nat.{le_of_suc-le-suc, not-suc-le-zero}
use native.Mathlib.Omega.{arith}
use lib.Dec.{eqb}
use lib.ListN.{length, get_or, set, length-set, replicate, length-replicate}
use lib.Seq.{get_or-set_other, get_or-set_same}
use Rattle.chars.specs.Lists.{all, first, last}
use Rattle.chars.specs.Class.{between, is_digit, is_label_char, is_letter}
use Rattle.chars.specs.Domain.{is_domain_part}
use Rattle.chars.proofs.Laws.Lists.{and_both, by_test, true_not_false}
use Rattle.chars.proofs.Laws.Class.{on_range}
use Rattle.chars.proofs.Laws.Domain.{domain-part-label}
use Rattle.table.specs.Lines.{most_rows}
use Rattle.soundness.specs.Labels.{count, first_free, fresh, label, label_count, label_limit, marked, marks, label_number, odd_label}
use Rattle.soundness.specs.Tokens.{Fresh, Row, Supply, Table, Tok, fits_from}

-- ---- labels

digit_label : (d : ℕ) → d < 10 → is_label_char (48 + d) ≡ true
unfolding is_label_char is_letter is_digit between
digit_label d h = on_range (λ n. is_label_char (48 + n)) (λ _. true) 0 10 tt d zero-le h

digit_inner : (d : ℕ) → d < 10 → not (eqb (48 + d) 45) ≡ true
digit_inner d h = on_range (λ n. not (eqb (48 + n) 45)) (λ _. true) 0 10 tt d zero-le h

pub label-part : (n : ℕ) → is_domain_part (label n) ≡ true
unfolding is_domain_part all first last label
label-part n =
    rw (digit_label (n / 100 % 10) (omega arith), digit_label (n / 10 % 10) (omega arith), digit_label (n % 10) (omega arith))
    (and_both (digit_inner (n / 100 % 10) (omega arith)) (digit_inner (n % 10) (omega arith)))

pub odd_part : (n : ℕ) → is_domain_part (odd_label n) ≡ false
unfolding is_label_char is_letter is_digit between all label odd_label
odd_part n =
    by_test (is_domain_part (odd_label n))
    (λ e. true_not_false true refl (sym (domain-part-label (odd_label n) e) ∙ rw (and-false (is_label_char (48 + n % 10)), and-false (is_label_char (48 + n / 10 % 10)), and-false (is_label_char (48 + n / 100 % 10)))))
    (λ e. e)

digits : (n : ℕ) → n < label_limit → 100 * (48 + n / 100 % 10 - 48) + 10 * (48 + n / 10 % 10 - 48) + (48 + n % 10 - 48) ≡ n
digits n h = omega arith

pub number-label : (n : ℕ) → n < label_limit → label_number (label n) ≡ n
unfolding label_number label
number-label n h = digits n h

pub number-odd : (n : ℕ) → n < label_limit → label_number (odd_label n) ≡ n
unfolding label_number label odd_label
number-odd n h = digits n h

-- different numbers have different labels
pub label_injective : (m n : ℕ) → m < label_limit → n < label_limit → label m ≡ label n → m ≡ n
label_injective m n h k e = sym (number-label m h) ∙ ap label_number e ∙ number-label n k

pub odd_injective : (m n : ℕ) → m < label_limit → n < label_limit → odd_label m ≡ odd_label n → m ≡ n
odd_injective m n h k e = sym (number-odd m h) ∙ ap label_number e ∙ number-odd n k

-- ---- marks

-- where fewer places are marked than there are, the first free one is a place and is not marked
pub free-place : (ms : List Bool) → count ms < length ms → (first_free ms < length ms) × (get_or ms (first_free ms) true ≡ false)
unfolding count first_free
free-place [] h = absurd (not-suc-le-zero h)
free-place (true ∷ ms) h = let w = free-place ms (le_of_suc-le-suc h) in (suc-le-suc w.0, w.1)
free-place (false ∷ ms) h = (suc-le-suc zero-le, refl)

-- a mark more raises the count by one at most
pub count_set : (ms : List Bool) (i : ℕ) → count (set ms i true) ≤ suc (count ms)
unfolding count
count_set [] i = zero-le
count_set (true ∷ ms) zero = omega arith
count_set (false ∷ ms) zero = omega arith
count_set (true ∷ ms) (suc i) = suc-le-suc (count_set ms i)
count_set (false ∷ ms) (suc i) = count_set ms i

count_unmarked : (n : ℕ) → count (replicate n false) ≡ 0
unfolding count
count_unmarked zero = refl
count_unmarked (suc n) = count_unmarked n

length_marked : (k : ℕ) (rows : List Row) (ms : List Bool) → length (marked k rows ms) ≡ length ms
unfolding marked
length_marked k [] ms = refl
length_marked k (s ∷ rows) ms =
    let i : ℕ = label_number (get_or s.key k []) in
    length_marked k rows (set ms i true) ∙ length-set ms i true

-- each row marks one place at most
count-marked : (k : ℕ) (rows : List Row) (ms : List Bool) → count (marked k rows ms) ≤ length rows + count ms
unfolding marked
count-marked k [] ms = omega arith
count-marked k (s ∷ rows) ms =
    let i : ℕ = label_number (get_or s.key k []) in
    omega (arith, count-marked k rows (set ms i true), count_set ms i)

-- a place that is not marked was not marked before, and no row has its number
unmarked : (k : ℕ) (rows : List Row) (ms : List Bool) (i : ℕ) → i < length ms → get_or (marked k rows ms) i true ≡ false
    → (get_or ms i true ≡ false) × ((s : Row) → Memᴰ s rows → label_number (get_or s.key k []) ≡ i → ⊥)
unfolding marked
unmarked k [] ms i l h = (h, λ s m. absurd (Memᴰ.not-nil m))
unmarked k (x ∷ rows) ms i l h =
    let j : ℕ = label_number (get_or x.key k []) in
    let w = unmarked k rows (set ms j true) i (omega (arith, length-set ms j true)) h in
    let other : j ≡ i → ⊥ = λ e. true_not_false (get_or (set ms j true) i true) (ap (λ (n : ℕ). get_or (set ms n true) i true) e ∙ get_or-set_same ms i true true l) w.0 in (
      sym (get_or-set_other ms j i true true (λ e. other (sym e))) ∙ w.0,
      λ s m. ⊎_elim (λ p e. other (ap (λ (t : Row). label_number (get_or t.key k [])) (sym p) ∙ e)) (λ t. w.1 s t) (Memᴰ.cases_cons m),
    )

-- ---- fresh numbers

module _ (T : Table) (r : Row) where
  size : length (marks T r) ≡ label_count
  unfolding marks
  size =
      length_marked (length r.val) T.D (marked (length r.key) T.R (replicate label_count false))
      ∙ length_marked (length r.key) T.R (replicate label_count false)
      ∙ length-replicate label_count false

  few : count (marks T r) ≤ length T.D + length T.R
  unfolding marks
  few =
      let ms : List Bool = replicate label_count false in
      let rs : List Bool = marked (length r.key) T.R ms in
      omega (arith, count-marked (length r.val) T.D rs, count-marked (length r.key) T.R ms, count_unmarked label_count)

  -- of label_count numbers one is free
  pub fresh-free : length T.D + length T.R ≤ most_rows → (fresh T r < label_count) × (get_or (marks T r) (fresh T r) true ≡ false)
  unfolding fresh
  fresh-free h =
      let w = free-place (marks T r) (omega (arith, size, few)) in
      (omega (arith, w.0, size), w.1)

  -- a token that tells a number that is not marked is fresh
  fresh-token : (f : Tok) → (f ≡ [] → ⊥) → label_number f < label_count → get_or (marks T r) (label_number f) true ≡ false → Fresh T r f
  unfolding marks
  fresh-token f there l h =
      let ms : List Bool = replicate label_count false in
      let rs : List Bool = marked (length r.key) T.R ms in
      let e = length-replicate label_count false in
      let d = unmarked (length r.val) T.D rs (label_number f) (omega (arith, e, length_marked (length r.key) T.R ms)) h in
      let p = unmarked (length r.key) T.R ms (label_number f) (omega (arith, e)) d.0 in
      record { there = there; new_r = λ s m k q. p.1 s m (ap label_number q); new_d = λ s m k q. d.1 s m (ap label_number q) }

  module _ (h : length T.D + length T.R ≤ most_rows) where
    free_as : (n : ℕ) → n ≡ fresh T r → (n < label_count) × (get_or (marks T r) n true ≡ false)
    free_as n e = subst (λ (k : ℕ). (k < label_count) × (get_or (marks T r) k true ≡ false)) (sym e) (fresh-free h)

    pub label-fresh : Fresh T r (label (fresh T r))
    unfolding label
    label-fresh =
        let w = free_as (label_number (label (fresh T r))) (number-label (fresh T r) (omega (arith, (fresh-free h).0))) in
        fresh-token (label (fresh T r)) cons≢nil w.0 w.1

    pub odd-fresh : Fresh T r (odd_label (fresh T r))
    unfolding label odd_label
    odd-fresh =
        let w = free_as (label_number (odd_label (fresh T r))) (number-odd (fresh T r) (omega (arith, (fresh-free h).0))) in
        fresh-token (odd_label (fresh T r)) cons≢nil w.0 w.1

-- a table of 512 rows or fewer has fresh tokens, where the labels are within bounds
pub supply : (fits : ℕ → Tok → Bool) (T : Table) → length T.D + length T.R ≤ most_rows
    → ((k : ℕ) → fits k [] ≡ true) → ((r : Row) → Memᴰ r T.R → fits_from fits 0 r.key ≡ true)
    → ((n : ℕ) → n < label_count → fits 2 (odd_label n) ≡ true) → ((n : ℕ) → n < label_count → fits 3 (label n) ≡ true) → Supply fits T
supply fits T h absent paths odd part =
    record {
      absent = absent;
      paths = paths;
      odd = λ r m. (odd_label (fresh T r), odd-fresh T r h, odd_part (fresh T r), odd (fresh T r) (fresh-free T r h).0);
      part = λ r m. (label (fresh T r), label-fresh T r h, label-part (fresh T r), part (fresh T r) (fresh-free T r h).0);
    }
