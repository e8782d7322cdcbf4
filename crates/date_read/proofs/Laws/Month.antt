-- Laws of the names: what the name of each of the twelve months is, its letters among them, and texts that by their length are no zone's name.
-- Assumes nothing.
use mathlib.Core.Path.{◌≡◌, refl, sym, ◌∙◌}
use mathlib.Core.Bool.{Bool, true, false, ◌&&◌, not}
use mathlib.Core.List.{List, [], ◌∷◌}
use Prim.Native.Nat.{ℕ, suc, ◌-◌, ◌≤◌, zero-le}
use native.Mathlib.Omega.{arith}
use borrow.Author.Tests.{eqb-true, not-true}
use lib.Dec.{eqb}
use lib.ListN.{length, get_or}
use Rattle.chars.specs.Case.{agree, fold_case, same_byte, same_text}
use Rattle.chars.specs.Lists.{bytes}
use Rattle.chars.proofs.Laws.Class.{on_range}
use Rattle.chars.proofs.Laws.Case.{same_length}
use Rattle.chars.proofs.Laws.Lists.{and-three, by_test}
use Rattle.date_read.specs.Date.{last_month}
use Rattle.date_read.specs.Read.{date_names, month_names, number_in, offset_of, utc_names, zone_of}

abbrev pub name_of : ℕ → List ℕ
name_of m = get_or month_names (m - 1) []

-- what each month's name is: three letters, that month's name and no other's, and no comma at its front
fine : ℕ → Bool
unfolding number_in same_text agree same_byte fold_case bytes
fine k = eqb (length (get_or month_names k [])) 3 && eqb (number_in 1 month_names (get_or month_names k [])) (suc k) && not (eqb (get_or (get_or month_names k []) 0 0) 44)

module _ (m : ℕ) (h : 1 ≤ m) (k : m ≤ last_month) where
  all_fine : fine (m - 1) ≡ true
  unfolding fine number_in same_text agree same_byte fold_case bytes
  all_fine = on_range fine (λ _. true) 0 last_month tt (m - 1) zero-le (omega arith)

  pub month_length : length (name_of m) ≡ 3
  unfolding fine
  month_length = eqb-true (length (name_of m)) 3 (and-three (eqb (length (name_of m)) 3) (eqb (number_in 1 month_names (name_of m)) (suc (m - 1))) (not (eqb (get_or (name_of m) 0 0) 44)) all_fine).0

  pub month_number : number_in 1 month_names (name_of m) ≡ m
  unfolding fine
  month_number =
      let e : suc (m - 1) ≡ m = omega arith in
      eqb-true (number_in 1 month_names (name_of m)) (suc (m - 1)) (and-three (eqb (length (name_of m)) 3) (eqb (number_in 1 month_names (name_of m)) (suc (m - 1))) (not (eqb (get_or (name_of m) 0 0) 44)) all_fine).1 ∙ e

  pub month_first : eqb (get_or (name_of m) 0 0) 44 ≡ false
  unfolding fine
  month_first = not-true (eqb (get_or (name_of m) 0 0) 44) (and-three (eqb (length (name_of m)) 3) (eqb (number_in 1 month_names (name_of m)) (suc (m - 1))) (not (eqb (get_or (name_of m) 0 0) 44)) all_fine).2

-- their letters
pub month_list : month_names
    ≡ (74 ∷ 97 ∷ 110 ∷ []) ∷ (70 ∷ 101 ∷ 98 ∷ []) ∷ (77 ∷ 97 ∷ 114 ∷ []) ∷ (65 ∷ 112 ∷ 114 ∷ []) ∷ (77 ∷ 97 ∷ 121 ∷ []) ∷ (74 ∷ 117 ∷ 110 ∷ [])
    ∷ (74 ∷ 117 ∷ 108 ∷ []) ∷ (65 ∷ 117 ∷ 103 ∷ []) ∷ (83 ∷ 101 ∷ 112 ∷ []) ∷ (79 ∷ 99 ∷ 116 ∷ []) ∷ (78 ∷ 111 ∷ 118 ∷ []) ∷ (68 ∷ 101 ∷ 99 ∷ []) ∷ []
unfolding bytes
month_list = refl

-- ---- what is no zone's name, by its length

not_named : (n s : List ℕ) → (length n ≡ length s → ⊥) → same_text n s ≡ false
not_named n s h = by_test (same_text n s) (λ e. absurd (h (same_length n s e))) (λ e. e)

pub utc_unnamed : (s : List ℕ) → (length s ≡ 1 → ⊥) → zone_of utc_names s ≡ offset_of s
unfolding zone_of number_in bytes
utc_unnamed s h = rw (not_named (bytes "Z") s (λ e. h (sym e)))

pub date_unnamed : (s : List ℕ) → (length s ≡ 3 → ⊥) → (length s ≡ 2 → ⊥) → zone_of date_names s ≡ offset_of s
unfolding zone_of number_in bytes
date_unnamed s h k = rw (not_named (bytes "GMT") s (λ e. h (sym e)), not_named (bytes "UT") s (λ e. k (sym e)))
