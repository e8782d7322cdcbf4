-- Laws of domain parts: what refuses one, test by test, that letter case is no matter, and that a domain part is an atom.
-- Assumes nothing.
use mathlib.Core.Path.{◌≡◌, refl}
use Prim.Native.Nat.{ℕ, ◌-◌, ◌≤◌}
use native.Mathlib.Omega.{arith}
use mathlib.Core.Bool.{Bool, true, false, not, ◌&&◌, and-false, and-true}
use mathlib.Core.List.{List}
use borrow.Author.Tests.{leb-true, lt-leb}
use lib.Dec.{eqb, leb, ltb}
use lib.ListN.{length, get_or}
use Rattle.chars.specs.Lists.{all, first, last}
use Rattle.chars.specs.Class.{between, is_atom_char, is_in, is_label_char, is_letter}
use Rattle.chars.specs.Case.{fold_text}
use Rattle.chars.specs.declared.class.Class.TheVariants.{Label}
use Rattle.chars.specs.Domain.{is_domain_part, longest_part}
use Rattle.chars.specs.Parts.{is_part}
use Rattle.chars.proofs.Laws.Lists.{all_weaken, and_both, and_left, and_right, first-at, last-at}
use Rattle.chars.proofs.Laws.Case.{all-fold, first-fold, last-fold, length-fold}
use Rattle.chars.proofs.Laws.Class.{label_atom}
use Rattle.chars.proofs.Laws.Seq.{some-length}
use Rattle.chars.proofs.Laws.Parts.{fold_is}

-- ---- the tests in the order in which code makes them

-- the tests in another order
by_order : (a b c d e : Bool) → (a && b && c && d && e) ≡ (a && b && d && e && c)
by_order a b true d e = simp and-true
by_order a b false d e = simp and-false

module _ (s : List ℕ) where
  pub domain_tests : is_domain_part s ≡ (ltb 0 (length s) && leb (length s) longest_part && not (eqb (get_or s 0 0) 45) && not (eqb (get_or s (length s - 1) 0) 45) && all is_label_char s)
  unfolding is_domain_part
  domain_tests =
      rw (first-at s, last-at s)
      (by_order (leb 1 (length s)) (leb (length s) longest_part) (all is_label_char s) (not (eqb (get_or s 0 0) 45)) (not (eqb (get_or s (length s - 1) 0) 45)))

  pub domain-empty : length s ≡ 0 → is_domain_part s ≡ false
  unfolding is_domain_part
  domain-empty h = rw (lt-leb 1 (length s) (omega arith))

-- ---- letter case

hyphen_other : is_letter 45 ≡ false
unfolding is_letter between
hyphen_other = refl

label-fold : (s : List ℕ) → all is_label_char (fold_text s) ≡ all is_label_char s
unfolding is_in
label-fold s = all-fold Label s

pub domain-part-fold : (s : List ℕ) → is_domain_part (fold_text s) ≡ is_domain_part s
unfolding is_domain_part
domain-part-fold s =
    rw (length-fold s, label-fold s, first-fold s, fold_is 45 hyphen_other (first s), last-fold s, fold_is 45 hyphen_other (last s))

-- ---- what a domain part is

module _ (s : List ℕ) (h : is_domain_part s ≡ true) where
  sized_label : leb 1 (length s) && leb (length s) longest_part && all is_label_char s ≡ true
  unfolding is_domain_part
  sized_label =
      let t : Bool = leb 1 (length s) && leb (length s) longest_part && all is_label_char s in
      and_left t (not (eqb (first s) 45)) (and_left (t && not (eqb (first s) 45)) (not (eqb (last s) 45)) h)

  pub domain-part-length : (1 ≤ length s) × (length s ≤ longest_part)
  domain-part-length =
      let e : leb 1 (length s) && leb (length s) longest_part ≡ true = and_left (leb 1 (length s) && leb (length s) longest_part) (all is_label_char s) sized_label in
      (leb-true 1 (length s) (and_left (leb 1 (length s)) (leb (length s) longest_part) e), leb-true (length s) longest_part (and_right (leb 1 (length s)) (leb (length s) longest_part) e))

  pub domain-part-label : all is_label_char s ≡ true
  domain-part-label = and_right (leb 1 (length s) && leb (length s) longest_part) (all is_label_char s) sized_label

-- a domain part is an atom
pub domain-part_atom : (s : List ℕ) → is_domain_part s ≡ true → is_part is_atom_char s ≡ true
unfolding is_part
domain-part_atom s h =
    and_both (some-length s (domain-part-length s h).0) (all_weaken is_label_char is_atom_char label_atom s (domain-part-label s h))
