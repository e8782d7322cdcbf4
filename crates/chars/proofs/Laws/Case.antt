-- Laws of folding and of comparing: `fold_case`, `fold_text`, and `agree` over any test, of which `same_text` and `equal_text` are two.
-- Assumes nothing.
use Rattle.std.specs.List.{list_all, zip}
use mathlib.Core.Path.{◌≡◌, refl, sym, ap, ◌∙◌}
use mathlib.Core.Bool.{Bool, true, false, ◌&&◌, and_assoc, and-false}
use mathlib.Core.List.{List, [], ◌∷◌, ◌++◌}
use Prim.Native.Nat.{ℕ, zero, suc, ◌+◌, ◌≤◌, ◌<◌}
use native.Mathlib.Nat.{suc_inj, suc-ne-zero}
use native.Mathlib.Omega.{arith}
use lib.Dec.{eqb, leb}
use lib.ListN.{length, get_or, length-map}
use lib.Pointwise.{pointwise}
use borrow.Author.Tests.{eq-eqb, eqb-true, leb-true, leb-false, le-leb, lt-leb}
use Rattle.chars.specs.Lists.{all, bytes, first, last, member}
use Rattle.chars.specs.Class.{between, is_atom_char, is_digit, is_in, is_label_char, is_letter, is_printable, is_quotable}
use Rattle.chars.specs.Case.{agree, equal_text, fold_case, fold_text, same_byte, same_text}
use Rattle.chars.specs.declared.class.Class.{Class}
use Rattle.chars.specs.declared.class.Class.TheVariants.{Any, Atom, Digit, Label, Letter, Printable, Quotable}
use Rattle.chars.proofs.Laws.Lists.{all_ext, all_map, and_both, and_left, and_right, bool_same, by_test, true_not_false}
use Rattle.chars.proofs.Laws.Class.{on_range}

-- ---- a byte

pub fold-low : (b : ℕ) → b < 65 → fold_case b ≡ b
unfolding fold_case between
fold-low b h = rw (lt-leb 65 b h)

pub fold-high : (b : ℕ) → 90 < b → fold_case b ≡ b
unfolding fold_case between
fold-high b h = rw (lt-leb b 90 h, and-false)

pub fold_capital : (b : ℕ) → 65 ≤ b → b ≤ 90 → fold_case b ≡ b + 32
unfolding fold_case between
fold_capital b l h = rw (le-leb 65 b l, le-leb b 90 h)

-- a byte is a capital letter, or it folds to itself
by_capital : {X : Type 0} (b : ℕ) → (65 ≤ b → b ≤ 90 → X) → (fold_case b ≡ b → X) → X
by_capital b f g =
    by_test (leb 65 b)
    (λ l. by_test (leb b 90) (λ h. f (leb-true 65 b l) (leb-true b 90 h)) (λ h. g (fold-high b (leb-false b 90 h))))
    (λ l. g (fold-low b (leb-false 65 b l)))

fold-fold : (b : ℕ) → fold_case (fold_case b) ≡ fold_case b
fold-fold b =
    by_capital b
    (λ l h. rw (fold_capital b l h) (fold-high (b + 32) (omega arith)))
    (λ e. ap fold_case e)

-- what is no letter folds to itself
pub fold_other : (b : ℕ) → is_letter b ≡ false → fold_case b ≡ b
unfolding is_letter fold_case
fold_other b h = by_test (between 65 90 b) (λ e. true_not_false true refl (rw e at h)) (λ e. rw e)

-- every class has a letter with its small one
pub class_fold : (k : Class) (b : ℕ) → is_in k (fold_case b) ≡ is_in k b
unfolding is_in is_letter is_digit is_printable is_quotable is_atom_char is_label_char between bytes member fold_case
class_fold k b = by_capital b (λ l h. capital k b l h) (λ e. ap (is_in k) e)
  where
    capital : (k : Class) (b : ℕ) → 65 ≤ b → b ≤ 90 → is_in k (fold_case b) ≡ is_in k b
    capital Letter b l h = on_range (λ b. is_letter (fold_case b)) is_letter 65 26 tt b l (omega arith)
    capital Digit b l h = on_range (λ b. is_digit (fold_case b)) is_digit 65 26 tt b l (omega arith)
    capital Printable b l h = on_range (λ b. is_printable (fold_case b)) is_printable 65 26 tt b l (omega arith)
    capital Quotable b l h = on_range (λ b. is_quotable (fold_case b)) is_quotable 65 26 tt b l (omega arith)
    capital Atom b l h = on_range (λ b. is_atom_char (fold_case b)) is_atom_char 65 26 tt b l (omega arith)
    capital Label b l h = on_range (λ b. is_label_char (fold_case b)) is_label_char 65 26 tt b l (omega arith)
    capital Any b l h = refl

-- ---- a text folded

pub fold-append : (s t : List ℕ) → fold_text (s ++ t) ≡ fold_text s ++ fold_text t
unfolding fold_text
fold-append [] t = refl
fold-append (x ∷ s) t = rw (fold-append s t)

pub length-fold : (s : List ℕ) → length (fold_text s) ≡ length s
unfolding fold_text
length-fold s = length-map s fold_case

pub first-fold : (s : List ℕ) → first (fold_text s) ≡ fold_case (first s)
unfolding first fold_text fold_case between
first-fold [] = refl
first-fold (x ∷ s) = refl

pub last-fold : (s : List ℕ) → last (fold_text s) ≡ fold_case (last s)
unfolding last fold_text fold_case between
last-fold [] = refl
last-fold (x ∷ []) = refl
last-fold (x ∷ y ∷ s) = last-fold (y ∷ s)

pub fold_twice : (s : List ℕ) → fold_text (fold_text s) ≡ fold_text s
unfolding fold_text
fold_twice [] = refl
fold_twice (x ∷ s) = rw (fold-fold x, fold_twice s)

pub all-fold : (k : Class) (s : List ℕ) → all (is_in k) (fold_text s) ≡ all (is_in k) s
unfolding fold_text
all-fold k s = all_map (is_in k) fold_case s ∙ all_ext (λ x. is_in k (fold_case x)) (is_in k) (class_fold k) s

-- ---- agree, over any test

module _ {A : Type 0} (e : A → A → Bool) where
  pub agree_refl : ((x : A) → e x x ≡ true) → (s : List A) → agree e s s ≡ true
  unfolding agree
  agree_refl f [] = refl
  agree_refl f (x ∷ s) = and_both (f x) (agree_refl f s)

  pub agree_sym : ((x y : A) → e x y ≡ e y x) → (s t : List A) → agree e s t ≡ agree e t s
  unfolding agree
  agree_sym f [] [] = refl
  agree_sym f [] (y ∷ t) = refl
  agree_sym f (x ∷ s) [] = refl
  agree_sym f (x ∷ s) (y ∷ t) = rw (f x y, agree_sym f s t)

  pub agree_trans : ((x y z : A) → e x y ≡ true → e y z ≡ true → e x z ≡ true) → (s t u : List A) → agree e s t ≡ true → agree e t u ≡ true → agree e s u ≡ true
  unfolding agree
  agree_trans f [] [] u h k = k
  agree_trans f [] (y ∷ t) u h k = true_not_false true refl (sym h)
  agree_trans f (x ∷ s) [] u h k = true_not_false true refl (sym h)
  agree_trans f (x ∷ s) (y ∷ t) [] h k = k
  agree_trans f (x ∷ s) (y ∷ t) (z ∷ u) h k =
      and_both
      (f x y z (and_left (e x y) (agree e s t) h) (and_left (e y z) (agree e t u) k))
      (agree_trans f s t u (and_right (e x y) (agree e s t) h) (and_right (e y z) (agree e t u) k))

  pub agree-length : (s t : List A) → agree e s t ≡ true → length s ≡ length t
  unfolding agree
  agree-length [] [] h = refl
  agree-length [] (y ∷ t) h = true_not_false true refl (sym h)
  agree-length (x ∷ s) [] h = true_not_false true refl (sym h)
  agree-length (x ∷ s) (y ∷ t) h = ap suc (agree-length s t (and_right (e x y) (agree e s t) h))

  pub agree_lengths_differ : (s t : List A) → (length s ≡ length t → ⊥) → agree e s t ≡ false
  agree_lengths_differ s t h = by_test (agree e s t) (λ k. absurd (h (agree-length s t k))) (λ k. k)

  pub agree-append : (s s' t t' : List A) → length s ≡ length t → agree e (s ++ s') (t ++ t') ≡ (agree e s t && agree e s' t')
  unfolding agree
  agree-append [] s' [] t' l = refl
  agree-append [] s' (y ∷ t) t' l = absurd (suc-ne-zero (length t) (sym l))
  agree-append (x ∷ s) s' [] t' l = absurd (suc-ne-zero (length s) l)
  agree-append (x ∷ s) s' (y ∷ t) t' l = rw (agree-append s s' t t' (suc_inj l), and_assoc)
  -- what a loop has left of two lists

-- lists that are as long agree where each pair of their elements does
pub agree_zip : {A : Type 0} (e : A → A → Bool) (s t : List A) → length s ≡ length t → list_all (λ p. e p.0 p.1) (zip s t) ≡ agree e s t
unfolding agree
agree_zip e [] [] l = refl
agree_zip e [] (y ∷ t) l = absurd (suc-ne-zero (length t) (sym l))
agree_zip e (x ∷ s) [] l = absurd (suc-ne-zero (length s) l)
agree_zip e (x ∷ s) (y ∷ t) l = rw (agree_zip e s t (suc_inj l))

-- agreeing lists agree at each place, past their ends by the default
pub agree_at : {A : Type 0} (e : A → A → Bool) (d : A) → e d d ≡ true → (s t : List A) (i : ℕ) → agree e s t ≡ true → e (get_or s i d) (get_or t i d) ≡ true
unfolding agree
agree_at e d r [] [] i h = r
agree_at e d r [] (y ∷ t) i h = true_not_false true refl (sym h)
agree_at e d r (x ∷ s) [] i h = true_not_false true refl (sym h)
agree_at e d r (x ∷ s) (y ∷ t) zero h = and_left (e x y) (agree e s t) h
agree_at e d r (x ∷ s) (y ∷ t) (suc i) h = agree_at e d r s t i (and_right (e x y) (agree e s t) h)

-- ---- byte for byte

pub equal-path : (s t : List ℕ) → equal_text s t ≡ true → s ≡ t
unfolding equal_text agree
equal-path [] [] h = refl
equal-path [] (y ∷ t) h = true_not_false true refl (sym h)
equal-path (x ∷ s) [] h = true_not_false true refl (sym h)
equal-path (x ∷ s) (y ∷ t) h =
    rw (eqb-true x y (and_left (eqb x y) (agree eqb s t) h), equal-path s t (and_right (eqb x y) (agree eqb s t) h))

-- as `==` compares two slices
pub equal-pointwise : (s t : List ℕ) → pointwise eqb s t ≡ equal_text s t
unfolding equal_text agree
equal-pointwise [] [] = refl
equal-pointwise [] (y ∷ t) = refl
equal-pointwise (x ∷ s) [] = refl
equal-pointwise (x ∷ s) (y ∷ t) = rw (equal-pointwise s t)

pub equal_refl : (s : List ℕ) → equal_text s s ≡ true
unfolding equal_text
equal_refl s = agree_refl eqb (λ x. eq-eqb x x refl) s

pub equal_of : (s t : List ℕ) → s ≡ t → equal_text s t ≡ true
equal_of s t e = rw e (equal_refl t)

-- ---- letter case aside

-- to compare case aside is to compare what is folded
pub same_folded : (s t : List ℕ) → same_text s t ≡ equal_text (fold_text s) (fold_text t)
unfolding same_text same_byte equal_text fold_text agree
same_folded [] [] = refl
same_folded [] (y ∷ t) = refl
same_folded (x ∷ s) [] = refl
same_folded (x ∷ s) (y ∷ t) = rw (same_folded s t)

pub same-path : (s t : List ℕ) → same_text s t ≡ true → fold_text s ≡ fold_text t
same-path s t h = equal-path (fold_text s) (fold_text t) (sym (same_folded s t) ∙ h)

pub same_of : (s t : List ℕ) → fold_text s ≡ fold_text t → same_text s t ≡ true
same_of s t e = same_folded s t ∙ equal_of (fold_text s) (fold_text t) e

pub same_refl : (s : List ℕ) → same_text s s ≡ true
same_refl s = same_of s s refl

pub same_sym : (s t : List ℕ) → same_text s t ≡ same_text t s
same_sym s t = bool_same (same_text s t) (same_text t s) (λ h. same_of t s (sym (same-path s t h))) (λ h. same_of s t (sym (same-path t s h)))

pub same_trans : (s t u : List ℕ) → same_text s t ≡ true → same_text t u ≡ true → same_text s u ≡ true
same_trans s t u h k = same_of s u (same-path s t h ∙ same-path t u k)

pub same_length : (s t : List ℕ) → same_text s t ≡ true → length s ≡ length t
unfolding same_text
same_length s t h = agree-length same_byte s t h
