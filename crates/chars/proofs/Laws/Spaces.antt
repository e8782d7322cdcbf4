-- Laws of the spaces rule: a text is well spaced where the pass over parts between spaces says so, and its letters' case is no matter.
-- Assumes nothing.
use mathlib.Core.Path.{◌≡◌, refl, sym, ap, ◌∙◌}
use Prim.Native.Nat.{ℕ}
use mathlib.Core.Bool.{Bool, true, false, not, ◌&&◌, ◌||◌, or-true, and-false, and_comm}
use mathlib.Core.List.{List, [], ◌∷◌, ◌++◌}
use borrow.Author.Tests.{eqb-true, not-true}
use native.Mathlib.Omega.{arith}
use lib.Dec.{eqb}
use lib.ListN.{length}
use Rattle.chars.specs.Lists.{all, first, last, non_empty}
use Rattle.chars.specs.Class.{between, is_in, is_letter, is_printable}
use Rattle.chars.specs.Case.{fold_text}
use Rattle.chars.specs.declared.class.Class.TheVariants.{Printable}
use Rattle.chars.specs.Parts.{is_parted, side_by_side}
use Rattle.chars.specs.Spaces.{adjacent, is_no_space, is_text, well_spaced}
use Rattle.chars.proofs.Laws.Lists.{all_ext, and_left, and_right, by_test}
use Rattle.chars.proofs.Laws.Parts.{from-whole, parted-fold, parted-from}
use Rattle.chars.proofs.Laws.Case.{class_fold}

side_by_side_lem : (s : List ℕ) → side_by_side 32 s ≡ adjacent s
unfolding side_by_side adjacent
side_by_side_lem [] = refl
side_by_side_lem (x ∷ s) = rw (side_by_side_lem s)

-- the two conditions at the ends side by side
all-order : (n f a d l : Bool) → n && (not f && (a && d && l)) ≡ n && a && (not f && l && d)
all-order true true true d l = refl
all-order true true false d l = refl
all-order true false true d l = and_comm d l
all-order true false false d l = refl
all-order false f a d l = refl

-- parts of the class with single spaces between: what the text has, said of the whole
pub parted_spaced : (p : ℕ → Bool) (s : List ℕ) → is_parted 32 p s ≡ non_empty s && all (λ x. eqb x 32 || p x) s && well_spaced s
unfolding well_spaced
parted_spaced p s =
    parted-from 32 p s
    ∙ from-whole 32 p refl s
    ∙ rw (side_by_side_lem s)
    (all-order (non_empty s) (eqb (first s) 32) (all (λ x. eqb x 32 || p x) s) (not (adjacent s)) (not (eqb (last s) 32)))

-- two texts one behind the other
pub adjacent-append : (s t : List ℕ) → adjacent (s ++ t) ≡ (adjacent s || (eqb (last s) 32 && eqb (first t) 32) || adjacent t)
unfolding adjacent first last
adjacent-append [] t = refl
adjacent-append (x ∷ []) t = rw (and-false (eqb x 32))
adjacent-append (x ∷ y ∷ s) t = by_test (eqb x 32 && eqb y 32) (λ e. rw e) (λ e. rw e (adjacent-append (y ∷ s) t))

space_printable : is_printable 32 ≡ true
unfolding is_printable
space_printable = refl

printable_or_space : (x : ℕ) → is_printable x ≡ eqb x 32 || is_printable x
printable_or_space x = by_test (eqb x 32) (λ e. rw (eqb-true x 32 e) space_printable) (λ e. rw e)

pub text-parted : (s : List ℕ) → is_text s ≡ is_parted 32 is_printable s
unfolding is_text
text-parted s =
    ap (λ (t : Bool). non_empty s && t && well_spaced s) (all_ext is_printable (λ x. eqb x 32 || is_printable x) printable_or_space s)
    ∙ sym (parted_spaced is_printable s)

spaced_parted : (s : List ℕ) → non_empty s ≡ true → well_spaced s ≡ is_parted 32 (λ b. true) s
unfolding all
spaced_parted s h = sym (parted_spaced (λ b. true) s ∙ rw (h, every s))
  where
    every : (s : List ℕ) → all (λ x. eqb x 32 || true) s ≡ true
    every [] = refl
    every (x ∷ s) = rw (or-true (eqb x 32), every s)

-- the same by the length, as code tests it
pub empty_spaced : (s : List ℕ) → length s ≡ 0 → well_spaced s ≡ true
unfolding well_spaced first last adjacent
empty_spaced [] h = refl
empty_spaced (x ∷ s) h = absurd (omega arith)

pub some_spaced : (s : List ℕ) → (length s ≡ 0 → ⊥) → well_spaced s ≡ is_parted 32 (λ b. true) s
unfolding non_empty
some_spaced [] h = absurd (h refl)
some_spaced (x ∷ s) h = spaced_parted (x ∷ s) refl

-- ---- letter case

space_other : is_letter 32 ≡ false
unfolding is_letter between
space_other = refl

pub text-fold : (s : List ℕ) → is_text (fold_text s) ≡ is_text s
unfolding is_in
text-fold s = text-parted (fold_text s) ∙ parted-fold 32 space_other is_printable (class_fold Printable) s ∙ sym (text-parted s)

-- ---- a text without spaces keeps the rule

no_space : (x : ℕ) → is_no_space x ≡ true → eqb x 32 ≡ false
unfolding is_no_space
no_space x h = not-true (eqb x 32) h

spaceless_first : (s : List ℕ) → all is_no_space s ≡ true → eqb (first s) 32 ≡ false
unfolding all first
spaceless_first [] h = refl
spaceless_first (x ∷ s) h = no_space x (and_left (is_no_space x) (all is_no_space s) h)

spaceless_last : (s : List ℕ) → all is_no_space s ≡ true → eqb (last s) 32 ≡ false
unfolding all last
spaceless_last [] h = refl
spaceless_last (x ∷ []) h = no_space x (and_left (is_no_space x) true h)
spaceless_last (x ∷ y ∷ s) h = spaceless_last (y ∷ s) (and_right (is_no_space x) (all is_no_space (y ∷ s)) h)

spaceless_adjacent : (s : List ℕ) → all is_no_space s ≡ true → adjacent s ≡ false
unfolding all adjacent
spaceless_adjacent [] h = refl
spaceless_adjacent (x ∷ s) h = rw (no_space x (and_left (is_no_space x) (all is_no_space s) h)) (spaceless_adjacent s (and_right (is_no_space x) (all is_no_space s) h))

pub spaceless_text : (s : List ℕ) → non_empty s ≡ true → all is_printable s ≡ true → all is_no_space s ≡ true → is_text s ≡ true
unfolding is_text well_spaced
spaceless_text s n p h = rw (n, p, spaceless_first s h, spaceless_last s h, spaceless_adjacent s h)
