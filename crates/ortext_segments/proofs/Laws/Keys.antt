-- Laws of keys: how far a key goes, and what its bytes are not.
-- Assumes nothing.
use mathlib.Core.Path.{◌≡◌, refl, ap, ◌∙◌}
use mathlib.Core.Bool.{true, false, not}
use mathlib.Core.List.{List, [], ◌∷◌, ◌++◌}
use Prim.Native.Nat.{ℕ, ◌+◌, ◌≤◌, ◌<◌}
use native.Mathlib.Numerals.{add-one}
use native.Mathlib.Omega.{arith}
use borrow.Author.Tests.{ne_eqb}
use lib.Dec.{eqb}
use lib.ListN.{length, take, drop, get_or, drop_of_length-le}
use lib.Seq.{drop-cons}
use Rattle.chars.specs.Lists.{all}
use Rattle.chars.specs.Class.{is_label_char, is_letter, is_digit, between}
use Rattle.chars.proofs.Laws.Lists.{all_weaken, and_left, and_right, by_test, true_not_false}
use Rattle.chars.proofs.Laws.Parts.{clear}
use Rattle.ortext_segments.specs.Segments.{key_run}

-- ---- how far a key goes

pub key_here : (s : List ℕ) (i : ℕ) → i < length s → is_label_char (get_or s i 0) ≡ false → key_run (drop i s) ≡ 0
unfolding key_run
key_here s i h e = rw (drop-cons s i 0, e)

pub key_more : (s : List ℕ) (i : ℕ) → i < length s → is_label_char (get_or s i 0) ≡ true
    → key_run (drop i s) ≡ key_run (drop (i + 1) s) + 1
unfolding key_run
key_more s i h e = rw (add-one i, drop-cons s i 0, e)

pub key-end : (s : List ℕ) (i : ℕ) → length s ≤ i → key_run (drop i s) ≡ 0
unfolding key_run
key-end s i h = rw (drop_of_length-le s)

pub key-run_le : (t : List ℕ) → key_run t ≤ length t
unfolding key_run
key-run_le [] = omega arith
key-run_le (x ∷ t) = by_test (is_label_char x) (λ e. rw e (omega (arith, key-run_le t))) (λ e. rw e (omega arith))

-- the bytes of a key are label characters, and what follows it begins with none
pub key_labels : (t : List ℕ) → all is_label_char (take (key_run t) t) ≡ true
unfolding key_run all
key_labels [] = refl
key_labels (x ∷ t) = by_test (is_label_char x) (λ e. rw (e, add-one, e) (key_labels t)) (λ e. rw e)

pub key-behind : (t : List ℕ) → key_run (drop (key_run t) t) ≡ 0
unfolding key_run
key-behind [] = refl
key-behind (x ∷ t) = by_test (is_label_char x) (λ e. rw (e, add-one) (key-behind t)) (λ e. rw (e, e))

pub key-append : (p q : List ℕ) → all is_label_char p ≡ true → key_run (p ++ q) ≡ length p + key_run q
unfolding key_run all
key-append [] q h = omega arith
key-append (x ∷ p) q h =
    rw (and_left (is_label_char x) (all is_label_char p) h) (omega (arith, key-append p q (and_right (is_label_char x) (all is_label_char p) h)))

-- `$` is no label character, nor is a stop or a dot
pub dollar : is_label_char 36 ≡ false
unfolding is_label_char is_letter is_digit between
dollar = refl

pub slash : is_label_char 47 ≡ false
unfolding is_label_char is_letter is_digit between
slash = refl

pub equals : is_label_char 61 ≡ false
unfolding is_label_char is_letter is_digit between
equals = refl

pub dot : is_label_char 46 ≡ false
unfolding is_label_char is_letter is_digit between
dot = refl

-- a byte that is no label character stands in no key
pub key-clear : (sep : ℕ) → is_label_char sep ≡ false → (p : List ℕ) → all is_label_char p ≡ true → clear sep p ≡ true
unfolding all
key-clear sep f p h =
    all_weaken is_label_char (λ x. not (eqb x sep)) (λ x e. rw (ne_eqb x sep (λ r. true_not_false (is_label_char x) e (ap is_label_char r ∙ f)))) p h

-- no key begins with a byte that is no label character
pub run_none : (t : List ℕ) → is_label_char (get_or t 0 0) ≡ false → key_run t ≡ 0
unfolding key_run
run_none [] e = refl
run_none (x ∷ t) e = rw e

pub none-run : (t : List ℕ) → key_run t ≡ 0 → is_label_char (get_or t 0 0) ≡ false
unfolding key_run is_label_char is_letter is_digit between
none-run [] e = refl
none-run (x ∷ t) e = by_test (is_label_char x) (λ f. absurd (omega (arith, rw f at e))) (λ f. f)
