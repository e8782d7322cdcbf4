-- The number of a key by its length: entries of another length are passed over.
-- Assumes nothing.
use mathlib.Core.Path.{◌≡◌, refl, sym}
use mathlib.Core.Bool.{Bool, true, false, not}
use mathlib.Core.List.{List, [], ◌∷◌, ◌++◌}
use Prim.Native.Nat.{ℕ, suc, ◌+◌, ◌≤◌, ◌<◌}
use native.Mathlib.Omega.{arith}
use borrow.Author.Tests.{eq-eqb, lt-ltb, ltb-false, ne_eqb, not-true}
use lib.Dec.{eqb, ltb}
use lib.ListN.{length, drop, take, get_or}
use Rattle.std.specs.Prelude.{None, Some, unwrap_or}
use Rattle.std.specs.Option.{option_eq}
use Rattle.chars.specs.Lists.{all, bytes}
use Rattle.chars.specs.Case.{agree, fold_case, same_byte, same_text}
use Rattle.chars.proofs.Laws.Case.{agree_lengths_differ}
use Rattle.chars.proofs.Laws.Lists.{and_left, and_right, by_test, true_not_false}
use Rattle.ortext_segments.specs.Keys.{Keys, dd_key, short_keys, key_count, key_number, key_of, keys}

-- ---- the number of a key that may be none

key-number_le : (ks : Keys) (s : List ℕ) → key_number ks s ≤ length ks
unfolding key_number
key-number_le [] s = omega arith
key-number_le (k ∷ ks) s = by_test (same_text k s) (λ e. rw e (omega arith)) (λ e. rw e (omega (arith, key-number_le ks s)))

pub number_of_key : (s : List ℕ) → unwrap_or (key_of keys s) key_count ≡ key_number keys s
unfolding key_of keys
number_of_key s =
    by_test (ltb (key_number keys s) (length keys))
    (λ e. rw e)
    (λ e. rw e (omega (arith, key-number_le keys s, ltb-false (key_number keys s) (length keys) e)))

pub some_key : (s : List ℕ) (n : ℕ) → n ≡ key_number keys s → n < key_count → Some n ≡ key_of keys s
unfolding key_of keys
some_key s n e l = rw (sym e, lt-ltb n key_count l)

pub no_key : (s : List ℕ) → key_count ≡ key_number keys s → None ≡ key_of keys s
unfolding key_of keys
no_key s e = rw (sym e)

-- the key is DD, as the reader asks for it
pub dd_test : (s : List ℕ) → option_eq eqb (key_of keys s) (Some dd_key) ≡ eqb (key_number keys s) dd_key
unfolding key_of keys
dd_test s =
    by_test (ltb (key_number keys s) key_count)
    (λ e. rw e)
    (λ e. rw (e, ne_eqb (key_number keys s) dd_key (λ f. omega (arith, f, ltb-false (key_number keys s) key_count e))))

-- ---- entries of another length

-- a key of another length is not spelt
pub differ : (k s : List ℕ) → eqb (length k) (length s) ≡ false → same_text k s ≡ false
unfolding same_text
differ k s h = agree_lengths_differ same_byte k s (λ e. true_not_false (eqb (length k) (length s)) (eq-eqb (length k) (length s) e) h)

-- the search passes over entries of another length
pass : (ks ls : Keys) (s : List ℕ) → all (λ (k : List ℕ). not (eqb (length k) (length s))) ks ≡ true → key_number (ks ++ ls) s ≡ length ks + key_number ls s
unfolding key_number all
pass [] ls s h = omega arith
pass (k ∷ ks) ls s h =
    let other : List ℕ → Bool = λ k. not (eqb (length k) (length s)) in
    let e = differ k s (not-true (eqb (length k) (length s)) (and_left (other k) (all other ks) h)) in
    rw e (omega (arith, pass ks ls s (and_right (other k) (all other ks) h)))

-- a text of two letters: CN is the first entry that it can be, GQ the next, and RFC-822, the last entry, it is not
pub two_from : (s : List ℕ) → length s ≡ 2 → key_number keys s ≡ 4 + key_number (drop 4 keys) s
unfolding keys bytes all
two_from s h = pass (take 4 keys) (drop 4 keys) s (rw h)

pub two_next : (s : List ℕ) → length s ≡ 2 → key_number (drop 5 keys) s ≡ 3 + key_number (drop 8 keys) s
unfolding keys bytes all
two_next s h = pass (take 3 (drop 5 keys)) (drop 8 keys) s (rw h)

pub two-last : (s : List ℕ) → length s ≡ 2 → key_number (drop short_keys keys) s ≡ 1
unfolding key_number keys bytes all
two-last s h = pass (drop short_keys keys) [] s (rw h)

-- a text of neither one letter nor two: C, and the entries from O to PN, it is not
module _ (s : List ℕ) (one : length s ≡ 1 → ⊥) (two : length s ≡ 2 → ⊥) where
  not-one : eqb 1 (length s) ≡ false
  not-one = ne_eqb 1 (length s) (λ e. one (omega (arith, e)))

  not-two : eqb 2 (length s) ≡ false
  not-two = ne_eqb 2 (length s) (λ e. two (omega (arith, e)))

  pub long_from : key_number keys s ≡ 1 + key_number (drop 1 keys) s
  unfolding keys bytes all
  long_from = pass (take 1 keys) (drop 1 keys) s (rw not-one)

  pub long_short : key_number (drop 3 keys) s ≡ 9 + key_number (drop short_keys keys) s
  unfolding keys bytes all
  long_short = pass (take 9 (drop 3 keys)) (drop short_keys keys) s (rw (not-one, not-two))

-- a text of one byte
pub one_byte : (s : List ℕ) → length s ≡ 1 → (get_or s 0 0 ∷ []) ≡ s
one_byte [] h = absurd (omega arith)
one_byte (x ∷ []) h = refl
one_byte (x ∷ y ∷ s) h = absurd (omega arith)

-- a letter that is none of the five
module _ (x : ℕ) where
  alone : (k : ℕ) → eqb (fold_case k) (fold_case x) ≡ false → same_text (k ∷ []) (x ∷ []) ≡ false
  unfolding same_text agree same_byte
  alone k e = rw e

  pub no_letter : eqb 99 (fold_case x) ≡ false → eqb 111 (fold_case x) ≡ false → eqb 115 (fold_case x) ≡ false → eqb 103 (fold_case x) ≡ false
      → eqb 105 (fold_case x) ≡ false → key_number keys (x ∷ []) ≡ key_count
  unfolding key_number keys bytes all
  no_letter c o s g i =
      let long = pass (take 2 (drop 1 keys)) (drop 3 keys) (x ∷ []) refl in
      let common = pass (take 1 (drop 4 keys)) (drop 5 keys) (x ∷ []) refl in
      let rest = pass (drop 8 keys) [] (x ∷ []) refl in
      let first : key_number keys (x ∷ []) ≡ suc (key_number (drop 1 keys) (x ∷ [])) = rw (alone 67 c) in
      let organisation : key_number (drop 3 keys) (x ∷ []) ≡ suc (key_number (drop 4 keys) (x ∷ [])) = rw (alone 79 o) in
      let letters : key_number (drop 5 keys) (x ∷ []) ≡ suc (suc (suc (key_number (drop 8 keys) (x ∷ [])))) = rw (alone 83 s, alone 71 g, alone 73 i) in
      omega (arith, first, long, organisation, common, letters, rest)
