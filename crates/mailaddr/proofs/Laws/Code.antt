-- Laws of coding a text and of decoding it: what was coded decodes to the text, and is a value where the text's spaces allow it;
-- decoding makes nothing longer; and a step of each loop.
-- Assumes nothing.
use mathlib.Core.Path.{◌≡◌, refl, sym, ap, ◌∙◌}
use Prim.Native.Nat.{ℕ, zero, suc, ◌+◌, ◌/◌, ◌%◌, ◌≤◌, ◌<◌}
use mathlib.Core.Bool.{Bool, true, false, not, ◌&&◌, ◌||◌, cond}
use mathlib.Core.List.{List, [], ◌∷◌, ◌++◌, append_assoc, append-nil}
use mathlib.Core.Option.{none, some}
use Rattle.std.proofs.Common.{None, Some}
use native.Mathlib.Nat.{add-zero}
use native.Mathlib.Numerals.{add-one}
use native.Mathlib.Omega.{arith}
use borrow.Author.Tests.{eqb-true, eqb-false, ne_eqb, le-leb, not-true}
use lib.Dec.{T, eqb, leb}
use lib.ListN.{length, drop, get_or, set, length-append, drop_of_length-le}
use lib.Seq.{drop-cons, drop-drop, get_or-drop}
use Rattle.chars.specs.Lists.{all, bytes, first, last, member, non_empty, onto}
use Rattle.chars.specs.Class.{between, highest_code, is_char, is_digit, is_letter, is_printable}
use Rattle.chars.specs.Case.{fold_case}
use Rattle.chars.specs.Digits.{digits_number, is_number_group, three_digits}
use Rattle.chars.specs.Spaces.{adjacent, is_text, well_spaced}
use Rattle.chars.specs.Write.{Wrote, front}
use Rattle.chars.proofs.Laws.Lists.{all_append, and_both, and_left, and_right, by_test, first-append, last-append, true_not_false}
use Rattle.chars.proofs.Laws.Class.{at_char, char_most, matches}
use Rattle.chars.proofs.Laws.Digits.{digits_back, is_number, number-value}
use Rattle.chars.proofs.Laws.Options.{ahead, ahead-nothing, ahead-onto, none-some, onto-some, some_same}
use Rattle.chars.proofs.Laws.Seq.{some-length}
use Rattle.mailaddr.proofs.Laws.Options.{unless-none, unless-some}
use Rattle.chars.proofs.Laws.Spaces.{adjacent-append}
use Rattle.chars.proofs.Laws.Write.{wrote-front, wrote_nothing, wrote_then}
use Rattle.oraddr.specs.Bounds.{dd_value, bound_of, is_value}
use Rattle.mailaddr.specs.declared.code.Group.{Group}
use Rattle.mailaddr.specs.Answers.{Grouped, from_group, letter_group, unless_zero}
use Rattle.mailaddr.specs.Code.{char_of, coded, coded_char, coded_from, decoded, decoded_after, index_of, is_letter_group, letter_of, longest_coded_char, numbered}

-- ---- an ASCII character, coded: laws of each by a computed test

-- after a space and not
either : (p q : Bool → ℕ → Bool) → T (matches (p true) (q true) 0 128) → T (matches (p false) (q false) 0 128) → (a : Bool) (b : ℕ) → is_char b ≡ true → p a b ≡ q a b
either p q t f true b h = at_char (p true) (q true) t b h
either p q t f false b h = at_char (p false) (q false) f b h

char_printable : (a : Bool) (b : ℕ) → is_char b ≡ true → all is_printable (coded_char a b) ≡ true
unfolding all coded_char letter_of index_of numbered is_printable is_letter is_digit between bytes member
char_printable = either (λ a b. all is_printable (coded_char a b)) (λ a b. true) tt tt

char_first : (a : Bool) (b : ℕ) → is_char b ≡ true → eqb (first (coded_char a b)) 32 ≡ (eqb b 32 && not a)
unfolding first coded_char letter_of index_of numbered is_printable is_letter is_digit between bytes member
char_first = either (λ a b. eqb (first (coded_char a b)) 32) (λ a b. eqb b 32 && not a) tt tt

char_last : (a : Bool) (b : ℕ) → is_char b ≡ true → eqb (last (coded_char a b)) 32 ≡ (eqb b 32 && not a)
unfolding last coded_char letter_of index_of numbered is_printable is_letter is_digit between bytes member
char_last = either (λ a b. eqb (last (coded_char a b)) 32) (λ a b. eqb b 32 && not a) tt tt

char_adjacent : (a : Bool) (b : ℕ) → is_char b ≡ true → adjacent (coded_char a b) ≡ false
unfolding adjacent first coded_char letter_of index_of numbered is_printable is_letter is_digit between bytes member
char_adjacent = either (λ a b. adjacent (coded_char a b)) (λ a b. false) tt tt

pub char_length : (a : Bool) (b : ℕ) → (1 ≤ length (coded_char a b)) × (length (coded_char a b) ≤ longest_coded_char)
unfolding coded_char numbered
char_length a b =
    by_test (eqb (letter_of b) 0)
    (λ e. by_test (is_printable b && not (a && eqb b 32)) (λ k. rw (e, k) (omega arith, omega arith)) (λ k. rw (e, k) (omega arith, omega arith)))
    (λ e. rw e (omega arith, omega arith))

-- the three ways in which it is coded
module _ (a : Bool) (b : ℕ) where
  pub coded_letter : (l : ℕ) → Some l ≡ unless_zero (letter_of b) → coded_char a b ≡ 40 ∷ l ∷ 41 ∷ []
  unfolding coded_char
  coded_letter l e =
      let k = unless-some (letter_of b) e in
      rw (k.0, ne_eqb l 0 k.1)

  pub coded_itself : None ≡ unless_zero (letter_of b) → (is_printable b && not (a && eqb b 32)) ≡ true → coded_char a b ≡ b ∷ []
  unfolding coded_char
  coded_itself e k = rw (unless-none (letter_of b) e, k)

  pub coded_number : None ≡ unless_zero (letter_of b) → (is_printable b && not (a && eqb b 32)) ≡ false → coded_char a b ≡ numbered b
  unfolding coded_char
  coded_number e k = rw (unless-none (letter_of b) e, k)

-- ---- a group, decoded

pub after-drop : (k : ℕ) (s : List ℕ) → decoded_after k s ≡ decoded (drop k s)
unfolding decoded decoded_after
after-drop zero s = refl
after-drop (suc k) [] = refl
after-drop (suc k) (x ∷ s) = after-drop k s

is_letter_lem : (s : List ℕ) → is_letter_group s ≡ not (eqb (letter_group s) 0)
unfolding is_letter_group letter_group
is_letter_lem s = by_test (eqb (get_or s 1 0) 41) (λ e. rw e) (λ e. rw e)

letter_char : (s : List ℕ) → (letter_group s ≡ 0 → ⊥) → char_of (get_or s 0 0) ≡ letter_group s
unfolding letter_group
letter_char s h = by_test (eqb (get_or s 1 0) 41) (λ e. rw e) (λ e. absurd (h (rw e)))

module _ (x : ℕ) (s : List ℕ) where
  pub group_close : x ≡ 41 → decoded (x ∷ s) ≡ none
  unfolding decoded decoded_after
  group_close e = rw e

  pub group_plain : (x ≡ 40 → ⊥) → (x ≡ 41 → ⊥) → decoded (x ∷ s) ≡ onto x (decoded s)
  unfolding decoded decoded_after
  group_plain f g = rw (ne_eqb x 40 f, ne_eqb x 41 g)

  pub group_letter : x ≡ 40 → (letter_group s ≡ 0 → ⊥) → decoded (x ∷ s) ≡ onto (letter_group s) (decoded (drop 2 s))
  unfolding decoded decoded_after
  group_letter e h = rw (e, is_letter_lem s, ne_eqb (letter_group s) 0 h, letter_char s h, after-drop 2 s)

  pub group_number : x ≡ 40 → letter_group s ≡ 0 → get_or s 3 0 ≡ 41 → three_digits s ≤ highest_code → decoded (x ∷ s) ≡ onto (three_digits s) (decoded (drop 4 s))
  unfolding decoded decoded_after
  group_number e z k h = rw (e, is_letter_lem s, z, is_number 41 s, k, le-leb (three_digits s) highest_code h, number-value s h, after-drop 4 s)

  pub group_none : x ≡ 40 → letter_group s ≡ 0 → (eqb (get_or s 3 0) 41 && leb (three_digits s) highest_code) ≡ false → decoded (x ∷ s) ≡ none
  unfolding decoded decoded_after
  group_none e z k = rw (e, is_letter_lem s, z, is_number 41 s, k)

-- ---- what was coded decodes to the text

-- a letter stands for the character that has it
letter_back : (b : ℕ) → is_char b ≡ true → eqb (letter_of b) 0 ≡ false → (char_of (letter_of b) ≡ b) × (char_of (letter_of b) ≡ 0 → ⊥)
unfolding letter_of char_of index_of fold_case between bytes
letter_back b h e =
    let k = at_char (λ b. eqb (letter_of b) 0 || eqb (char_of (letter_of b)) b && not (eqb (char_of (letter_of b)) 0)) (λ b. true) tt b h in
    let l : (eqb (char_of (letter_of b)) b && not (eqb (char_of (letter_of b)) 0)) ≡ true = rw e at k in (
      eqb-true (char_of (letter_of b)) b (and_left (eqb (char_of (letter_of b)) b) (not (eqb (char_of (letter_of b)) 0)) l),
      eqb-false (char_of (letter_of b)) 0 (not-true (eqb (char_of (letter_of b)) 0) (and_right (eqb (char_of (letter_of b)) b) (not (eqb (char_of (letter_of b)) 0)) l)),
    )

-- the parentheses have letters
plain : (b : ℕ) → eqb (letter_of b) 0 ≡ true → (b ≡ 40 → ⊥) × (b ≡ 41 → ⊥)
unfolding letter_of index_of bytes
plain b e = (
  λ q. true_not_false (eqb (letter_of b) 0) e (ap (λ c. eqb (letter_of c) 0) q),
  λ q. true_not_false (eqb (letter_of b) 0) e (ap (λ c. eqb (letter_of c) 0) q),
)

-- what stands behind the opening parenthesis of a number
abbrev digits : ℕ → List ℕ → List ℕ
digits b s = (48 + b / 100) ∷ (48 + b / 10 % 10) ∷ (48 + b % 10) ∷ 41 ∷ s

number-back : (b : ℕ) (s : List ℕ) → is_char b ≡ true → (letter_group (digits b s) ≡ 0) × (three_digits (digits b s) ≡ b)
unfolding letter_group
number-back b s h =
    (eqb-true (letter_group (digits b s)) 0 (at_char (λ b. eqb (letter_group (digits b [])) 0) (λ b. true) tt b h), digits_back b (41 ∷ s) h)

letter_is : (l : ℕ) (s : List ℕ) → letter_group (l ∷ 41 ∷ s) ≡ char_of l
unfolding letter_group
letter_is l s = refl

char_back : (a : Bool) (b : ℕ) (s : List ℕ) → is_char b ≡ true → decoded (coded_char a b ++ s) ≡ onto b (decoded s)
unfolding coded_char numbered
char_back a b s h =
    by_test (eqb (letter_of b) 0)
    (λ e. by_test (is_printable b && not (a && eqb b 32))
    (λ k. rw (e, k) (group_plain b s (plain b e).0 (plain b e).1))
    (λ k. let n = number-back b s h in
    rw (e, k) (group_number 40 (digits b s) refl n.0 refl (rw n.1 (char_most b h)) ∙ ap (λ c. onto c (decoded s)) n.1)))
    (λ e. let l = letter_back b h e in
    rw e (group_letter 40 (letter_of b ∷ 41 ∷ s) refl (rw letter_is l.1) ∙ ap (λ c. onto c (decoded s)) (letter_is (letter_of b) s ∙ l.0)))

decode_from : (a : Bool) (s : List ℕ) → all is_char s ≡ true → decoded (coded_from a s) ≡ some s
unfolding all coded_from decoded decoded_after onto
decode_from a [] h = refl
decode_from a (b ∷ s) h =
    char_back a b (coded_from (eqb b 32) s) (and_left (is_char b) (all is_char s) h)
    ∙ ap (onto b) (decode_from (eqb b 32) s (and_right (is_char b) (all is_char s) h))

pub decode_coded : (s : List ℕ) → all is_char s ≡ true → decoded (coded s) ≡ some s
unfolding coded
decode_coded s h = decode_from false s h

-- ---- what was coded is not shorter, and is printable

from-length : (a : Bool) (s : List ℕ) → length s ≤ length (coded_from a s)
unfolding coded_from
from-length a [] = omega arith
from-length a (b ∷ s) = rw length-append (omega (arith, (char_length a b).0, from-length (eqb b 32) s))

from_printable : (a : Bool) (s : List ℕ) → all is_char s ≡ true → all is_printable (coded_from a s) ≡ true
unfolding all coded_from
from_printable a [] h = refl
from_printable a (b ∷ s) h =
    rw (all_append is_printable (coded_char a b) (coded_from (eqb b 32) s))
    (and_both (char_printable a b (and_left (is_char b) (all is_char s) h)) (from_printable (eqb b 32) s (and_right (is_char b) (all is_char s) h)))

-- ---- its spaces

from_first : (a : Bool) (s : List ℕ) → all is_char s ≡ true → eqb (first (coded_from a s)) 32 ≡ (eqb (first s) 32 && not a)
unfolding all coded_from first
from_first a [] h = refl
from_first a (b ∷ s) h =
    rw (first-append (coded_char a b) (coded_from (eqb b 32) s) (char_length a b).0)
    (char_first a b (and_left (is_char b) (all is_char s) h))

from_last : (a : Bool) (s : List ℕ) → all is_char s ≡ true → eqb (last (coded_from a s)) 32 ≡ true → eqb (last s) 32 ≡ true
unfolding all coded_from last
from_last a [] h e = e
from_last a (b ∷ []) h e =
    and_left (eqb b 32) (not a)
    (sym (char_last a b (and_left (is_char b) true h)) ∙ rw append-nil at e)
from_last a (b ∷ c ∷ s) h e =
    from_last (eqb b 32) (c ∷ s) (and_right (is_char b) (all is_char (c ∷ s)) h)
    (rw (last-append (coded_char a b) (coded_from (eqb b 32) (c ∷ s)) (omega (arith, from-length (eqb b 32) (c ∷ s)))) at e)

from-adjacent : (a : Bool) (s : List ℕ) → all is_char s ≡ true → adjacent (coded_from a s) ≡ false
unfolding all coded_from adjacent
from-adjacent a [] h = refl
from-adjacent a (b ∷ s) h =
    let l = and_left (is_char b) (all is_char s) h in
    let r = and_right (is_char b) (all is_char s) h in
    rw (adjacent-append (coded_char a b) (coded_from (eqb b 32) s), char_adjacent a b l, char_last a b l, from_first (eqb b 32) s r, from-adjacent (eqb b 32) s r)
    (never (eqb b 32) (eqb (first s) 32) a)
  where
    never : (x y a : Bool) → (x && not a && (y && not x) || false) ≡ false
    never true true true = refl
    never true true false = refl
    never true false true = refl
    never true false false = refl
    never false y a = refl

from_some : (s : List ℕ) → non_empty s ≡ true → non_empty (coded_from false s) ≡ true
unfolding non_empty coded_from
from_some [] h = h
from_some (b ∷ s) h = some-length (coded_from false (b ∷ s)) (omega (arith, from-length false (b ∷ s)))

-- a text with no space at its ends is coded as a value
pub coded-value : (s : List ℕ) → all is_char s ≡ true → non_empty s ≡ true → (first s ≡ 32 → ⊥) → (last s ≡ 32 → ⊥) → length (coded s) ≤ bound_of dd_value → is_value dd_value (coded s) ≡ true
unfolding coded is_value is_text well_spaced
coded-value s h n f l k =
    and_both (le-leb (length (coded_from false s)) (bound_of dd_value) k)
    (rw (from_some s n, from_printable false s h, from_first false s h, ne_eqb (first s) 32 f, end (eqb (last (coded_from false s)) 32) (from_last false s h) (ne_eqb (last s) 32 l), from-adjacent false s h))
  where
    end : {q : Bool} (p : Bool) → (p ≡ true → q ≡ true) → q ≡ false → p ≡ false
    end true f e = sym (f refl) ∙ e
    end false f e = refl

-- ---- the length of what was decoded

after-length : (k : ℕ) (s t : List ℕ) → decoded_after k s ≡ some t → length t ≤ length s
unfolding decoded_after
after-length zero [] t h = let e : [] ≡ t = some_same h in omega (arith, ap length e)
after-length (suc k) [] t h = let e : [] ≡ t = some_same h in omega (arith, ap length e)
after-length (suc k) (x ∷ s) t h = omega (arith, after-length k s t h)
after-length zero (x ∷ s) t h =
    by_test (eqb x 40)
    (λ e. by_test (is_letter_group s)
    (λ k. onto-some (char_of (get_or s 0 0)) (decoded_after 2 s) t (rw (e, k) at h) (λ u q r. omega (arith, after-length 2 s u q, ap length r)))
    (λ k. by_test (is_number_group 41 s)
    (λ n. onto-some (digits_number s) (decoded_after 4 s) t (rw (e, k, n) at h) (λ u q r. omega (arith, after-length 4 s u q, ap length r)))
    (λ n. none-some (rw (e, k, n) at h))))
    (λ e. by_test (eqb x 41)
    (λ k. none-some (rw (e, k) at h))
    (λ k. onto-some x (decoded_after 0 s) t (rw (e, k) at h) (λ u q r. omega (arith, after-length 0 s u q, ap length r))))

pub decoded-length : (s t : List ℕ) → decoded s ≡ some t → length t ≤ length s
unfolding decoded
decoded-length s t h = after-length 0 s t h

-- ---- the loop that codes: what is written at place i of the text, and that a space stands before it or not

pub record CodedTo (s old : List ℕ) (a : Bool) (i at : ℕ) (new : List ℕ) : Type 0 where
  pub text : List ℕ
  pub wrote : Wrote old 0 text at new
  pub whole : coded s ≡ text ++ coded_from a (drop i s)

pub coding-start : (s old : List ℕ) → CodedTo s old false 0 0 old
unfolding coded
coding-start s old = record { text = []; wrote = wrote_nothing; whole = refl }

pub coding_step : {s old new next : List ℕ} {a : Bool} {i at k : ℕ} → CodedTo s old a i at new → i < length s → Wrote new at (coded_char a (get_or s i 0)) k next → CodedTo s old (eqb (get_or s i 0) 32) (i + 1) k next
unfolding coded_from
coding_step {s} {a = a} {i = i} d h w = record {
  text = d.text ++ coded_char a (get_or s i 0);
  wrote = wrote_then d.wrote w;
  whole = d.whole ∙ rw (add-one, drop-cons s i 0, append_assoc);
}

pub coding-end : {s old new : List ℕ} {a : Bool} {i at : ℕ} → CodedTo s old a i at new → length s ≤ i → Wrote old 0 (coded s) at new
unfolding coded_from
coding-end {s} d h =
    let e : coded s ≡ d.text = d.whole ∙ rw (drop_of_length-le s, append-nil) in
    rw e d.wrote

-- ---- the loop that decodes

pub record DecodedTo (s old : List ℕ) (i n : ℕ) (new : List ℕ) : Type 0 where
  pub text : List ℕ
  pub wrote : Wrote old 0 text n new
  pub whole : decoded s ≡ ahead text (decoded (drop i s))

pub decoding-start : (s old : List ℕ) → DecodedTo s old 0 0 old
decoding-start s old = record { text = []; wrote = wrote_nothing; whole = ahead-nothing (decoded s) }

pub decoding_step : {s old new : List ℕ} {i n : ℕ} {g : Group} → DecodedTo s old i n new → Grouped (drop i s) (Some g) → DecodedTo s old (i + g.len) (n + 1) (set new n g.char)
unfolding from_group
decoding_step {s} {i = i} {g = g} d r = record {
  text = d.text ++ g.char ∷ [];
  wrote = wrote_then d.wrote (record { moved = refl; holds = refl });
  whole = d.whole ∙ rw (r.holds, drop-drop g.len i s) (ahead-onto d.text g.char (decoded (drop (i + g.len) s)));
}

pub decoding-none : {s old new : List ℕ} {i n : ℕ} → DecodedTo s old i n new → Grouped (drop i s) None → decoded s ≡ none
unfolding from_group ahead
decoding-none d r = d.whole ∙ rw r.holds

pub decoding-end : {s old new : List ℕ} {i n : ℕ} → DecodedTo s old i n new → length s ≤ i → n ≤ length old → (t : List ℕ) × (decoded s ≡ some t) × (n ≡ length t) × (new ≡ front t old)
unfolding ahead decoded decoded_after
decoding-end {s} d h k =
    (d.text, d.whole ∙ rw (drop_of_length-le s, append-nil), omega (arith, d.wrote.moved), wrote-front d.wrote (omega (arith, d.wrote.moved)))

-- ---- what the code reads at a place

pub letter_there : (s : List ℕ) (i : ℕ) → letter_group (drop i s) ≡ cond (eqb (get_or s (i + 1) 0) 41) (char_of (get_or s i 0)) 0
unfolding letter_group
letter_there s i = rw (get_or-drop i s 0 0, get_or-drop i s 1 0, add-zero)

pub close_there : (s : List ℕ) (i : ℕ) → get_or (drop (i + 1) s) 3 0 ≡ get_or s (i + 4) 0
close_there s i = get_or-drop (i + 1) s 3 0 ∙ ap (λ k. get_or s k 0) (omega arith)
