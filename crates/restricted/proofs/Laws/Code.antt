-- Laws of coding: tests of a character, computed; the answer for a text and a buffer; and a step of each loop.
-- Assumes nothing.
use mathlib.Core.Path.{◌≡◌, refl, sym, ap, ◌∙◌}
use Prim.Native.Nat.{ℕ, ◌+◌, ◌-◌, ◌≤◌, ◌<◌}
use mathlib.Core.Bool.{Bool, true, false}
use mathlib.Core.List.{List, [], ◌++◌, append_assoc, append-nil}
use native.Mathlib.Numerals.{add-one}
use native.Mathlib.Omega.{arith}
use borrow.Author.Tests.{le-ltb, lt-ltb, ltb-false, ltb-true, ne_eqb}
use lib.Dec.{eqb, ltb}
use lib.ListN.{length, take, drop, get_or, get_or-eq_default, length-drop, length-append, drop_of_length-le}
use lib.Seq.{drop-cons, take_all}
use Rattle.std.specs.Prelude.{Ok, Err}
use Rattle.std.specs.Bool.{MatchBool}
use Rattle.std.specs.Str.{IsAscii, IsNotAscii}
use Rattle.chars.specs.Class.{highest_code, is_char}
use Rattle.chars.specs.Lists.{all}
use Rattle.chars.specs.Write.{Wrote}
use Rattle.chars.proofs.Laws.Lists.{all-at, all-each, all_step, by_test, true_not_false}
use Rattle.chars.proofs.Laws.Class.{char_most, is_char_lem, no_char}
use Rattle.chars.proofs.Laws.Write.{wrote_nothing, wrote_then}
use Rattle.restricted.specs.Answers.{coded_answer, short_answer}
use Rattle.restricted.specs.Code.{code_char, coded, is_plain}
use Rattle.restricted.specs.declared.convert.RestrictedFault.TheVariants.{ByteOver127}

-- ---- a character

-- what does not stand for itself is no character that does
pub differs : (b k : ℕ) → is_plain b ≡ false → is_plain k ≡ true → eqb b k ≡ false
differs b k e f = ne_eqb b k (λ q. true_not_false (is_plain k) f (sym (ap is_plain q) ∙ e))

-- no byte is over 127
pub ascii_all : (s : List ℕ) (r : Bool) → MatchBool r (IsAscii s) (IsNotAscii s) → r ≡ all is_char s
ascii_all s true h = sym (all-each is_char s 0 (λ i k. is_char_lem (get_or s i 0) (omega (arith, h i))))
ascii_all s false h =
    by_test (all is_char s)
    (λ e. by_test (ltb h.0 (length s))
    (λ k. absurd (omega (arith, h.1, char_most (get_or s h.0 0) (all-at is_char s h.0 0 e (ltb-true h.0 (length s) k)))))
    (λ k. let z : get_or s h.0 0 ≡ 0 = get_or-eq_default s 0 (ltb-false h.0 (length s) k) in absurd (omega (arith, h.1))))
    (λ e. sym e)

-- ---- what a loop has left of a text

pub rest-whole : (s : List ℕ) (i : ℕ) → take (length s - i) (drop i s) ≡ drop i s
rest-whole s i = take_all (length s - i) (drop i s) (omega (arith, length-drop i s))

pub chars_step : (s : List ℕ) (i : ℕ) → i < length s → get_or s i 0 ≤ highest_code → all is_char (drop i s) ≡ all is_char (drop (i + 1) s)
chars_step s i h k = all_step is_char s i 0 h ∙ rw (is_char_lem (get_or s i 0) k)

pub chars_stop : (s : List ℕ) (i : ℕ) → i < length s → highest_code < get_or s i 0 → all is_char (drop i s) ≡ false
chars_stop s i h k = all_step is_char s i 0 h ∙ rw (no_char (get_or s i 0) k)

pub coded_step : (s : List ℕ) (i : ℕ) → i < length s → coded (drop i s) ≡ code_char (get_or s i 0) ++ coded (drop (i + 1) s)
unfolding coded
coded_step s i h = rw (add-one, drop-cons s i 0)

pub coded-end : (s : List ℕ) (i : ℕ) → length s ≤ i → coded (drop i s) ≡ []
unfolding coded
coded-end s i h = rw (drop_of_length-le s)

pub size_step : (s : List ℕ) (i : ℕ) → i < length s → length (coded (drop i s)) ≡ length (code_char (get_or s i 0)) + length (coded (drop (i + 1) s))
size_step s i h = ap length (coded_step s i h) ∙ length-append (code_char (get_or s i 0)) (coded (drop (i + 1) s))

-- ---- the answer for a text and a buffer

pub answer-high : (s : List ℕ) (room : ℕ) → all is_char s ≡ false → coded_answer s room ≡ Err ByteOver127
unfolding coded_answer short_answer
answer-high s room e = by_test (ltb room (length (coded s))) (λ k. rw (k, e)) (λ k. rw (k, e))

pub answer-short : (s t : List ℕ) (room : ℕ) → room < length (coded s) → all is_char s ≡ all is_char t → coded_answer s room ≡ Err (short_answer t)
unfolding coded_answer short_answer
answer-short s t room h e = rw (lt-ltb room (length (coded s)) h, e)

pub answer-done : (s : List ℕ) (room : ℕ) → length (coded s) ≤ room → all is_char s ≡ true → coded_answer s room ≡ Ok tt
unfolding coded_answer
answer-done s room h e = rw (le-ltb room (length (coded s)) h, e)

-- ---- the loop that writes: what is written up to place i of the text

pub record CodedTo (s old : List ℕ) (i at : ℕ) (new : List ℕ) : Type 0 where
  pub text : List ℕ
  pub wrote : Wrote old 0 text at new
  pub whole : coded s ≡ text ++ coded (drop i s)

pub coding-start : (s old : List ℕ) → CodedTo s old 0 0 old
coding-start s old = record { text = []; wrote = wrote_nothing; whole = refl }

-- there is room for the next character where there is for the whole
pub coding-room : {s old new : List ℕ} {i at : ℕ} → CodedTo s old i at new → i < length s → length (coded s) ≤ length old → at + length (code_char (get_or s i 0)) ≤ length old
coding-room {s} {i = i} d h k =
    omega (arith, ap length d.whole, length-append d.text (coded (drop i s)), size_step s i h, d.wrote.moved)

pub coding_step : {s old new next : List ℕ} {i at k : ℕ} → CodedTo s old i at new → i < length s → Wrote new at (code_char (get_or s i 0)) k next → CodedTo s old (i + 1) k next
coding_step {s} {i = i} d h w = record {
  text = d.text ++ code_char (get_or s i 0);
  wrote = wrote_then d.wrote w;
  whole = d.whole ∙ rw (coded_step s i h, append_assoc);
}

pub coding-end : {s old new : List ℕ} {i at : ℕ} → CodedTo s old i at new → length s ≤ i → Wrote old 0 (coded s) at new
coding-end {s} {i = i} d h =
    let e : coded s ≡ d.text = d.whole ∙ rw (coded-end s i h, append-nil) in
    rw e d.wrote
