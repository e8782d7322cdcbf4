-- Laws of parsing: what a text stands for by its first characters, and a step of each loop.
-- Assumes nothing.
use mathlib.Core.Path.{◌≡◌, refl, sym, ap, ◌∙◌}
use Prim.Native.Nat.{ℕ, zero, suc, ◌+◌, ◌≤◌, ◌<◌}
use mathlib.Core.Bool.{true, false, not, ◌&&◌, and-false, and-true, cond}
use mathlib.Core.List.{List, [], ◌∷◌, ◌++◌, append-nil}
use mathlib.Core.Option.{none, some}
use native.Mathlib.Nat.{add-zero}
use native.Mathlib.Omega.{arith}
use borrow.Author.Tests.{eq-eqb, eqb-true, le-leb, leb-false, leb-true, ne_eqb}
use lib.Dec.{eqb, leb}
use lib.ListN.{length, drop, get_or, set, length-append, drop_of_length-le}
use lib.Seq.{drop-drop, get_or-drop}
use Rattle.chars.specs.Lists.{all, bytes, member, onto}
use Rattle.chars.specs.Case.{fold_case}
use Rattle.chars.specs.Class.{highest_code, is_char, is_digit}
use Rattle.chars.specs.Digits.{digits_number, is_number_group, three_digits}
use Rattle.chars.specs.Write.{Wrote}
use Rattle.chars.proofs.Laws.Lists.{all_two, and_left, and_right, by_test, true_not_false}
use Rattle.chars.proofs.Laws.Case.{fold-high}
use Rattle.chars.proofs.Laws.Class.{digit_below, is_char_lem}
use Rattle.chars.proofs.Laws.Digits.{is_number, number_digits, number-value}
use Rattle.chars.proofs.Laws.Options.{ahead, ahead-length, ahead-nothing, ahead-onto, none-some}
use Rattle.chars.proofs.Laws.Write.{wrote_nothing, wrote_one, wrote_then}
use Rattle.restricted.specs.Answers.{Begins, Grouped, Measured, short_group, unparsed_answer}
use Rattle.restricted.specs.Code.{char_in, char_of, decoded, is_control, is_plain, is_short_group, or_as_it_stands, parse, parsed_after, short, short_forms}
use Rattle.restricted.specs.declared.parse.Group.{Group}
use Rattle.restricted.specs.declared.convert.RestrictedFault.{RestrictedFault}
use Rattle.std.specs.Prelude.{Option, None, Some, Result, Ok, IsSome}

-- ---- what a text stands for, by its first characters

pub after-drop : (k : ℕ) (s : List ℕ) → parsed_after k s ≡ parse (drop k s)
unfolding parse parsed_after
after-drop zero s = refl
after-drop (suc k) [] = refl
after-drop (suc k) (x ∷ s) = after-drop k s

is_short_lem : (s : List ℕ) → is_short_group s ≡ not (eqb (short_group s) 0)
unfolding is_short_group short_group
is_short_lem s = by_test (eqb (get_or s 1 0) 35) (λ e. rw (e, and-true)) (λ e. rw (e, and-false))

short_char : (s : List ℕ) → (short_group s ≡ 0 → ⊥) → char_of (get_or s 0 0) ≡ short_group s
unfolding short_group
short_char s h = by_test (eqb (get_or s 1 0) 35) (λ e. rw e) (λ e. absurd (h (rw e)))

-- neither `_` nor `#` stands for itself
hash_coded : is_plain 35 ≡ false
unfolding is_plain is_char is_control bytes member
hash_coded = refl

space_coded : is_plain 95 ≡ false
unfolding is_plain is_char is_control bytes member
space_coded = refl

pub parse_plain : (x : ℕ) (s : List ℕ) → is_plain x ≡ true → parse (x ∷ s) ≡ onto x (parse s)
unfolding parse parsed_after
parse_plain x s e = rw e

pub parse_space : (x : ℕ) (s : List ℕ) → x ≡ 95 → parse (x ∷ s) ≡ onto 32 (parse s)
unfolding parse parsed_after
parse_space x s e = rw (ap is_plain e ∙ space_coded, eq-eqb x 95 e)

pub parse_other : (x : ℕ) (s : List ℕ) → is_plain x ≡ false → (x ≡ 95 → ⊥) → (x ≡ 35 → ⊥) → parse (x ∷ s) ≡ none
unfolding parse parsed_after
parse_other x s e f g = rw (e, ne_eqb x 95 f, ne_eqb x 35 g)

parse_hash : (x : ℕ) (s : List ℕ) → x ≡ 35
    → parse (x ∷ s) ≡ cond (is_short_group s) (onto (char_of (get_or s 0 0)) (parse (drop 2 s))) (cond (is_number_group 35 s) (onto (digits_number s) (parse (drop 4 s))) none)
unfolding parse parsed_after
parse_hash x s e =
    rw (ap is_plain e ∙ hash_coded, ne_eqb x 95 (λ q. absurd (omega arith)), eq-eqb x 35 e, after-drop 2 s, after-drop 4 s)

module _ (s : List ℕ) where
  pub parse-short : (short_group s ≡ 0 → ⊥) → parse (35 ∷ s) ≡ onto (short_group s) (parse (drop 2 s))
  parse-short h = parse_hash 35 s refl ∙ rw (is_short_lem s, ne_eqb (short_group s) 0 h, short_char s h)

  pub parse-number : short_group s ≡ 0 → get_or s 3 0 ≡ 35 → three_digits s ≤ highest_code → parse (35 ∷ s) ≡ onto (three_digits s) (parse (drop 4 s))
  parse-number z k h = parse_hash 35 s refl ∙ rw (is_short_lem s, z, is_number 35 s, k, le-leb (three_digits s) highest_code h, number-value s h)

  pub parse-none : short_group s ≡ 0 → (eqb (get_or s 3 0) 35 && leb (three_digits s) highest_code) ≡ false → parse (35 ∷ s) ≡ none
  parse-none z k = parse_hash 35 s refl ∙ rw (is_short_lem s, z, is_number 35 s, k)

-- ---- a group has no byte over 127

zero_char : is_char 0 ≡ true
unfolding is_char
zero_char = refl

hash_char : is_char 35 ≡ true
unfolding is_char
hash_char = refl

digit_char : (b : ℕ) → is_digit b ≡ true → is_char b ≡ true
digit_char b h = is_char_lem b (omega (arith, digit_below b h))

pub plain_char : (x : ℕ) → is_plain x ≡ true → is_char x ≡ true
unfolding is_plain
plain_char x h = by_test (is_char x) (λ e. e) (λ e. true_not_false true refl (sym (rw e at h)))

-- a byte that folds to a character is one
fold_char : (l : ℕ) → is_char (fold_case l) ≡ true → is_char l ≡ true
fold_char l h =
    by_test (leb l highest_code)
    (λ e. is_char_lem l (leb-true l highest_code e))
    (λ e. rw (fold-high l (omega (arith, leb-false l highest_code e))) at h)

-- no letter of a short form is over 127
in_char : (l : ℕ) (fs : List (ℕ × ℕ)) → all (λ f. is_char f.0) fs ≡ true → (char_in l fs ≡ 0 → ⊥) → is_char l ≡ true
unfolding all char_in
in_char l [] h k = absurd (k refl)
in_char l (f ∷ fs) h k =
    by_test (eqb l f.0)
    (λ e. ap is_char (eqb-true l f.0 e) ∙ and_left (is_char f.0) (all (λ f. is_char f.0) fs) h)
    (λ e. in_char l fs (and_right (is_char f.0) (all (λ f. is_char f.0) fs) h) (rw e at k))

letters_chars : all (λ f. is_char f.0) short_forms ≡ true
unfolding all is_char short bytes
letters_chars = refl

letter_char : (l : ℕ) → (char_of l ≡ 0 → ⊥) → is_char l ≡ true
unfolding char_of
letter_char l k = fold_char l (in_char (fold_case l) short_forms letters_chars k)

module _ (s : List ℕ) where
  chars-short : (short_group s ≡ 0 → ⊥) → all is_char (35 ∷ s) ≡ all is_char (drop 2 s)
  unfolding all short_group
  chars-short h =
      by_test (eqb (get_or s 1 0) 35)
      (λ e. rw hash_char
      (all_two is_char zero_char s (letter_char (get_or s 0 0) (rw e at h)) (ap is_char (eqb-true (get_or s 1 0) 35 e) ∙ hash_char)))
      (λ e. absurd (h (rw e)))

  chars-number : get_or s 3 0 ≡ 35 → three_digits s ≤ highest_code → all is_char (35 ∷ s) ≡ all is_char (drop 4 s)
  unfolding all
  chars-number k h =
      let d = number_digits s h in
      rw hash_char
      (all_two is_char zero_char s (digit_char (get_or s 0 0) d.0) (digit_char (get_or s 1 0) d.1)
      ∙ all_two is_char zero_char (drop 2 s) (rw (get_or-drop 2 s 0 0) (digit_char (get_or s 2 0) d.2)) (rw (get_or-drop 2 s 1 0, k) hash_char)
      ∙ rw (drop-drop 2 2 s))

-- ---- the group that a text begins with

pub group_plain : (x : ℕ) (s : List ℕ) → is_plain x ≡ true → Begins (x ∷ s) (record { char = x; len = 1 })
unfolding all
group_plain x s e = record { some_bytes = omega arith; fits = omega arith; holds = parse_plain x s e; chars = rw (plain_char x e) }

pub group_space : (x : ℕ) (s : List ℕ) → x ≡ 95 → Begins (x ∷ s) (record { char = 32; len = 1 })
unfolding all is_char
group_space x s e = record { some_bytes = omega arith; fits = omega arith; holds = parse_space x s e; chars = rw e }

module _ (s : List ℕ) where
  pub group_short : (short_group s ≡ 0 → ⊥) → Begins (35 ∷ s) (record { char = short_group s; len = 3 })
  group_short h = record { some_bytes = omega arith; fits = omega arith; holds = parse-short s h; chars = chars-short s h }

  pub group_number : short_group s ≡ 0 → get_or s 3 0 ≡ 35 → three_digits s ≤ highest_code → Begins (35 ∷ s) (record { char = three_digits s; len = 5 })
  group_number z k h = record { some_bytes = omega arith; fits = omega arith; holds = parse-number s z k h; chars = chars-number s k h }

-- ---- the loops: what the text up to place i stands for

pub record ParsedTo (s : List ℕ) (i n : ℕ) : Type 0 where
  pub text : List ℕ
  pub size : n ≡ length text
  pub whole : parse s ≡ ahead text (parse (drop i s))
  pub chars : all is_char s ≡ all is_char (drop i s)

pub parsing_start : (s : List ℕ) → ParsedTo s 0 0
parsing_start s = record { text = []; size = refl; whole = ahead-nothing (parse s); chars = refl }

pub parsing_step : {s : List ℕ} {i n : ℕ} {g : Group} → ParsedTo s i n → Begins (drop i s) g → ParsedTo s (i + g.len) (n + 1)
parsing_step {s} {i} {n} {g} d r = record {
  text = d.text ++ g.char ∷ [];
  size = omega (arith, d.size, length-append d.text (g.char ∷ []));
  whole = d.whole ∙ rw (r.holds, drop-drop g.len i s) (ahead-onto d.text g.char (parse (drop (i + g.len) s)));
  chars = d.chars ∙ r.chars ∙ rw (drop-drop g.len i s);
}

pub parsing_none : {s : List ℕ} {i n : ℕ} → ParsedTo s i n → parse (drop i s) ≡ none → parse s ≡ none
unfolding ahead
parsing_none d z = d.whole ∙ rw z

pub parsing_end : {s : List ℕ} {i n : ℕ} → (d : ParsedTo s i n) → length s ≤ i → parse s ≡ some d.text
unfolding ahead parse parsed_after
parsing_end {s} d h = d.whole ∙ rw (drop_of_length-le s, append-nil)

-- in a text that parses, something stands at the place, and there is room for it where there is for all
pub parsing_some : {s : List ℕ} {i n : ℕ} {t : List ℕ} → ParsedTo s i n → parse s ≡ some t → (o : Option Group) → Grouped (drop i s) o → IsSome o
parsing_some d p (Some g) r = refl
parsing_some d p None z = none-some (sym (parsing_none d z) ∙ p)

pub parsing_room : {s : List ℕ} {i n : ℕ} {g : Group} {t : List ℕ} → ParsedTo s i n → Begins (drop i s) g → parse s ≡ some t → n < length t
parsing_room {s} {i} {g = g} {t} d r p =
    let q = parsing_step d r in
    omega (arith, q.size, ahead-length q.text (parse (drop (i + g.len) s)) t (sym q.whole ∙ p))

-- the same, written
pub record ParsedInto (s old : List ℕ) (i n : ℕ) (new : List ℕ) : Type 0 where
  pub parsed : ParsedTo s i n
  pub wrote : Wrote old 0 parsed.text n new

pub writing_start : (s old : List ℕ) → ParsedInto s old 0 0 old
unfolding parsing_start
writing_start s old = record { parsed = parsing_start s; wrote = wrote_nothing }

pub writing_step : {s old new : List ℕ} {i n : ℕ} {g : Group} → ParsedInto s old i n new → Begins (drop i s) g → ParsedInto s old (i + g.len) (n + 1) (set new n g.char)
unfolding parsing_step
writing_step {g = g} d r = record { parsed = parsing_step d.parsed r; wrote = wrote_then d.wrote (wrote_one g.char) }

pub decoded_parsed : (s t : List ℕ) → parse s ≡ some t → decoded s ≡ t
unfolding decoded or_as_it_stands
decoded_parsed s t p = rw p

pub decoded-stands : (s : List ℕ) → parse s ≡ none → decoded s ≡ s
unfolding decoded or_as_it_stands
decoded-stands s p = rw p

-- a text that stands for n characters
pub measured-some : (s : List ℕ) (n : ℕ) → Measured s (Ok (Some n)) → (all is_char s ≡ true) × (parse s ≡ some (decoded s)) × (n ≡ length (decoded s))
measured-some s n m = let e = decoded_parsed s m.1 m.2 in (m.0, rw e m.2, rw e m.3)

-- the answer for a text that does not parse
pub measured-none : (s t : List ℕ) (r : Result (Option ℕ) RestrictedFault) → parse s ≡ none → all is_char s ≡ all is_char t → r ≡ unparsed_answer t → Measured s r
unfolding unparsed_answer
measured-none s t r p e h =
    by_test (all is_char t)
    (λ k. rw (h, k) (e ∙ k, p))
    (λ k. rw (h, k) (refl, e ∙ k))

-- ---- what the code reads at a place

pub short-there : (s : List ℕ) (i : ℕ) → short_group (drop i s) ≡ cond (eqb (get_or s (i + 1) 0) 35) (char_of (get_or s i 0)) 0
unfolding short_group
short-there s i = rw (get_or-drop i s 0 0, get_or-drop i s 1 0, add-zero)
