-- Laws of the quoted string: a step of it at a time, by places in a text, where it ends, and how long it and its text are.
-- Assumes nothing.
use mathlib.Core.Path.{◌≡◌, refl, sym, ap, ◌∙◌}
use mathlib.Core.Bool.{Bool, true, false, ◌||◌, cond}
use mathlib.Core.List.{List, [], ◌∷◌, ◌++◌}
use Rattle.std.proofs.Common.{Option, None, Some}
use Prim.Native.Nat.{ℕ, zero, suc, ◌+◌, ◌≤◌, ◌<◌}
use native.Mathlib.Numerals.{add-one}
use native.Mathlib.Omega.{arith}
use borrow.Author.Tests.{eqb-true}
use lib.Dec.{eqb}
use lib.ListN.{length, drop, get_or, drop_of_length-le}
use lib.Seq.{drop-cons}
use Rattle.chars.proofs.Laws.Lists.{and-three, by_test, or_cases, true_not_false}
use Rattle.chars.proofs.Laws.Seq.{beyond, byte_inside, second, third}
use Rattle.mailaddr.specs.Shape.{is_text}
use Rattle.std.proofs.lemmas.Option.{none-some, same_Some}
use Rattle.lexical.specs.Space.{is_fold, is_space}
use Rattle.lexical.specs.Quoted.{Quoted, keeping, meaning_in, passing, quoted, quoted_by, quoted_step, size_in, text_step}
use Rattle.lexical.specs.Answers.{quoted_end}
use Rattle.lexical.specs.declared.quoted.QuotedStep.{QuotedStep}
use Rattle.lexical.specs.declared.quoted.QuotedStep.TheVariants.{Break, Close, Escape, Fold, Keep}

-- ---- how long it is

-- one that closes lies within n bytes, and its text is shorter than it, by its closing quote at least
abbrev Fits : ℕ → Option Quoted → Type 0
Fits n None = Unit {0}
Fits n (Some q) = (q.size ≤ n) × (length q.meaning < q.size)

passing-fits : (n : ℕ) (o : Option Quoted) → Fits n o → Fits (suc n) (passing o)
unfolding passing
passing-fits n None h = tt
passing-fits n (Some q) h = (omega arith, omega arith)

keeping-fits : (n x : ℕ) (o : Option Quoted) → Fits n o → Fits (suc n) (keeping x o)
unfolding keeping
keeping-fits n x None h = tt
keeping-fits n x (Some q) h = (omega arith, omega arith)

by_fits : (n : ℕ) (t : QuotedStep) (e : Bool) (x : ℕ) (go : ℕ → Bool → Option Quoted) → ((k : ℕ) (f : Bool) → Fits n (go k f)) → Fits (suc n) (quoted_by t e x go)
unfolding quoted_by
by_fits n Fold e x go h = passing-fits n (go 1 e) (h 1 e)
by_fits n Close e x go h = (omega arith, omega arith)
by_fits n Escape e x go h = passing-fits n (go zero true) (h zero true)
by_fits n Keep e x go h = keeping-fits n x (go zero false) (h zero false)
by_fits n Break e x go h = tt

fits : (k : ℕ) (e : Bool) (s : List ℕ) → Fits (length s) (quoted k e s)
unfolding quoted
fits k e [] = tt
fits (suc k) e (x ∷ s) = passing-fits (length s) (quoted k e s) (fits k e s)
fits zero e (x ∷ s) = by_fits (length s) (quoted_step e x (get_or s 0 0) (get_or s 1 0)) e x (λ k f. quoted k f s) (λ k f. fits k f s)

pub size-within : (k : ℕ) (e : Bool) (s : List ℕ) → size_in (quoted k e s) ≤ length s
unfolding size_in
size-within k e s = within (length s) (quoted k e s) (fits k e s)
  where
    within : (n : ℕ) (o : Option Quoted) → Fits n o → size_in o ≤ n
    within n None h = omega arith
    within n (Some q) h = h.0

-- where it closes, its text is shorter; where it does not, there is none
pub meaning-within : (k : ℕ) (e : Bool) (s : List ℕ) → length (meaning_in (quoted k e s)) ≤ size_in (quoted k e s)
unfolding size_in meaning_in
meaning-within k e s = within (length s) (quoted k e s) (fits k e s)
  where
    within : (n : ℕ) (o : Option Quoted) → Fits n o → length (meaning_in o) ≤ size_in o
    within n None h = omega arith
    within n (Some q) h = omega arith

-- where it closes, its text is shorter by its closing quote at least
pub meaning-less : (k : ℕ) (e : Bool) (s : List ℕ) → 0 < size_in (quoted k e s) → length (meaning_in (quoted k e s)) < size_in (quoted k e s)
unfolding size_in meaning_in
meaning-less k e s = within (length s) (quoted k e s) (fits k e s)
  where
    within : (n : ℕ) (o : Option Quoted) → Fits n o → 0 < size_in o → length (meaning_in o) < size_in o
    within n None h l = absurd (omega arith)
    within n (Some q) h l = h.1

-- one byte less of it
passing_left : (n : ℕ) (o : Option Quoted) → Fits n o → 0 < size_in (passing o) → 0 < size_in o
unfolding passing size_in
passing_left n None h l = l
passing_left n (Some q) h l = omega arith

keeping_left : (n x : ℕ) (o : Option Quoted) → Fits n o → 0 < size_in (keeping x o) → 0 < size_in o
unfolding keeping size_in
keeping_left n x None h l = l
keeping_left n x (Some q) h l = omega arith

passing-meaning : (o : Option Quoted) → meaning_in (passing o) ≡ meaning_in o
unfolding passing meaning_in
passing-meaning None = refl
passing-meaning (Some q) = refl

keeping-meaning : (x : ℕ) (o : Option Quoted) → 0 < size_in o → meaning_in (keeping x o) ≡ x ∷ meaning_in o
unfolding keeping meaning_in size_in
keeping-meaning x None h = absurd (omega arith)
keeping-meaning x (Some q) h = refl

-- ---- where it ends

passing-end : (i : ℕ) (o : Option Quoted) → quoted_end i (passing o) ≡ quoted_end (i + 1) o
unfolding passing quoted_end
passing-end i None = refl
passing-end i (Some q) = let e : i + suc q.size ≡ i + 1 + q.size = omega arith in rw e

keeping-end : (i x : ℕ) (o : Option Quoted) → quoted_end i (keeping x o) ≡ quoted_end (i + 1) o
unfolding keeping quoted_end
keeping-end i x None = refl
keeping-end i x (Some q) = let e : i + suc q.size ≡ i + 1 + q.size = omega arith in rw e

-- what an answer says of its size
pub end-at : (i : ℕ) (s : List ℕ) (e : ℕ) → quoted_end i (quoted 0 false s) ≡ Some e
    → (0 < size_in (quoted 0 false s)) × (e ≡ i + size_in (quoted 0 false s))
unfolding quoted_end size_in
end-at i s e = at (length s) (quoted 0 false s) (fits 0 false s)
  where
    at : (n : ℕ) (o : Option Quoted) → Fits n o → quoted_end i o ≡ Some e → (0 < size_in o) × (e ≡ i + size_in o)
    at n None h q = absurd (none-some _ q)
    at n (Some o) h q = (omega arith, sym (same_Some _ _ q))

pub end_never : (i : ℕ) (s : List ℕ) → quoted_end i (quoted 0 false s) ≡ None → size_in (quoted 0 false s) ≡ 0
unfolding quoted_end size_in
end_never i s = never (quoted 0 false s)
  where
    never : (o : Option Quoted) → quoted_end i o ≡ None → size_in o ≡ 0
    never None q = refl
    never (Some o) q = absurd (none-some _ (sym q))

-- ---- what stands at its front

-- only CR LF with a space or a tab behind is a fold
abbrev is_fold_step : QuotedStep → Bool
is_fold_step Fold = true
is_fold_step Close = false
is_fold_step Escape = false
is_fold_step Keep = false
is_fold_step Break = false

text_no_fold : (x : ℕ) → is_fold_step (text_step x) ≡ false
unfolding text_step
text_no_fold x = by_test (is_text x) (λ e. rw e) (λ e. rw e)

other_no_fold : (e : Bool) (x : ℕ) → is_fold_step (cond e (text_step x) (cond (eqb x 34) Close (cond (eqb x 92) Escape (text_step x)))) ≡ false
other_no_fold true x = text_no_fold x
other_no_fold false x = by_test (eqb x 34) (λ q. rw q) (λ q. by_test (eqb x 92) (λ b. rw (q, b)) (λ b. rw (q, b) (text_no_fold x)))

fold_is : (e : Bool) (x y z : ℕ) → quoted_step e x y z ≡ Fold → is_fold x y z ≡ true
unfolding quoted_step
fold_is e x y z q =
    by_test (is_fold x y z)
    (λ f. f)
    (λ f. true_not_false true refl (sym (ap is_fold_step (rw f at q)) ∙ other_no_fold e x))

pub fold-some : (x y z : ℕ) → is_fold x y z ≡ true → 0 < z
unfolding is_fold is_space
fold-some x y z h =
    or_cases (eqb z 32) (eqb z 9) (and-three (eqb x 13) (eqb y 10) (eqb z 32 || eqb z 9) h).2
    (λ e. omega (arith, eqb-true z 32 e))
    (λ e. omega (arith, eqb-true z 9 e))

-- ---- a step of it, by places in a text

quoted-one : (e : Bool) (s : List ℕ) → quoted 1 e s ≡ passing (quoted 0 e (drop 1 s))
unfolding quoted passing
quoted-one e [] = refl
quoted-one e (x ∷ s) = refl

-- what stands at a place, `e` behind a backslash
abbrev pub step_at : List ℕ → ℕ → Bool → QuotedStep
step_at s i e = quoted_step e (get_or s i 0) (get_or s (i + 1) 0) (get_or s (i + 2) 0)

module _ (s : List ℕ) (i : ℕ) (e : Bool) where
  pub fold-inside : step_at s i e ≡ Fold → i + 2 < length s
  fold-inside q =
      byte_inside s (i + 2)
      (fold-some (get_or s i 0) (get_or s (i + 1) 0) (get_or s (i + 2) 0) (fold_is e (get_or s i 0) (get_or s (i + 1) 0) (get_or s (i + 2) 0) q))

  at_step : (t : QuotedStep) → i < length s → step_at s i e ≡ t → quoted 0 e (drop i s) ≡ quoted_by t e (get_or s i 0) (λ k f. quoted k f (drop (suc i) s))
  unfolding quoted
  at_step t h q = rw (drop-cons s i 0 h, second s i, third s i, q)

  at-fold : i < length s → step_at s i e ≡ Fold → quoted 0 e (drop i s) ≡ passing (passing (quoted 0 e (drop (i + 2) s)))
  unfolding quoted_by
  at-fold h q = at_step Fold h q ∙ rw (quoted-one e (drop (suc i) s), beyond s i)

  at_close : i < length s → step_at s i e ≡ Close → quoted 0 e (drop i s) ≡ Some (record { size = 1; meaning = [] })
  unfolding quoted_by
  at_close h q = at_step Close h q

  at_escape : i < length s → step_at s i e ≡ Escape → quoted 0 e (drop i s) ≡ passing (quoted 0 true (drop (i + 1) s))
  unfolding quoted_by
  at_escape h q = at_step Escape h q ∙ rw add-one

  at_keep : i < length s → step_at s i e ≡ Keep → quoted 0 e (drop i s) ≡ keeping (get_or s i 0) (quoted 0 false (drop (i + 1) s))
  unfolding quoted_by
  at_keep h q = at_step Keep h q ∙ rw add-one

  at_break : i < length s → step_at s i e ≡ Break → quoted 0 e (drop i s) ≡ None
  unfolding quoted_by
  at_break h q = at_step Break h q

  at-end : length s ≤ i → quoted 0 e (drop i s) ≡ None
  unfolding quoted
  at-end h = rw (drop_of_length-le s h)

  -- where it ends
  pub end-fold : i < length s → step_at s i e ≡ Fold → quoted_end i (quoted 0 e (drop i s)) ≡ quoted_end (i + 2) (quoted 0 e (drop (i + 2) s))
  end-fold h q =
      let o = quoted 0 e (drop (i + 2) s) in
      let n : i + 1 + 1 ≡ i + 2 = omega arith in
      rw (at-fold h q, passing-end i (passing o), passing-end (i + 1) o, n)

  pub end_close : i < length s → step_at s i e ≡ Close → quoted_end i (quoted 0 e (drop i s)) ≡ Some (i + 1)
  unfolding quoted_end
  end_close h q = rw (at_close h q)

  pub end_escape : i < length s → step_at s i e ≡ Escape → quoted_end i (quoted 0 e (drop i s)) ≡ quoted_end (i + 1) (quoted 0 true (drop (i + 1) s))
  end_escape h q = rw (at_escape h q, passing-end i (quoted 0 true (drop (i + 1) s)))

  pub end_keep : i < length s → step_at s i e ≡ Keep → quoted_end i (quoted 0 e (drop i s)) ≡ quoted_end (i + 1) (quoted 0 false (drop (i + 1) s))
  end_keep h q = rw (at_keep h q, keeping-end i (get_or s i 0) (quoted 0 false (drop (i + 1) s)))

  pub end_break : i < length s → step_at s i e ≡ Break → quoted_end i (quoted 0 e (drop i s)) ≡ None
  unfolding quoted_end
  end_break h q = rw (at_break h q)

  pub end-end : length s ≤ i → quoted_end i (quoted 0 e (drop i s)) ≡ None
  unfolding quoted_end
  end-end h = rw (at-end h)

-- What is left of the text of a quoted string that closes: from place i of its line on it is `t`, and then what is left from place j on.
pub record Leaves (s : List ℕ) (i : ℕ) (e : Bool) (t : List ℕ) (j : ℕ) (f : Bool) : Type 0 where
  pub closes : 0 < size_in (quoted 0 f (drop j s))
  pub text : meaning_in (quoted 0 e (drop i s)) ≡ t ++ meaning_in (quoted 0 f (drop j s))

module _ (s : List ℕ) (i : ℕ) (e : Bool) (l : i < length s) where
  pub left_fold : 0 < size_in (quoted 0 e (drop i s)) → step_at s i e ≡ Fold → Leaves s i e [] (i + 2) e
  left_fold h q =
      let r = drop (i + 2) s in
      let o = quoted 0 e r in
      let p = passing_left (suc (length r)) (passing o) (passing-fits (length r) o (fits 0 e r)) (rw (at-fold s i e l q) at h) in
      record {
        closes = passing_left (length r) o (fits 0 e r) p;
        text = rw (at-fold s i e l q, passing-meaning (passing o)) (passing-meaning o);
      }

  pub left_close : step_at s i e ≡ Close → meaning_in (quoted 0 e (drop i s)) ≡ []
  unfolding meaning_in
  left_close q = rw (at_close s i e l q)

  pub left_escape : 0 < size_in (quoted 0 e (drop i s)) → step_at s i e ≡ Escape → Leaves s i e [] (i + 1) true
  left_escape h q =
      let r = drop (i + 1) s in
      let o = quoted 0 true r in
      record {
        closes = passing_left (length r) o (fits 0 true r) (rw (at_escape s i e l q) at h);
        text = rw (at_escape s i e l q) (passing-meaning o);
      }

  pub left_keep : 0 < size_in (quoted 0 e (drop i s)) → step_at s i e ≡ Keep → Leaves s i e (get_or s i 0 ∷ []) (i + 1) false
  left_keep h q =
      let r = drop (i + 1) s in
      let o = quoted 0 false r in
      let p = keeping_left (length r) (get_or s i 0) o (fits 0 false r) (rw (at_keep s i e l q) at h) in
      record {
        closes = p;
        text = rw (at_keep s i e l q) (keeping-meaning (get_or s i 0) o p);
      }

  pub left_break : step_at s i e ≡ Break → meaning_in (quoted 0 e (drop i s)) ≡ []
  unfolding meaning_in
  left_break q = rw (at_break s i e l q)

pub left_end : (s : List ℕ) (i : ℕ) (e : Bool) → length s ≤ i → meaning_in (quoted 0 e (drop i s)) ≡ []
unfolding meaning_in
left_end s i e h = rw (at-end s i e h)
