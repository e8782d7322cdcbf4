-- The number of a name among names.
-- Assumes nothing.
use mathlib.Core.Path.{◌≡◌, refl, ap, ◌∙◌}
use mathlib.Core.Bool.{true, false, ◌||◌}
use mathlib.Core.List.{List, [], ◌∷◌, map}
use Prim.Native.Nat.{ℕ, suc}
use native.Mathlib.Omega.{arith}
use native.Mathlib.Numerals.{add-one}
use borrow.Author.Tests.{ne_eqb}
use lib.Dec.{eqb}
use Rattle.std.specs.Borrow.{Bor}
use Rattle.std.specs.Prelude.{option_map, unwrap_or}
use Rattle.std.specs.List.{list_any, position_from}
use Rattle.chars.specs.Case.{same_text}
use Rattle.chars.proofs.Laws.Lists.{by_test}
use Rattle.date_read.specs.Read.{number_in}

-- by the place of the first name that the text is
pub numbered : (names : List (List ℕ)) (k : ℕ) (s : List ℕ)
    → unwrap_or (option_map (λ i. suc i) (position_from (λ n. same_text n s) k names)) 0 ≡ number_in (suc k) names s
unfolding number_in
numbered [] k s = refl
numbered (n ∷ ns) k s =
    by_test (same_text n s)
    (λ e. rw e)
    (λ e.
    rw e
    (ap (λ (i : ℕ). unwrap_or (option_map (λ i. suc i) (position_from (λ n. same_text n s) i ns)) 0) (add-one k) ∙ numbered ns (suc k) s))

-- a text that is the first name has that name's number, and any other the number that the names behind it give
pub named_first : (k : ℕ) (n : List ℕ) (ns : List (List ℕ)) (s : List ℕ) → same_text n s ≡ true → k ≡ number_in k (n ∷ ns) s
unfolding number_in
named_first k n ns s e = rw e

pub named_later : (k r : ℕ) (n : List ℕ) (ns : List (List ℕ)) (s : List ℕ) → same_text n s ≡ false → r ≡ number_in (suc k) ns s → r ≡ number_in k (n ∷ ns) s
unfolding number_in
named_later k r n ns s e h = rw e h

-- the text is one of the names
pub named : (names : List (List ℕ)) (k : ℕ) (s : List ℕ) → list_any (λ n. same_text n s) names ≡ true → eqb (number_in (suc k) names s) 0 ≡ false
unfolding number_in
named [] k s h = rw h
named (n ∷ ns) k s h =
    by_test (same_text n s)
    (λ e. rw (e, ne_eqb (suc k) 0 (λ q. omega arith)))
    (λ e. rw e (named ns (suc k) s (rw e at h)))

-- it is none of them
pub unnamed : (names : List (List ℕ)) (k : ℕ) (s : List ℕ) → list_any (λ n. same_text n s) names ≡ false → number_in (suc k) names s ≡ 0
unfolding number_in
unnamed [] k s h = refl
unnamed (n ∷ ns) k s h =
    by_test (same_text n s)
    (λ e. let f : true ≡ false = rw e at h in absurd (cc))
    (λ e. rw e (unnamed ns (suc k) s (rw e at h)))

-- names by reference
pub named_by : (ns : List (Bor (List ℕ))) (s : List ℕ) → list_any (λ n. same_text n.now s) ns ≡ list_any (λ n. same_text n s) (map (λ n. n.now) ns)
named_by [] s = refl
named_by (n ∷ ns) s = ap (λ b. same_text n.now s || b) (named_by ns s)
