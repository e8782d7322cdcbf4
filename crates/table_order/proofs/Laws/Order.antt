-- Laws of the order of lists of ranks, and that keys are ordered by their tokens exactly as their ranks are.
-- Assumes nothing.
use mathlib.Core.Path.{◌≡◌, refl, sym, ap₂, ◌∙◌}
use mathlib.Core.Bool.{true, false, not, cond}
use mathlib.Core.List.{List, [], ◌∷◌, ◌++◌, map}
use Prim.Native.Nat.{ℕ, suc, ◌≤◌, ◌<◌}
use native.Mathlib.Omega.{arith}
use borrow.Author.Tests.{eq-eqb, eqb-true, eqb-false, ltb-true, ltb-false, lt-ltb, le-ltb}
use lib.Dec.{eqb, ltb}
use Rattle.chars.specs.Case.{agree, fold_case, same_byte, same_text}
use Rattle.chars.proofs.Laws.Lists.{by_test, true_not_false}
use Rattle.table.specs.Table.{Token}
use Rattle.table.specs.declared.rows.Key.{Key}
use Rattle.table.specs.declared.rows.Key.TheVariants.{Domain, Path}
use Rattle.table_order.specs.Order.{flat, key_tokens, key_up_to, less_byte, less_token, read_by, separator, spell_by, under, up_to}
use Rattle.table_order.proofs.Laws.Spell.{eqb_suc, flat-parts, flat-split, ltb_suc, suc_zero, under-closed, zero_suc}

no : {X : Type 0} → false ≡ true → X
no h = true_not_false true refl (sym h)

-- ---- one rank

-- two ranks in front, one not over the other: equal, and the rests so; or less
pub under-cases : {X : Type 0} (a : ℕ) (p : List ℕ) (b : ℕ) (q : List ℕ) → under (a ∷ p) (b ∷ q) ≡ true → (a ≡ b → under p q ≡ true → X) → (a < b → X) → X
unfolding up_to
under-cases a p b q h f g =
    by_test (eqb a b)
    (λ e. f (eqb-true a b e) (rw e at h))
    (λ e. g (ltb-true a b (rw e at h)))

pub under_same : (a : ℕ) (p q : List ℕ) → under (a ∷ p) (a ∷ q) ≡ under p q
unfolding up_to
under_same a p q = rw (eq-eqb a a refl)

pub under-less : (a : ℕ) (p : List ℕ) (b : ℕ) (q : List ℕ) → a < b → under (a ∷ p) (b ∷ q) ≡ true
unfolding up_to
under-less a p b q h = by_test (eqb a b) (λ e. absurd (omega (arith, eqb-true a b e))) (λ e. rw (e, lt-ltb a b h))

-- ---- the order

pub under_refl : (p : List ℕ) → under p p ≡ true
unfolding up_to
under_refl [] = refl
under_refl (a ∷ p) = under_same a p p ∙ under_refl p

pub under_trans : (p q r : List ℕ) → under p q ≡ true → under q r ≡ true → under p r ≡ true
unfolding up_to
under_trans [] q r h k = refl
under_trans (a ∷ p) [] r h k = no h
under_trans (a ∷ p) (b ∷ q) [] h k = no k
under_trans (a ∷ p) (b ∷ q) (c ∷ r) h k =
    under-cases a p b q h
    (λ e s. under-cases b q c r k
    (λ f t. rw (e ∙ f) (under_same c p r ∙ under_trans p q r s t))
    (λ l. under-less a p c r (omega arith)))
    (λ l. under-cases b q c r k
    (λ f t. under-less a p c r (omega arith))
    (λ m. under-less a p c r (omega arith)))

pub under_total : (p q : List ℕ) → under p q ≡ false → under q p ≡ true
unfolding up_to
under_total [] q h = true_not_false true refl h
under_total (a ∷ p) [] h = refl
under_total (a ∷ p) (b ∷ q) h =
    by_test (eqb a b)
    (λ e. rw (eqb-true a b e) (under_same b q p ∙ under_total p q (rw e at h)))
    (λ e. under-less b q a p (omega (arith, eqb-false a b e, ltb-false a b (rw e at h))))

pub under_both : (p q : List ℕ) → under p q ≡ true → under q p ≡ true → p ≡ q
unfolding up_to
under_both [] [] h k = refl
under_both [] (b ∷ q) h k = no k
under_both (a ∷ p) [] h k = no h
under_both (a ∷ p) (b ∷ q) h k =
    under-cases a p b q h
    (λ e s. rw (e, under_both p q s (sym (under_same b q p) ∙ rw e at k)))
    (λ l. under-cases b q a p k (λ e s. absurd (omega arith)) (λ m. absurd (omega arith)))

-- ---- keys in order

-- lists of ranks rise: none is up to one before it
abbrev pub RanksRise : (ℕ → List ℕ) → ℕ → Type 0
RanksRise K n = (i j : ℕ) → i < j → j < n → under (K j) (K i) ≡ false

pub rising-under : (K : ℕ → List ℕ) (n i j : ℕ) → RanksRise K n → i ≤ j → j < n → under (K i) (K j) ≡ true
rising-under K n i j rising l h =
    by_test (ltb i j)
    (λ e. under_total (K j) (K i) (rising i j (ltb-true i j e) h))
    (λ e. let f : i ≡ j = omega (arith, ltb-false i j e) in rw f (under_refl (K j)))

pub rising-less : (K : ℕ → List ℕ) (m n : ℕ) → m ≤ n → RanksRise K n → RanksRise K m
rising-less K m n k rising i j l h = rising i j l (omega arith)

-- ---- the order of tokens is the order of their ranks

token-under : (x y : Token) (p q : List ℕ)
    → under (map (λ b. suc (fold_case b)) x ++ 0 ∷ p) (map (λ b. suc (fold_case b)) y ++ 0 ∷ q) ≡ cond (same_text x y) (under p q) (less_token x y)
unfolding up_to less_token less_byte same_text agree same_byte
token-under [] [] p q = refl
token-under [] (b ∷ y) p q = rw (zero_suc (fold_case b), lt-ltb 0 (suc (fold_case b)) (omega arith))
token-under (a ∷ x) [] p q = rw (suc_zero (fold_case a), le-ltb (suc (fold_case a)) 0 (omega arith))
token-under (a ∷ x) (b ∷ y) p q =
    by_test (eqb (fold_case a) (fold_case b))
    (λ e. rw (eqb_suc (fold_case a) (fold_case b), e, eq-eqb (fold_case b) (fold_case a) (sym (eqb-true (fold_case a) (fold_case b) e))) (token-under x y p q))
    (λ e. rw (
      eqb_suc (fold_case a) (fold_case b),
      e,
      by_test (eqb (fold_case b) (fold_case a)) (λ f. absurd (eqb-false (fold_case a) (fold_case b) e (sym (eqb-true (fold_case b) (fold_case a) f)))) (λ f. f),
      ltb_suc (fold_case a) (fold_case b),
    ) (turned (fold_case a) (fold_case b) (eqb-false (fold_case a) (fold_case b) e)))
  where
    turned : (m n : ℕ) → (m ≡ n → ⊥) → ltb m n ≡ not (ltb n m)
    turned m n o =
        by_test (ltb m n)
        (λ f. rw (f, le-ltb n m (omega (arith, ltb-true m n f))))
        (λ f. rw (f, lt-ltb n m (omega (arith, ltb-false m n f, o))))

pub order-flat : (p q : List Token) → key_up_to p q ≡ under (flat p) (flat q)
unfolding key_up_to up_to flat
order-flat [] q = refl
order-flat ([] ∷ p) [] = refl
order-flat ((a ∷ x) ∷ p) [] = refl
order-flat (x ∷ p) (y ∷ q) = rw (order-flat p q) (sym (token-under x y (flat p) (flat q)))

-- so keys stand as their ranks do
pub order-spelled : (k : Key) (a b : List ℕ) → key_up_to (key_tokens k a) (key_tokens k b) ≡ under (spell_by k a) (spell_by k b)
unfolding key_tokens spell_by separator read_by
order-spelled Domain a b = order-flat (key_tokens Domain a) (key_tokens Domain b) ∙ ap₂ under (flat-parts a) (flat-parts b) ∙ under-closed (spell_by Domain a) (spell_by Domain b)
order-spelled Path a b = order-flat (key_tokens Path a) (key_tokens Path b) ∙ ap₂ under (flat-split 9 a) (flat-split 9 b) ∙ under-closed (spell_by Path a) (spell_by Path b)
