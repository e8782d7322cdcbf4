-- That rows are in order is a fact with one proof, so a struct may hold it as a ghost field: keys rise, so a row's number stands at one place.
-- Assumes nothing.
use Rattle.std.specs.Prelude.{◌≡◌, List, ℕ, ◌<◌, ltb}
use Rattle.std.specs.Coded.{Π_prop, le_prop}
use Rattle.std.proofs.Common.{sym, ◌∙◌}
use mathlib.Core.HLevel.{is_prop→PathP}
use native.Mathlib.Omega.{arith}
use borrow.Author.Tests.{ltb-false, ltb-true}
use Rattle.std.proofs.Math.Nat.{ℕ_set}
use Rattle.chars.proofs.Laws.Lists.{by_test, true_not_false}
use Rattle.table.specs.Props.{Inside-prop}
use Rattle.table.specs.declared.rows.Key.{Key}
use Rattle.table_order.specs.Order.{key_tokens, key_up_to, spell_by}
use Rattle.table_order.specs.Place.{Ordered, Sorted, key_in, number_in}
use Rattle.table_order.specs.Props.{Ordered-prop}
use Rattle.table_order.proofs.Laws.Order.{order-spelled, under_refl}

module _ (k : Key) (s ns : List ℕ) (n : ℕ) where
  module _ (o : Ordered k s ns n) where
    -- two places of the order have two keys, so two numbers
    apart : (i j : ℕ) → i < j → j < n → number_in ns i ≡ number_in ns j → ⊥
    unfolding key_in
    apart i j l m e =
        true_not_false (key_up_to (key_tokens k (key_in k s ns j)) (key_tokens k (key_in k s ns i)))
        (order-spelled k (key_in k s ns j) (key_in k s ns i) ∙ rw e (under_refl (spell_by k (key_in k s ns j))))
        (o.rising i j l m)

    same_place : (i j : ℕ) → i < n → j < n → number_in ns i ≡ number_in ns j → i ≡ j
    same_place i j l m e =
        by_test (ltb i j)
        (λ f. absurd (apart i j (ltb-true i j f) m e))
        (λ f. by_test (ltb j i)
        (λ g. absurd (apart j i (ltb-true j i g) l (sym e)))
        (λ g. omega (arith, ltb-false i j f, ltb-false j i g)))

    every-prop : (m : ℕ) → IsProp ((i : ℕ) × (i < n) × (number_in ns i ≡ m))
    every-prop m a b =
        let p : a.0 ≡ b.0 = same_place a.0 b.0 a.1 b.1 (a.2 ∙ sym b.2) in
        λ i. (p i, is_prop→PathP (λ j. p j < n) (λ j. le_prop) a.1 b.1 i, is_prop→PathP (λ j. number_in ns (p j) ≡ m) (λ j. ℕ_set _ _) a.2 b.2 i)

  pub Sorted-prop : IsProp (Sorted k s ns n)
  Sorted-prop a b = λ i. record {
    inside = Inside-prop s ns n a.inside b.inside i;
    ordered = Ordered-prop k s ns n a.ordered b.ordered i;
    each = Π_prop (λ m. Π_prop (λ l. le_prop)) a.each b.each i;
    every = Π_prop (λ m. Π_prop (λ l. every-prop a.ordered m)) a.every b.every i;
  }
