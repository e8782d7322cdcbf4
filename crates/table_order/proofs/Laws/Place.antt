-- Laws of halving.
-- Assumes nothing.
use mathlib.Core.Path.{◌≡◌, refl, sym, ◌∙◌}
use mathlib.Core.Bool.{true, false}
use mathlib.Core.List.{List, [], ◌∷◌}
use Prim.Native.Nat.{ℕ, zero, suc, min, ◌+◌, ◌≤◌, ◌<◌, suc-le-suc, zero-le}
use native.Mathlib.Nat.{le_of_suc-le-suc, not-suc-le-zero}
use native.Mathlib.Omega.{arith}
use borrow.Author.Tests.{eq-eqb, eqb-true, ltb-true, ltb-false}
use lib.Dec.{eqb, ltb}
use Rattle.chars.proofs.Laws.Lists.{by_test, true_not_false}
use Rattle.table_order.specs.Order.{shared, under, up_to}
use Rattle.table_order.specs.Place.{PlaceFound, Within}
use Rattle.table_order.specs.declared.place.Range.{Range}
use Rattle.table_order.proofs.Laws.Order.{RanksRise, rising-under, under-cases, under_trans}

-- what lies between two lists shares with a third what both do
pub shared-between : (m : ℕ) (l k h q : List ℕ) → under l k ≡ true → under k h ≡ true → m ≤ shared l q → m ≤ shared h q → m ≤ shared k q
unfolding shared up_to
shared-between zero l k h q u v a b = zero-le
shared-between (suc m) [] k h q u v a b = absurd (not-suc-le-zero a)
shared-between (suc m) (x ∷ l) k h [] u v a b = absurd (not-suc-le-zero a)
shared-between (suc m) (x ∷ l) [] h (c ∷ q) u v a b = true_not_false true refl (sym u)
shared-between (suc m) (x ∷ l) (y ∷ k) [] (c ∷ q) u v a b = absurd (not-suc-le-zero b)
shared-between (suc m) (x ∷ l) (y ∷ k) (z ∷ h) (c ∷ q) u v a b =
    by_test (eqb x c)
    (λ e. by_test (eqb z c)
    (λ f. under-cases x l y k u
    (λ g s. under-cases y k z h v
    (λ i t. rw (eq-eqb y c (sym g ∙ eqb-true x c e)) (suc-le-suc (shared-between m l k h q s t (le_of_suc-le-suc (rw e at a)) (le_of_suc-le-suc (rw f at b)))))
    (λ i. absurd (omega (arith, eqb-true x c e, eqb-true z c f))))
    (λ g. under-cases y k z h v
    (λ i t. absurd (omega (arith, eqb-true x c e, eqb-true z c f)))
    (λ i. absurd (omega (arith, eqb-true x c e, eqb-true z c f)))))
    (λ f. absurd (not-suc-le-zero (rw f at b))))
    (λ e. absurd (not-suc-le-zero (rw e at a)))

module _ (K : ℕ → List ℕ) (n : ℕ) (q : List ℕ) where
  pub within_all : Within K n q (record { lo = 0; hi = n; low = 0; high = 0 })
  within_all =
      record {
        order = zero-le;
        most = omega arith;
        lows = λ i l. absurd (not-suc-le-zero l);
        highs = λ i l h. absurd (omega arith);
        low_none = λ e. refl;
        low_beside = λ k e. absurd (omega arith);
        high_none = λ e. refl;
        high_beside = λ l. absurd (omega arith);
      }

  module _ (rising : RanksRise K n) (r : Range) (w : Within K n q r) where
    pub within_end : r.hi ≤ r.lo → PlaceFound K n q (record { at = r.lo; shared = r.low })
    within_end h =
        record {
          most = omega (arith, w.most, w.order);
          lows = w.lows;
          highs = λ i l m. w.highs i (omega arith) m;
          beside = w.low_beside;
        }

    module _ (mid : ℕ) (above : r.lo ≤ mid) (below : mid < r.hi) where
      -- what is known to be shared before the two are compared
      pub mid_shared : min r.low r.high ≤ shared (K mid) q
      mid_shared =
          by-lo r.lo refl
        where
          by-hi : (k : ℕ) → suc k ≡ r.lo → min r.low r.high ≤ shared (K mid) q
          by-hi k e =
              by_test (ltb r.hi n)
              (λ l. let h : r.hi < n = ltb-true r.hi n l in
              shared-between (min r.low r.high) (K k) (K mid) (K r.hi) q
              (rising-under K n k mid rising (omega arith) (omega arith))
              (rising-under K n mid r.hi rising (omega arith) h)
              (omega (arith, w.low_beside k e))
              (omega (arith, w.high_beside h)))
              (λ l. let h : r.hi ≡ n = omega (arith, ltb-false r.hi n l, w.most) in omega (arith, w.high_none h))

          by-lo : (lo : ℕ) → lo ≡ r.lo → min r.low r.high ≤ shared (K mid) q
          by-lo zero e = omega (arith, w.low_none (sym e))
          by-lo (suc k) e = by-hi k e

      pub within_up : under (K mid) q ≡ true → Within K n q (record { lo = mid + 1; hi = r.hi; low = shared (K mid) q; high = r.high })
      within_up u =
          record {
            order = omega arith;
            most = w.most;
            lows = λ i l. under_trans (K i) (K mid) q (rising-under K n i mid rising (omega arith) (omega (arith, w.most))) u;
            highs = w.highs;
            low_none = λ e. absurd (omega arith);
            low_beside = λ k e. let f : k ≡ mid = omega arith in rw f;
            high_none = w.high_none;
            high_beside = w.high_beside;
          }

      pub within_down : under (K mid) q ≡ false → Within K n q (record { lo = r.lo; hi = mid; low = r.low; high = shared (K mid) q })
      within_down u =
          record {
            order = above;
            most = omega (arith, w.most);
            lows = w.lows;
            highs = λ i l h. by_test (under (K i) q)
                (λ e. true_not_false (under (K mid) q) (under_trans (K mid) (K i) q (rising-under K n mid i rising l h) e) u)
                (λ e. e);
            low_none = w.low_none;
            low_beside = w.low_beside;
            high_none = λ e. absurd (omega (arith, w.most));
            high_beside = λ l. refl;
          }
