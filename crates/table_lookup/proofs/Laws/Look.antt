-- That the search by halving finds the row, or none, that the plain scan by document 01's rules finds.
-- Assumes nothing.
use mathlib.Core.Path.{◌≡◌, refl, sym, ap, ap₂, ◌∙◌}
use mathlib.Core.Bool.{true}
use mathlib.Core.List.Memᴰ
use mathlib.Core.List.{List, [], ◌∷◌, Memᴰ}
use mathlib.Core.Option.{Option, none, some}
use Rattle.std.specs.Prelude.{Some, None}
use Rattle.std.specs.Prelude as prelude
use mathlib.Core.Logic.{⊎_elim}
use Prim.Native.Nat.{ℕ, zero, suc, ◌+◌, ◌<◌}
use native.Mathlib.Nat.{le_of_suc-le-suc, not-suc-le-zero}
use native.Mathlib.Omega.{arith}
use borrow.Author.Tests.{le-leb, ltb-true, ltb-false}
use lib.Dec.{ltb}
use Rattle.chars.specs.Case.{agree, same_text}
use Rattle.chars.proofs.Laws.Lists.{and_both, and_left, and_right, by_test, true_not_false}
use Rattle.chars.proofs.Laws.Case.{agree_sym, same_sym}
use Rattle.table.specs.Table.{Row, Token}
use Rattle.table.specs.Keys.{key_text}
use Rattle.table.specs.Rows.{RowInside, fields_at, places_at, row_at, rows_at, rows_from}
use Rattle.table.specs.declared.line as line
use Rattle.table.specs.declared.rows.Key.{Key}
use Rattle.table.specs.declared.rows.Key.TheVariants.{Domain, Path}
use Rattle.table_order.specs.Order.{closed, spell_by, under}
use Rattle.table_order.specs.Place.{Sorted, key_in, number_in, ranks_in}
use Rattle.table_order.proofs.Laws.Insert.{ranks_rise}
use Rattle.table_order.proofs.Laws.Order.{RanksRise}
use Rattle.table_order.proofs.Laws.Spell.{under-closed}
use Rattle.table_lookup.specs.Begins.{begins_by}
use Rattle.table_lookup.specs.Lookup.{RowKey, begins, look}
use Rattle.table_lookup.specs.Search.{Searched, by_key, closed_key, front, tokens_by}
use Rattle.table_lookup.proofs.Laws.Begins.{begins-length, look_best}
use Rattle.table_lookup.proofs.Laws.Front.{front-under, tokens-spelt}
use Rattle.table_lookup.proofs.Laws.Lookup.{Answer, found, same_equality}

-- ---- rows in order, against the plain scan

agree-begins : (p q : List Token) → agree same_text p q ≡ true → (begins p q ≡ true) × (begins q p ≡ true)
unfolding agree begins_by
agree-begins [] [] h = (refl, refl)
agree-begins [] (y ∷ q) h = true_not_false true refl (sym h)
agree-begins (x ∷ p) [] h = true_not_false true refl (sym h)
agree-begins (x ∷ p) (y ∷ q) h =
    let s = and_left (same_text x y) (agree same_text p q) h in
    let t = agree-begins p q (and_right (same_text x y) (agree same_text p q) h) in
    (and_both s t.0, and_both (same_sym y x ∙ s) t.1)

-- the row that a number in the order stands for
unfoldable pub row_of : (ℕ → Row) → prelude.Option ℕ → Option Row
row_of row None = none
row_of row (Some i) = some (row i)

-- The rows of a list in an order: row 0, row 1 and so on up to n are its rows, and their keys, as ranks, rise.
pub record Arranged (key : RowKey) (rows : List Row) (row : ℕ → Row) (n : ℕ) (K : ℕ → List ℕ) : Type 0 where
  pub there : (i : ℕ) → i < n → Memᴰ (row i) rows
  pub each : (r : Row) → Memᴰ r rows → (i : ℕ) × (i < n) × (row i ≡ r)
  pub rising : RanksRise K n
  pub spelt : (i j : ℕ) → i < n → j < n → begins (key (row i)) (key (row j)) ≡ front (K i) (K j)

module _ (key : RowKey) (rows : List Row) (row : ℕ → Row) (n : ℕ) (K : ℕ → List ℕ) (a : Arranged key rows row n K) where
  -- no two keys are equal
  distinct : (i j : ℕ) → i < n → j < n → i < j → agree same_text (key (row i)) (key (row j)) ≡ true → ⊥
  distinct i j h k l e =
      let b = agree-begins (key (row i)) (key (row j)) e in
      true_not_false (under (K j) (K i)) (front-under (K j) (K i) (sym (a.spelt j i k h) ∙ b.1)) (a.rising i j l k)

  one : (r s : Row) → Memᴰ r rows → Memᴰ s rows → agree same_text (key r) (key s) ≡ true → r ≡ s
  one r s m o e =
      let x = a.each r m in
      let y = a.each s o in
      let f : agree same_text (key (row x.0)) (key (row y.0)) ≡ true = rw (x.2, y.2) e in
      let g : agree same_text (key (row y.0)) (key (row x.0)) ≡ true = agree_sym same_text same_sym (key (row y.0)) (key (row x.0)) ∙ f in
      by_test (ltb x.0 y.0)
      (λ l. absurd (distinct x.0 y.0 x.1 y.1 (ltb-true x.0 y.0 l) f))
      (λ l. by_test (ltb y.0 x.0)
      (λ k. absurd (distinct y.0 x.0 y.1 x.1 (ltb-true y.0 x.0 k) g))
      (λ k. let z : x.0 ≡ y.0 = omega (arith, ltb-false x.0 y.0 l, ltb-false y.0 x.0 k) in
      sym x.2 ∙ ap row z ∙ y.2))

  module _ (q : List Token) (Q : List ℕ) (spelt : (i : ℕ) → i < n → begins (key (row i)) q ≡ front (K i) Q) where
    pub look-searched : (o : prelude.Option ℕ) → Searched K n Q o → look key rows q ≡ row_of row o
    unfolding row_of
    look-searched None f = case (look key rows q) refl (found key rows q)
      where
        case : (o : Option Row) → look key rows q ≡ o → Answer key rows q o → look key rows q ≡ none
        case none e g = e
        case (some b) e g =
            let x = a.each b g.mem in
            true_not_false (front (K x.0) Q)
            (sym (spelt x.0 x.1) ∙ rw x.2 g.fits)
            (f x.0 x.1)
    look-searched (Some j) f =
        look_best same_text key same_equality rows q (row j) one
        (record {
          mem = a.there j f.below;
          fits = spelt j f.below ∙ f.fits;
          most = λ r m h. let x = a.each r m in
              let y : begins (key (row x.0)) q ≡ true = rw x.2 h in
              let z : front (K x.0) (K j) ≡ true = f.most x.0 x.1 (sym (spelt x.0 x.1) ∙ y) in
              let w : begins (key r) (key (row j)) ≡ true = rw (← x.2) (a.spelt x.0 j x.1 f.below ∙ z) in
              begins-length same_text (key r) (key (row j)) w;
        })

-- ---- the rows as the code keeps them

module _ (s ns : List ℕ) where
  from-there : (i n j : ℕ) → j < n → Memᴰ (row_at s (places_at ns (i + j))) (rows_from s ns i n)
  unfolding rows_from
  from-there i zero j l = absurd (not-suc-le-zero l)
  from-there i (suc n) zero l = let e : i + 0 ≡ i = omega arith in rw e (Memᴰ.head refl)
  from-there i (suc n) (suc j) l = let e : i + suc j ≡ suc i + j = omega arith in rw e (Memᴰ.tail (from-there (suc i) n j (le_of_suc-le-suc l)))

  from_each : (i n : ℕ) (r : Row) → Memᴰ r (rows_from s ns i n) → (j : ℕ) × (j < n) × (row_at s (places_at ns (i + j)) ≡ r)
  unfolding rows_from
  from_each i zero r m = absurd (Memᴰ.not-nil m)
  from_each i (suc n) r m =
      ⊎_elim
      (λ p. let e : i + 0 ≡ i = omega arith in (zero, omega arith, rw e (sym p)))
      (λ t. let x = from_each (suc i) n r t in
      let e : i + suc x.0 ≡ suc i + x.0 = omega arith in
      (suc x.0, omega (arith, x.1), rw e x.2))
      (Memᴰ.cases_cons m)

  pub row-there : (n j : ℕ) → j < n → Memᴰ (row_at s (places_at ns j)) (rows_at s ns n)
  unfolding rows_at
  row-there n j l = let e : 0 + j ≡ j = omega arith in rw e at (from-there 0 n j l)

  pub row-each : (n : ℕ) (r : Row) → Memᴰ r (rows_at s ns n) → (j : ℕ) × (j < n) × (row_at s (places_at ns j) ≡ r)
  unfolding rows_at
  row-each n r m =
      let x = from_each 0 n r m in
      let e : 0 + x.0 ≡ x.0 = omega arith in
      (x.0, x.1, rw e at x.2)

-- ---- the tokens of a key

key-tokens : (k : Key) (s : List ℕ) (p : line.Row.Row) → RowInside s p → by_key k (row_at s p) ≡ tokens_by k (key_text k s p)
unfolding tokens_by row_at key_text fields_at
key-tokens Domain s p h = refl
key-tokens Path s p h = rw (le-leb p.path p.path_end h.path)

module _ (k : Key) (s ns : List ℕ) (n : ℕ) (sorted : Sorted k s ns n) where
  row_in : ℕ → Row
  row_in i = row_at s (places_at ns (number_in ns i))

  arranged : Arranged (by_key k) (rows_at s ns n) row_in n (closed_key k s ns)
  unfolding row_in closed_key ranks_in key_in
  arranged =
      record {
        there = λ i l. row-there s ns n (number_in ns i) (sorted.each i l);
        each = λ r m. let x = row-each s ns n r m in
            let y = sorted.every x.0 x.1 in
            (y.0, y.1, rw y.2 x.2);
        rising = λ i j l h. under-closed (ranks_in k s ns j) (ranks_in k s ns i) ∙ ranks_rise sorted.ordered i j l h;
        spelt = λ i j h l. let p = places_at ns (number_in ns i) in
            let o = places_at ns (number_in ns j) in
            ap₂ begins (key-tokens k s p (sorted.ordered.inside i h)) (key-tokens k s o (sorted.ordered.inside j l))
            ∙ tokens-spelt k (key_text k s p) (key_text k s o);
      }

  pub looked : (q : List ℕ) (o : prelude.Option ℕ) → Searched (closed_key k s ns) n (closed (spell_by k q)) o
      → look (by_key k) (rows_at s ns n) (tokens_by k q) ≡ row_of (λ i. row_at s (places_at ns (number_in ns i))) o
  unfolding row_in closed_key ranks_in key_in
  looked q o f =
      look-searched (by_key k) (rows_at s ns n) row_in n (closed_key k s ns) arranged (tokens_by k q) (closed (spell_by k q))
      (λ i l. let p = places_at ns (number_in ns i) in
      ap (λ (t : List Token). begins t (tokens_by k q)) (key-tokens k s p (sorted.ordered.inside i l))
      ∙ tokens-spelt k (key_text k s p) q)
      o f
