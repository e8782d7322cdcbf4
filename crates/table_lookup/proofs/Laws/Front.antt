-- Laws of fronts of lists of ranks: the law that a search in order rests on, what one turn of it comes to, and that tokens begin others
-- exactly where their ranks are a front of the others' ranks.
-- Assumes nothing.
use mathlib.Core.Path.{◌≡◌, refl, sym, ap, ap₂, ◌∙◌}
use mathlib.Core.Bool.{Bool, true, false, ◌&&◌, and_assoc, and-false, and-true}
use mathlib.Core.List.{List, [], ◌∷◌, ◌++◌, map, reverse}
use Rattle.std.specs.Prelude.{Option, Some, None}
use Prim.Native.Nat.{ℕ, zero, suc, ◌≤◌, ◌<◌, suc-le-suc, zero-le}
use native.Mathlib.Nat.{le_of_suc-le-suc, not-suc-le-zero}
use native.Mathlib.Omega.{arith}
use borrow.Author.Tests.{eq-eqb, eqb-true, eqb-false, ltb-true, ltb-false}
use lib.Dec.{eqb, ltb}
use lib.ListN.{length, take, get_or}
use Rattle.chars.specs.Case.{agree, fold_case, same_byte, same_text}
use Rattle.chars.proofs.Laws.Lists.{and_both, and_left, and_right, bool_same, by_test, true_not_false}
use Rattle.chars.specs.Parts.{split}
use Rattle.mailaddr.specs.Domain.{parts_of}
use Rattle.table.specs.Table.{Token}
use Rattle.table.specs.declared.rows.Key.{Key}
use Rattle.table.specs.declared.rows.Key.TheVariants.{Domain, Path}
use Rattle.table_order.specs.Order.{closed, flat, read_by, separator, shared, spell_by, under, up_to}
use Rattle.table_order.specs.Place.{PlaceFound}
use Rattle.table_order.specs.declared.place.Place.{Place}
use Rattle.table_order.proofs.Laws.Compare.{shared-length}
use Rattle.table_order.proofs.Laws.Order.{RanksRise, rising-under, under-cases}
use Rattle.table_order.proofs.Laws.Spell.{eqb_suc, flat-parts, flat-split, same-reverse, suc_zero, under-closed, zero_suc}
use Rattle.table_lookup.specs.Begins.{begins_by}
use Rattle.table_lookup.specs.Lookup.{begins}
use Rattle.table_lookup.specs.Search.{Longest, Searched, Whole, WholeFront, front, tokens_by}

no : {X : Type 0} → false ≡ true → X
no h = true_not_false true refl (sym h)

-- ---- fronts

pub front-under : (w q : List ℕ) → front w q ≡ true → under w q ≡ true
unfolding front up_to
front-under [] q h = refl
front-under (a ∷ w) [] h = h
front-under (a ∷ w) (b ∷ q) h = rw (and_left (eqb a b) (front w q) h) (front-under w q (and_right (eqb a b) (front w q) h))

-- THE LAW: what is a front of q and not over k, which is not over q, is a front of k
pub front-between : (w k q : List ℕ) → front w q ≡ true → under w k ≡ true → under k q ≡ true → front w k ≡ true
unfolding front up_to
front-between [] k q h l m = refl
front-between (a ∷ w) [] q h l m = l
front-between (a ∷ w) (x ∷ k) [] h l m = no h
front-between (a ∷ w) (x ∷ k) (b ∷ q) h l m =
    let e : a ≡ b = eqb-true a b (and_left (eqb a b) (front w q) h) in
    under-cases a w x k l
    (λ f s. under-cases x k b q m
    (λ g t. and_both (eq-eqb a x f) (front-between w k q (and_right (eqb a b) (front w q) h) s t))
    (λ g. absurd (omega arith)))
    (λ f. under-cases x k b q m (λ g t. absurd (omega arith)) (λ g. absurd (omega arith)))

pub front_trans : (w k q : List ℕ) → front w k ≡ true → front k q ≡ true → front w q ≡ true
unfolding front
front_trans [] k q h l = refl
front_trans (a ∷ w) [] q h l = no h
front_trans (a ∷ w) (x ∷ k) [] h l = l
front_trans (a ∷ w) (x ∷ k) (b ∷ q) h l =
    and_both
    (eq-eqb a b (eqb-true a x (and_left (eqb a x) (front w k) h) ∙ eqb-true x b (and_left (eqb x b) (front k q) l)))
    (front_trans w k q (and_right (eqb a x) (front w k) h) (and_right (eqb x b) (front k q) l))

-- ---- the search

-- the last key not over the query is number k of the first n
pub record Last (K : ℕ → List ℕ) (n : ℕ) (q : List ℕ) (k : ℕ) : Type 0 where
  pub inside : k < n
  pub reaches : under (K k) q ≡ true
  pub over : (i : ℕ) → k < i → i < n → under (K i) q ≡ false

-- no key is found where all are over the query
pub none-under : (K : ℕ → List ℕ) (n : ℕ) (q : List ℕ) → ((i : ℕ) → i < n → under (K i) q ≡ false) → Searched K n q None
none-under K n q f i l = by_test (front (K i) q) (λ e. true_not_false (under (K i) q) (front-under (K i) q e) (f i l)) (λ e. e)

module _ (K : ℕ → List ℕ) (n : ℕ) (q : List ℕ) (k : ℕ) (rising : RanksRise K n) (last : Last K n q k) where
  -- a front of the query stands up to number k, and is a front of key k
  pub up_to_lem : (i : ℕ) → i < n → front (K i) q ≡ true → (i ≤ k) × (front (K i) (K k) ≡ true)
  up_to_lem i l h =
      by_test (ltb k i)
      (λ e. true_not_false (under (K i) q) (front-under (K i) q h) (last.over i (ltb-true k i e) l))
      (λ e. let m : i ≤ k = ltb-false k i e in
      (m, front-between (K i) (K k) q h (rising-under K n i k rising m last.inside) last.reaches))

  -- key k itself
  pub last_found : front (K k) q ≡ true → Longest K n q k
  last_found h = record { below = last.inside; fits = h; most = λ i l f. (up_to_lem i l f).1 }

  -- or the search goes on among the keys before it for a front of the query that keeps what is a front of both
  module _ (cut : List ℕ) (off : front (K k) q ≡ false)
      (less : (i : ℕ) → i < k → front (K i) cut ≡ true → front (K i) q ≡ true)
      (keeps : (i : ℕ) → i < k → front (K i) (K k) ≡ true → front (K i) q ≡ true → front (K i) cut ≡ true) where
    before : (i : ℕ) → i < n → front (K i) q ≡ true → (i < k) × (front (K i) cut ≡ true)
    before i l h =
        by_test (eqb i k)
        (λ e. true_not_false (front (K k) q) (ap (λ (m : ℕ). front (K m) q) (sym (eqb-true i k e)) ∙ h) off)
        (λ e. let u = up_to_lem i l h in
        let m : i < k = omega (arith, eqb-false i k e, u.0) in
        (m, keeps i m u.1 h))

    pub search_on : (o : Option ℕ) → Searched K k cut o → Searched K n q o
    search_on None f =
        λ i l. by_test (front (K i) q)
        (λ e. let b = before i l e in true_not_false (front (K i) cut) b.1 (f i b.0))
        (λ e. e)
    search_on (Some j) f =
        record {
          below = omega (arith, f.below, last.inside);
          fits = less j f.below f.fits;
          most = λ i l h. let b = before i l h in f.most i b.0 b.1;
        }

-- ---- with a separator behind

eqb_swap : (a b : ℕ) → eqb a b ≡ eqb b a
eqb_swap a b =
    bool_same (eqb a b) (eqb b a) (λ h. eq-eqb b a (sym (eqb-true a b h))) (λ h. eq-eqb a b (sym (eqb-true b a h)))

-- a front with a separator behind it: all of it is shared, and a separator or the end stands behind it in the other
pub front-closed : (p q : List ℕ) → front (closed p) (closed q) ≡ (eqb (shared p q) (length p) && eqb (get_or q (length p) 0) 0)
unfolding front closed shared
front-closed [] [] = refl
front-closed [] (b ∷ q) = and-true (eqb 0 b) ∙ eqb_swap 0 b
front-closed (a ∷ []) [] = and-false (eqb a 0)
front-closed (a ∷ c ∷ p) [] = and-false (eqb a 0) ∙ sym (and-true (eqb 0 (suc (suc (length p)))) ∙ zero_suc (suc (length p)))
front-closed (a ∷ p) (b ∷ q) =
    by_test (eqb a b)
    (λ e. rw (e, eqb_suc (shared p q) (length p)) (front-closed p q))
    (λ e. rw (e, zero_suc (length p)))

-- ---- fronts by whole tokens

-- all of it is shared, and a part ends behind it; and back
pub whole_shared : (w q : List ℕ) → front (closed w) (closed q) ≡ true → (shared w q ≡ length w) × (get_or q (length w) 0 ≡ 0)
whole_shared w q h =
    let e = sym (front-closed w q) ∙ h in (
      eqb-true (shared w q) (length w) (and_left (eqb (shared w q) (length w)) (eqb (get_or q (length w) 0) 0) e),
      eqb-true (get_or q (length w) 0) 0 (and_right (eqb (shared w q) (length w)) (eqb (get_or q (length w) 0) 0) e),
    )

pub whole-front : (w q : List ℕ) → shared w q ≡ length w → get_or q (length w) 0 ≡ 0 → front (closed w) (closed q) ≡ true
whole-front w q e f = front-closed w q ∙ and_both (eq-eqb (shared w q) (length w) e) (eq-eqb (get_or q (length w) 0) 0 f)

not_short : {X : Type 0} (a : ℕ) (w : List ℕ) → front (closed (a ∷ w)) (closed []) ≡ true → X
unfolding front closed
not_short a [] h = no (and_right (eqb a 0) false h)
not_short a (x ∷ w) h = no (and_right (eqb a 0) false h)

-- what begins two is no longer than what they share
pub front_both : (w p q : List ℕ) → front (closed w) (closed p) ≡ true → front (closed w) (closed q) ≡ true → length w ≤ shared p q
unfolding front closed shared
front_both [] p q h l = zero-le
front_both (a ∷ w) [] q h l = not_short a w h
front_both (a ∷ w) (b ∷ p) [] h l = not_short a w l
front_both (a ∷ w) (b ∷ p) (c ∷ q) h l =
    let e : a ≡ b = eqb-true a b (and_left (eqb a b) (front (closed w) (closed p)) h) in
    let f : a ≡ c = eqb-true a c (and_left (eqb a c) (front (closed w) (closed q)) l) in
    rw (eq-eqb b c (sym e ∙ f))
    (suc-le-suc (front_both w p q (and_right (eqb a b) (front (closed w) (closed p)) h) (and_right (eqb a c) (front (closed w) (closed q)) l)))

-- a query that is cut at the end of a token
pub front_cut : (q : List ℕ) (k : ℕ) → k ≤ length q → get_or q k 0 ≡ 0 → front (closed (take k q)) (closed q) ≡ true
unfolding front closed
front_cut [] zero l h = refl
front_cut (b ∷ q) zero l h = and_both (eq-eqb 0 b (sym h)) refl
front_cut [] (suc k) l h = absurd (not-suc-le-zero l)
front_cut (b ∷ q) (suc k) l h = and_both (eq-eqb b b refl) (front_cut q k (le_of_suc-le-suc l) h)

pub front_kept : (w q : List ℕ) (k : ℕ) → front (closed w) (closed q) ≡ true → length w ≤ k → front (closed w) (closed (take k q)) ≡ true
unfolding front closed
front_kept [] q zero h l = refl
front_kept [] [] (suc k) h l = h
front_kept [] (b ∷ q) (suc k) h l = and_both (and_left (eqb 0 b) true h) refl
front_kept (a ∷ w) q zero h l = absurd (not-suc-le-zero l)
front_kept (a ∷ w) [] (suc k) h l = not_short a w h
front_kept (a ∷ w) (b ∷ q) (suc k) h l =
    and_both (and_left (eqb a b) (front (closed w) (closed q)) h) (front_kept w q k (and_right (eqb a b) (front (closed w) (closed q)) h) (le_of_suc-le-suc l))

-- ---- one turn of the search

module _ (K : ℕ → List ℕ) (n : ℕ) (q : List ℕ) (rising : RanksRise K n) (p : Place) (f : PlaceFound K n q p) where
  abbrev C : ℕ → List ℕ
  C i = closed (K i)

  rises : RanksRise C n
  rises i j l h = under-closed (K j) (K i) ∙ rising i j l h

  pub nothing-under : p.at ≡ 0 → Searched C n (closed q) None
  nothing-under e = none-under C n (closed q) (λ i l. under-closed (K i) q ∙ f.highs i (omega arith) l)

  module _ (k : ℕ) (at : suc k ≡ p.at) where
    last : Last C n (closed q) k
    last =
        record {
          inside = omega (arith, f.most);
          reaches = under-closed (K k) q ∙ f.lows k (omega arith);
          over = λ i l h. under-closed (K i) q ∙ f.highs i (omega arith) h;
        }

    -- a key that begins the query and key k is a front by whole tokens, and shared by the two
    both_shared : (i : ℕ) → front (C i) (C k) ≡ true → front (C i) (closed q) ≡ true → length (K i) ≤ p.shared
    both_shared i h l = omega (arith, front_both (K i) (K k) q h l, f.beside k at)

    pub nothing-whole : Whole q p.shared None → Searched C n (closed q) None
    nothing-whole none i l =
        by_test (front (C i) (closed q))
        (λ h. absurd (none (length (K i)) (both_shared i (up_to_lem C n (closed q) k rises last i l h).1 h) (whole_shared (K i) q h).1))
        (λ h. h)

    module _ (m : ℕ) (whole : WholeFront q p.shared m) where
      pub found-whole : length (K k) ≡ m → Longest C n (closed q) k
      found-whole e =
          let s = shared-length (K k) q in
          let l : shared (K k) q ≡ length (K k) = omega (arith, s.0, whole.within, f.beside k at) in
          last_found C n (closed q) k rises last (whole-front (K k) q l (rw e whole.ends))

      pub go_on : (length (K k) ≡ m → ⊥) → (o : Option ℕ) → Searched C k (closed (take m q)) o → Searched C n (closed q) o
      go_on off =
          search_on C n (closed q) k rises last (closed (take m q))
          (by_test (front (C k) (closed q))
          (λ h. let s = whole_shared (K k) q h in
          let l : length (K k) ≤ m = whole.most (length (K k)) (omega (arith, s.0, f.beside k at)) s.1 in
          absurd (off (omega (arith, whole.within, s.0, f.beside k at))))
          (λ h. h))
          (λ i l h. front_trans (C i) (closed (take m q)) (closed q) h (front_cut q m (omega (arith, whole.within, f.beside k at, (shared-length (K k) q).1)) whole.ends))
          (λ i l g h. front_kept (K i) q m h (whole.most (length (K i)) (both_shared i g h) (whole_shared (K i) q h).1))

-- ---- tokens

token-front : (x y : Token) (p q : List ℕ)
    → front (map (λ b. suc (fold_case b)) x ++ 0 ∷ p) (map (λ b. suc (fold_case b)) y ++ 0 ∷ q) ≡ (same_text x y && front p q)
unfolding front same_text agree same_byte
token-front [] [] p q = refl
token-front [] (b ∷ y) p q = rw (zero_suc (fold_case b))
token-front (a ∷ x) [] p q = rw (suc_zero (fold_case a))
token-front (a ∷ x) (b ∷ y) p q = rw (eqb_suc (fold_case a) (fold_case b), token-front x y p q, and_assoc)

pub begins-flat : (p q : List Token) → begins p q ≡ front (flat p) (flat q)
unfolding begins_by flat front
begins-flat [] q = refl
begins-flat ([] ∷ p) [] = refl
begins-flat ((a ∷ x) ∷ p) [] = refl
begins-flat (x ∷ p) (y ∷ q) = rw (begins-flat p q) (sym (token-front x y (flat p) (flat q)))

begins_turned : (p q : List Token) → begins (map reverse p) (map reverse q) ≡ begins p q
unfolding begins_by
begins_turned [] q = refl
begins_turned (x ∷ p) [] = refl
begins_turned (x ∷ p) (y ∷ q) = ap₂ (λ (a b : Bool). a && b) (same-reverse x y) (begins_turned p q)

pub tokens-spelt : (k : Key) (a b : List ℕ) → begins (tokens_by k a) (tokens_by k b) ≡ front (closed (spell_by k a)) (closed (spell_by k b))
unfolding tokens_by spell_by separator read_by
tokens-spelt Domain a b =
    sym (begins_turned (parts_of a) (parts_of b))
    ∙ begins-flat (map reverse (parts_of a)) (map reverse (parts_of b))
    ∙ ap₂ front (flat-parts a) (flat-parts b)
tokens-spelt Path a b = begins-flat (split 9 a) (split 9 b) ∙ ap₂ front (flat-split 9 a) (flat-split 9 b)
