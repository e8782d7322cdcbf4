-- Laws of comparing two lists of ranks place by place.
-- Assumes nothing.
use mathlib.Core.Path.{◌≡◌, refl, sym, ap, ◌∙◌}
use mathlib.Core.Bool.{true, false}
use mathlib.Core.List.{List, [], ◌∷◌, reverse, reverse-cons}
use Prim.Native.Nat.{ℕ, zero, suc, min, ◌+◌, ◌≤◌, ◌<◌, suc-le-suc, zero-le, ◌-◌}
use native.Mathlib.Nat.{le_of_suc-le-suc, not-suc-le-zero}
use native.Mathlib.Numerals.{add-one}
use native.Mathlib.Omega.{arith}
use borrow.Author.Tests.{eq-eqb, eqb-true, leb-false, leb-true, ltb-false, ltb-true, ne_eqb}
use lib.Dec.{eqb, leb, ltb}
use lib.ListN.{length, drop, get_or, length-map, length-reverse, drop_of_length-le, get_or-append, take, length-drop}
use lib.Seq.{drop-cons, get_or_at, get_or-drop, get_or-take, length-take-le}
use Rattle.chars.proofs.Laws.Lists.{by_test}
use Rattle.table.specs.declared.rows.Key.{Key}
use Rattle.table.specs.declared.rows.Key.TheVariants.{Domain, Path}
use Rattle.table_order.specs.Order.{rank, read_by, separator, shared, spell, spell_by, under, up_to}
use Rattle.std.specs.Ordering.{nat_cmp}
use Rattle.std.proofs.Common.{Less, Equal, Greater}
use Rattle.table_order.specs.Place.{EqualUpTo, block_size}

-- two lists of ranks are equal up to the place i: what they share and which is the lesser is settled by what stands from there on
pub record Parted (p q : List ℕ) (i : ℕ) : Type 0 where
  pub many : shared p q ≡ i + shared (drop i p) (drop i q)
  pub less : under p q ≡ under (drop i p) (drop i q)

pub parted_skip : (p q : List ℕ) (i : ℕ) → i ≤ shared p q → Parted p q i
unfolding shared up_to
parted_skip p q zero h = record { many = omega arith; less = refl }
parted_skip [] q (suc i) h = absurd (not-suc-le-zero h)
parted_skip (a ∷ p) [] (suc i) h = absurd (not-suc-le-zero h)
parted_skip (a ∷ p) (b ∷ q) (suc i) h =
    by_test (eqb a b)
    (λ e. let t : Parted p q i = parted_skip p q i (le_of_suc-le-suc (rw e at h)) in
    record { many = rw e (omega (arith, t.many)); less = rw e t.less })
    (λ e. absurd (not-suc-le-zero (rw e at h)))

pub shared-length : (p q : List ℕ) → (shared p q ≤ length p) × (shared p q ≤ length q)
unfolding shared
shared-length [] q = (zero-le, zero-le)
shared-length (a ∷ p) [] = (zero-le, zero-le)
shared-length (a ∷ p) (b ∷ q) =
    by_test (eqb a b)
    (λ e. let t = shared-length p q in rw e (suc-le-suc t.0, suc-le-suc t.1))
    (λ e. rw e (zero-le, zero-le))

module _ (p q : List ℕ) (i : ℕ) (h : Parted p q i) where
  pub parted_step : i < length p → i < length q → eqb (get_or p i 0) (get_or q i 0) ≡ true → Parted p q (i + 1)
  unfolding shared up_to
  parted_step k l e =
      let d : drop i p ≡ get_or p i 0 ∷ drop (i + 1) p = rw add-one (drop-cons p i 0 k) in
      let f : drop i q ≡ get_or q i 0 ∷ drop (i + 1) q = rw add-one (drop-cons q i 0 l) in
      let m : shared (drop i p) (drop i q) ≡ suc (shared (drop (i + 1) p) (drop (i + 1) q)) = rw (d, f, e) in
      record { many = omega (arith, h.many); less = h.less ∙ rw (d, f, e) }

  pub parted_differ : i < length p → i < length q → eqb (get_or p i 0) (get_or q i 0) ≡ false → (shared p q ≡ i) × (under p q ≡ ltb (get_or p i 0) (get_or q i 0))
  unfolding shared up_to
  parted_differ k l e =
      let m : shared (drop i p) (drop i q) ≡ 0 = rw (drop-cons p i 0 k, drop-cons q i 0 l, e) in
      (omega (arith, h.many), h.less ∙ rw (drop-cons p i 0 k, drop-cons q i 0 l, e))

  pub parted-end : i ≡ min (length p) (length q) → (shared p q ≡ i) × (under p q ≡ leb (length p) (length q))
  unfolding shared up_to
  parted-end e =
      by_test (leb (length p) (length q))
      (λ f. let l : length p ≤ i = omega (arith, e, leb-true (length p) (length q) f) in
      let z : drop i p ≡ [] = drop_of_length-le p l in
      let m : shared (drop i p) (drop i q) ≡ 0 = rw z in
      (omega (arith, h.many), h.less ∙ rw (z, f)))
      (λ f. let k : length q < length p = leb-false (length p) (length q) f in
      let l : i ≡ length q = omega arith in
      let j : length q ≤ i = omega arith in
      let z : drop i q ≡ [] = drop_of_length-le q j in
      let y : drop i p ≡ get_or p i 0 ∷ drop (suc i) p = drop-cons p i 0 (omega arith) in
      let m : shared (drop i p) (drop i q) ≡ 0 = rw (z, y) in
      (omega (arith, h.many), h.less ∙ rw (z, f, y)))

-- ---- texts

pub spell-length : (sep : ℕ) (s : List ℕ) → length (spell sep s) ≡ length s
unfolding spell
spell-length sep s = length-map s (rank sep)

pub spell-at : (sep : ℕ) (s : List ℕ) (i : ℕ) → i < length s → get_or (spell sep s) i 0 ≡ rank sep (get_or s i 0)
unfolding spell
spell-at sep [] i h = absurd (not-suc-le-zero h)
spell-at sep (x ∷ s) zero h = refl
spell-at sep (x ∷ s) (suc i) h = spell-at sep s i (le_of_suc-le-suc h)

-- ---- a text from the right

pub reverse-at : (s : List ℕ) (i k : ℕ) → i + k + 1 ≡ length s → get_or (reverse s) i 0 ≡ get_or s k 0
reverse-at [] i k h = absurd (omega arith)
reverse-at (x ∷ s) i zero h =
    let e : length (reverse s) ≡ i = omega (arith, length-reverse s) in
    rw (reverse-cons x s) (get_or_at (reverse s) x [] 0 i e)
reverse-at (x ∷ s) i (suc k) h =
    let l : i < length (reverse s) = omega (arith, length-reverse s) in
    rw (reverse-cons x s) (get_or-append (reverse s) (x ∷ []) 0 i l ∙ reverse-at s i k (omega arith))

-- ---- a key from its side

pub read_length : (k : Key) (s : List ℕ) → length (read_by k s) ≡ length s
unfolding read_by
read_length Domain s = length-reverse s
read_length Path s = refl

pub by_length : (k : Key) (s : List ℕ) → length (spell_by k s) ≡ length s
unfolding spell_by
by_length k s = spell-length (separator k) (read_by k s) ∙ read_length k s

pub by-at : (k : Key) (s : List ℕ) (i : ℕ) → i < length s → get_or (spell_by k s) i 0 ≡ rank (separator k) (get_or (read_by k s) i 0)
unfolding spell_by
by-at k s i h = spell-at (separator k) (read_by k s) i (omega (arith, read_length k s))

-- ---- bytes that are equal

-- what is shared is equal, and what is equal from the front on is shared
shared_at : (p q : List ℕ) (j : ℕ) → j < shared p q → get_or p j 0 ≡ get_or q j 0
unfolding shared
shared_at [] q j h = absurd (not-suc-le-zero h)
shared_at (a ∷ p) [] j h = absurd (not-suc-le-zero h)
shared_at (a ∷ p) (b ∷ q) zero h =
    by_test (eqb a b) (λ e. eqb-true a b e) (λ e. absurd (not-suc-le-zero (rw e at h)))
shared_at (a ∷ p) (b ∷ q) (suc j) h =
    by_test (eqb a b) (λ e. shared_at p q j (le_of_suc-le-suc (rw e at h))) (λ e. absurd (not-suc-le-zero (rw e at h)))

shared-from : (p q : List ℕ) (r : ℕ) → r ≤ length p → r ≤ length q → ((j : ℕ) → j < r → get_or p j 0 ≡ get_or q j 0) → r ≤ shared p q
unfolding shared
shared-from p q zero k l f = zero-le
shared-from [] q (suc r) k l f = absurd (not-suc-le-zero k)
shared-from (a ∷ p) [] (suc r) k l f = absurd (not-suc-le-zero l)
shared-from (a ∷ p) (b ∷ q) (suc r) k l f =
    rw (eq-eqb a b (f 0 (omega arith))) (suc-le-suc (shared-from p q r (le_of_suc-le-suc k) (le_of_suc-le-suc l) (λ j h. f (suc j) (suc-le-suc h))))

-- equal bytes behind what is shared are shared too
pub shared-on : (a b : List ℕ) (i end r : ℕ) → i ≤ shared (spell_by Path a) (spell_by Path b) → end ≤ length a → end ≤ length b → EqualUpTo a b i end r
    → r ≤ shared (spell_by Path a) (spell_by Path b)
unfolding read_by
shared-on a b i end r h k l e =
    let p = spell_by Path a in
    let q = spell_by Path b in
    shared-from p q r (omega (arith, e.within, by_length Path a)) (omega (arith, e.within, by_length Path b))
    (λ j m. by_test (ltb j i)
    (λ f. shared_at p q j (omega (arith, ltb-true j i f)))
    (λ f. by-at Path a j (omega (arith, e.within)) ∙ ap (rank (separator Path)) (e.equal j (ltb-false j i f) m) ∙ sym (by-at Path b j (omega (arith, e.within)))))

-- ---- a block of a text

block_length : (s : List ℕ) (i n : ℕ) → i + block_size ≤ n → n ≤ length s → length (take (i + block_size - i) (drop i s)) ≡ block_size
block_length s i n h l =
    let z : i + block_size - i ≡ block_size = omega arith in
    rw z (length-take-le block_size (drop i s) (omega (arith, length-drop i s)))

block_at : (s : List ℕ) (i j : ℕ) → i ≤ j → j < i + block_size → get_or (take (i + block_size - i) (drop i s)) (j - i) 0 ≡ get_or s j 0
block_at s i j h l =
    let e : i + (j - i) ≡ j = omega arith in
    get_or-take (i + block_size - i) (drop i s) (j - i) 0 (omega arith) ∙ get_or-drop i s (j - i) 0 ∙ ap (λ (k : ℕ). get_or s k 0) e

module _ (a b : List ℕ) (i end : ℕ) (h : i + block_size ≤ end) (k : end ≤ length a) (l : end ≤ length b) where
  pub blocks : (length (take (i + block_size - i) (drop i a)) ≡ block_size) × (length (take (i + block_size - i) (drop i b)) ≡ block_size)
  blocks = (block_length a i end h k, block_length b i end h l)

  -- two texts that are equal up to the place i, and in the block there, are equal up to its end
  pub block_more : (from : ℕ) → EqualUpTo a b from end i → EqualUpTo (take (i + block_size - i) (drop i a)) (take (i + block_size - i) (drop i b)) 0 block_size block_size
      → EqualUpTo a b from end (i + block_size)
  block_more from e f =
      record {
        onward = omega (arith, e.onward);
        within = h;
        equal = λ j m o. by_test (ltb j i)
            (λ t. e.equal j m (ltb-true j i t))
            (λ t. let p : i ≤ j = ltb-false j i t in
            sym (block_at a i j p o) ∙ f.equal (j - i) zero-le (omega arith) ∙ block_at b i j p o);
      }

-- ---- two ranks

-- how two ranks stand to one another, from how they compare
pub of_equal : (p q : ℕ) → Equal ≡ nat_cmp p q → eqb p q ≡ true
of_equal p q h =
    by_test (ltb p q)
    (λ e. absurd (equal_not_less (h ∙ rw e)))
    (λ e. by_test (eqb p q) (λ f. f) (λ f. absurd (equal_not_greater (h ∙ rw (e, f)))))
  where
    equal_not_less : Equal ≡ Less → ⊥
    equal_not_less e = cc

    equal_not_greater : Equal ≡ Greater → ⊥
    equal_not_greater e = cc

pub of_less : (p q : ℕ) → Less ≡ nat_cmp p q → (eqb p q ≡ false) × (ltb p q ≡ true)
of_less p q h =
    by_test (ltb p q)
    (λ e. (ne_eqb p q (λ f. omega (arith, f, ltb-true p q e)), e))
    (λ e. by_test (eqb p q)
    (λ f. absurd (less_not_equal (h ∙ rw (e, f))))
    (λ f. absurd (less_not_greater (h ∙ rw (e, f)))))
  where
    less_not_equal : Less ≡ Equal → ⊥
    less_not_equal e = cc

    less_not_greater : Less ≡ Greater → ⊥
    less_not_greater e = cc

pub of_greater : (p q : ℕ) → Greater ≡ nat_cmp p q → (eqb p q ≡ false) × (ltb p q ≡ false)
of_greater p q h =
    by_test (ltb p q)
    (λ e. absurd (greater_not_less (h ∙ rw e)))
    (λ e. by_test (eqb p q)
    (λ f. absurd (greater_not_equal (h ∙ rw (e, f))))
    (λ f. (f, e)))
  where
    greater_not_less : Greater ≡ Less → ⊥
    greater_not_less e = cc

    greater_not_equal : Greater ≡ Equal → ⊥
    greater_not_equal e = cc
