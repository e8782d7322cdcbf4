-- Laws of putting a row into the order: a place opened for its number, keys in order with one more, and when its key is new.
-- Assumes nothing.
use mathlib.Core.Path.{◌≡◌, refl, sym, ap, ap₂, ◌∙◌}
use mathlib.Core.Bool.{true, false, ◌&&◌, cond}
use mathlib.Core.List.{List, [], ◌∷◌, map, reverse}
use Prim.Native.Nat.{ℕ, zero, suc, ◌+◌, ◌-◌, ◌≤◌, ◌<◌}
use native.Mathlib.Nat.{not-suc-le-zero, suc_inj}
use native.Mathlib.Numerals.{add-one}
use native.Mathlib.Omega.{arith}
use borrow.Author.Tests.{eq-eqb, eqb-true, eqb-false, ltb-true, ltb-false, lt-ltb}
use lib.Dec.{eqb, ltb}
use lib.ListN.{length, set, length-set}
use lib.Seq.{get_or-set_same, get_or-set_other}
use Rattle.chars.specs.Case.{fold_case, fold_text, same_text}
use Rattle.chars.specs.Class as class
use Rattle.chars.specs.Class.{is_letter}
use Rattle.chars.proofs.Laws.Lists.{and_left, and_right, by_test, true_not_false}
use Rattle.chars.proofs.Laws.Case.{same_of, same-path}
use Rattle.chars.proofs.Laws.Parts.{fold_is}
use Rattle.table.specs.Keys.{is_new_key, key_place, key_text}
use Rattle.table.specs.Lines.{most_rows}
use Rattle.table.specs.Rows.{Inside, RowInside, order_start, places_at, put_at, rows_size}
use Rattle.table.specs.declared.line as line
use Rattle.table.specs.declared.rows.Key.{Key}
use Rattle.table.specs.declared.rows.Key.TheVariants.{Domain, Path}
use Rattle.table.proofs.Laws.Fields.{between-length}
use Rattle.table.proofs.Laws.Keys.{key-inside, known_key, new-key}
use Rattle.table.proofs.Laws.Rows.{inside-none, inside_put, length_put, places-before, places_put, places-set, put_behind, rows_put, tab_other}
use Rattle.table_order.specs.Insert.{Joins, Opened, Reachable, is_last, key_size}
use Rattle.table_order.specs.Order.{key_tokens, rank, read_by, separator, shared, spell, spell_by, under}
use Rattle.table_order.specs.Place.{Ordered, PlaceFound, Rising, Sorted, key_in, number_in, ranks_in}
use Rattle.table_order.specs.declared.place.Place.{Place}
use Rattle.table_order.proofs.Laws.Compare.{by_length}
use Rattle.table_order.proofs.Laws.Order.{RanksRise, order-spelled, rising-under, under_both, under_refl}
use Rattle.table_order.proofs.Laws.Spell.{same-reverse}

-- ---- rows in order, by the ranks of their keys

pub ranks_rise : {k : Key} {s ns : List ℕ} {n : ℕ} → Ordered k s ns n → RanksRise (ranks_in k s ns) n
unfolding ranks_in
ranks_rise {k} {s} {ns} {n} o i j l h = sym (order-spelled k (key_in k s ns j) (key_in k s ns i)) ∙ o.rising i j l h

pub tokens_rise : (k : Key) (s ns : List ℕ) (n : ℕ) → RanksRise (ranks_in k s ns) n → Rising (λ i. key_tokens k (key_in k s ns i)) n
unfolding ranks_in
tokens_rise k s ns n r i j l h = order-spelled k (key_in k s ns j) (key_in k s ns i) ∙ r i j l h

-- the first of them are in order too
pub ordered-less : {k : Key} {s ns : List ℕ} {n : ℕ} (m : ℕ) → m ≤ n → Ordered k s ns n → Ordered k s ns m
ordered-less m l o =
    record {
      few = omega (arith, o.few);
      room = omega (arith, o.room);
      rows = λ i h. o.rows i (omega arith);
      inside = λ i h. o.inside i (omega arith);
      rising = λ i j a b. o.rising i j a (omega arith);
    }

-- a key of theirs can be reached, and is as long as its place says
pub key_reached : {k : Key} {s ns : List ℕ} {n : ℕ} (i : ℕ) → Ordered k s ns n → i < n → Reachable k ns i × (length (ranks_in k s ns i) ≡ key_size k ns i)
unfolding ranks_in key_in key_text
key_reached {k} {s} {ns} {n} i o l =
    let p = places_at ns (number_in ns i) in
    let h = key-inside k s p (key_place k p) refl (o.inside i l) in (
      record { room = omega (arith, o.room); row = o.rows i l; ends = h.0 },
      by_length k (key_text k s p) ∙ between-length s (key_place k p).from (key_place k p).end h.0 h.1,
    )

pub sorted_none : (k : Key) (s ns : List ℕ) → length ns ≡ rows_size → Sorted k s ns 0
sorted_none k s ns size =
    record {
      inside = inside-none s ns;
      ordered = record {
        few = omega arith;
        room = omega arith;
        rows = λ i l. absurd (not-suc-le-zero l);
        inside = λ i l. absurd (not-suc-le-zero l);
        rising = λ i j l h. absurd (not-suc-le-zero h);
      };
      each = λ i l. absurd (not-suc-le-zero l);
      every = λ m l. absurd (not-suc-le-zero l);
    }

-- ---- a place opened

-- n numbers of an order, of which those from i on stand one place further
pub record Moved (ns : List ℕ) (n i : ℕ) (ms : List ℕ) : Type 0 where
  pub size : length ms ≡ length ns
  pub places : (j : ℕ) → j < most_rows → places_at ms j ≡ places_at ns j
  pub low : (j : ℕ) → j ≤ i → number_in ms j ≡ number_in ns j
  pub high : (j : ℕ) → i ≤ j → j < n → number_in ms (suc j) ≡ number_in ns j

pub moved_none : (ns : List ℕ) (n : ℕ) → Moved ns n n ns
moved_none ns n = record { size = refl; places = λ j l. refl; low = λ j l. refl; high = λ j l h. absurd (omega arith) }

-- a number stored in the order
module _ (ms : List ℕ) (k v : ℕ) where
  pub number_same : order_start + k < length ms → number_in (set ms (order_start + k) v) k ≡ v
  unfolding number_in
  number_same l = get_or-set_same ms (order_start + k) v 0 l

  pub number_other : (j : ℕ) → (j ≡ k → ⊥) → number_in (set ms (order_start + k) v) j ≡ number_in ms j
  unfolding number_in
  number_other j f = get_or-set_other ms (order_start + k) (order_start + j) v 0 (λ e. f (omega arith))

  places-kept : (j : ℕ) → j < most_rows → places_at (set ms (order_start + k) v) j ≡ places_at ms j
  places-kept j l = places-set ms (order_start + k) v j (omega arith)

module _ (ns : List ℕ) (n : ℕ) (ms : List ℕ) (few : n < most_rows) (all : length ns ≡ rows_size) where
  pub moved_step : (i : ℕ) → suc i ≤ n → Moved ns n (suc i) ms → Moved ns n i (set ms (order_start + suc i) (number_in ms i))
  moved_step i l m =
      record {
        size = length-set ms (order_start + suc i) (number_in ms i) ∙ m.size;
        places = λ j b. places-kept ms (suc i) (number_in ms i) j b ∙ m.places j b;
        low = λ j k. number_other ms (suc i) (number_in ms i) j (λ e. omega arith) ∙ m.low j (omega arith);
        high = λ j k b. by_test (eqb j i)
            (λ e. let f : j ≡ i = eqb-true j i e in
            rw f (number_same ms (suc i) (number_in ms i) (omega (arith, m.size)) ∙ m.low i (omega arith)))
            (λ e. number_other ms (suc i) (number_in ms i) (suc j) (λ f. eqb-false j i e (suc_inj f))
            ∙ m.high j (omega (arith, eqb-false j i e)) b);
      }

  pub moved-end : (k : ℕ) → k ≤ n → Moved ns n k ms → Opened ns n k (set ms (order_start + k) n)
  moved-end k l m =
      record {
        size = length-set ms (order_start + k) n ∙ m.size;
        places = λ j b. places-kept ms k n j b ∙ m.places j b;
        low = λ j b. number_other ms k n j (λ e. omega arith) ∙ m.low j (omega arith);
        here = number_same ms k n (omega (arith, m.size));
        high = λ j b c. number_other ms k n (suc j) (λ e. omega arith) ∙ m.high j b c;
      }

-- ---- keys in order with one more

module _ (K : ℕ → List ℕ) (n : ℕ) (q : List ℕ) (rising : RanksRise K n) (p : Place) (f : PlaceFound K n q p) where
  -- a key that is the text itself is the last that is not over it
  pub known_last : (i : ℕ) → i < n → K i ≡ q → (k : ℕ) × (suc k ≡ p.at) × (K k ≡ q)
  known_last i l e =
      let u : under (K i) q ≡ true = rw e (under_refl q) in
      by_test (ltb i p.at)
      (λ h. let b : i < p.at = ltb-true i p.at h in
      let k : ℕ = p.at - 1 in
      let v : under (K i) (K k) ≡ true = rising-under K n i k rising (omega arith) (omega (arith, f.most)) in
      (k, omega arith, under_both (K k) q (f.lows k (omega arith)) (rw e at v)))
      (λ h. true_not_false (under (K i) q) u (f.highs i (ltb-false i p.at h) l))

  module _ (new : (i : ℕ) → i < n → K i ≡ q → ⊥) (K' : ℕ → List ℕ)
      (low : (i : ℕ) → i < p.at → K' i ≡ K i) (here : K' p.at ≡ q) (high : (i : ℕ) → p.at ≤ i → i < n → K' (suc i) ≡ K i) where
    -- the text is over each key that is not over it
    over : (i : ℕ) → i < p.at → under q (K i) ≡ false
    over i l =
        by_test (under q (K i))
        (λ h. absurd (new i (omega (arith, f.most)) (under_both (K i) q (f.lows i l) h)))
        (λ h. h)

    pub rising-more : RanksRise K' (suc n)
    rising-more i j l h =
        by_test (ltb j p.at)
        (λ a. let b : j < p.at = ltb-true j p.at a in
        rw (low j b, low i (omega arith)) (rising i j l (omega (arith, f.most))))
        (λ a. by_test (eqb j p.at)
        (λ b. let e : j ≡ p.at = eqb-true j p.at b in
        rw (e, here, low i (omega arith)) (over i (omega arith)))
        (λ b. above i j (j - 1) (omega (arith, ltb-false j p.at a, eqb-false j p.at b)) (omega (arith, ltb-false j p.at a, eqb-false j p.at b)) l h))
      where
        above : (i j m : ℕ) → suc m ≡ j → p.at ≤ m → i < j → j < suc n → under (K' j) (K' i) ≡ false
        above i j m e k l h =
            let z : K' j ≡ K m = ap K' (sym e) ∙ high m k (omega arith) in
            by_test (ltb i p.at)
            (λ a. let b : i < p.at = ltb-true i p.at a in rw (z, low i b) (rising i m (omega arith) (omega arith)))
            (λ a. by_test (eqb i p.at)
            (λ b. let g : i ≡ p.at = eqb-true i p.at b in
            rw (z, g, here) (f.highs m k (omega arith)))
            (λ b. let x : ℕ = i - 1 in
            let g : suc x ≡ i = omega (arith, ltb-false i p.at a, eqb-false i p.at b) in
            let y : K' i ≡ K x = ap K' (sym g) ∙ high x (omega (arith, ltb-false i p.at a, eqb-false i p.at b)) (omega arith) in
            rw (z, y) (rising x m (omega arith) (omega arith))))

-- ---- texts that are equal, letter case aside, are spelt alike

module _ (sep : ℕ) (other : is_letter sep ≡ false) where
  ranked : ℕ → ℕ
  ranked f = cond (eqb f sep) 0 (suc f)

  byte : ℕ → ℕ
  byte zero = sep
  byte (suc f) = f

  spell_folded : (s : List ℕ) → spell sep s ≡ map ranked (fold_text s)
  unfolding spell fold_text rank ranked
  spell_folded [] = refl
  spell_folded (x ∷ s) = rw (fold_is sep other x, spell_folded s)

  folded_spell : (s : List ℕ) → fold_text s ≡ map byte (map ranked (fold_text s))
  unfolding fold_text ranked byte
  folded_spell [] = refl
  folded_spell (x ∷ s) =
      by_test (eqb (fold_case x) sep)
      (λ e. ap₂ (λ (a : ℕ) (l : List ℕ). a ∷ l) (rw (e, eqb-true (fold_case x) sep e)) (folded_spell s))
      (λ e. ap₂ (λ (a : ℕ) (l : List ℕ). a ∷ l) (rw e) (folded_spell s))

  same-spell : (s t : List ℕ) → same_text s t ≡ true → spell sep s ≡ spell sep t
  same-spell s t h = spell_folded s ∙ ap (map ranked) (same-path s t h) ∙ sym (spell_folded t)

  spell-same : (s t : List ℕ) → spell sep s ≡ spell sep t → same_text s t ≡ true
  spell-same s t h =
      same_of s t (folded_spell s ∙ ap (map byte) (sym (spell_folded s) ∙ h ∙ spell_folded t) ∙ sym (folded_spell t))

other_dot : is_letter 46 ≡ false
unfolding is_letter class.between
other_dot = refl

pub same-spelt : (k : Key) (s t : List ℕ) → same_text s t ≡ true → spell_by k s ≡ spell_by k t
unfolding spell_by separator read_by
same-spelt Domain s t h = same-spell 46 other_dot (reverse s) (reverse t) (same-reverse s t ∙ h)
same-spelt Path s t h = same-spell 9 tab_other s t h

pub spelt-same : (k : Key) (s t : List ℕ) → spell_by k s ≡ spell_by k t → same_text s t ≡ true
unfolding spell_by separator read_by
spelt-same Domain s t h = sym (same-reverse s t) ∙ spell-same 46 other_dot (reverse s) (reverse t) h
spelt-same Path s t h = spell-same 9 tab_other s t h

shared-all : (p q : List ℕ) → shared p q ≡ length p → length p ≡ length q → p ≡ q
unfolding shared
shared-all [] [] h l = refl
shared-all [] (b ∷ q) h l = absurd (omega arith)
shared-all (a ∷ p) [] h l = absurd (omega arith)
shared-all (a ∷ p) (b ∷ q) h l =
    by_test (eqb a b)
    (λ e. rw (eqb-true a b e, shared-all p q (suc_inj (rw e at h)) (suc_inj l)))
    (λ e. absurd (omega (arith, rw e at h)))

shared_self : (p : List ℕ) → shared p p ≡ length p
unfolding shared
shared_self [] = refl
shared_self (a ∷ p) = rw (eq-eqb a a refl, shared_self p)

-- ---- a row put behind the first n, and into their order

module _ (k : Key) (s ns : List ℕ) (n : ℕ) (p : line.Row.Row) (few : n < most_rows) (all : length ns ≡ rows_size) (own : RowInside s p) (sorted : Sorted k s ns n)
    (at : Place) (f : PlaceFound (ranks_in k s ns) n (spell_by k (key_text k s p)) at) where
  abbrev text : List ℕ
  text = key_text k s p

  -- the text of the key at place i
  key_is : (i : ℕ) → ranks_in k s ns i ≡ spell_by k text → same_text text (key_text k s (places_at ns (number_in ns i))) ≡ true
  unfolding ranks_in key_in
  key_is i e = spelt-same k text (key_text k s (places_at ns (number_in ns i))) (sym e)

  -- where the last key that is not over the row's is as long as it and shares all of it, it is the row's
  pub known : is_last k ns at (length text) ≡ true → is_new_key k s ns n p ≡ false
  unfolding is_last
  known t =
      let m : ℕ = at.at - 1 in
      let b = ltb-true 0 at.at (and_left (ltb 0 at.at) (eqb at.shared (length text) && eqb (key_size k ns m) (length text)) t) in
      let u = and_right (ltb 0 at.at) (eqb at.shared (length text) && eqb (key_size k ns m) (length text)) t in
      let l : m < n = omega (arith, f.most) in
      let h = eqb-true at.shared (length text) (and_left (eqb at.shared (length text)) (eqb (key_size k ns m) (length text)) u) in
      let z = (key_reached m sorted.ordered l).1 ∙ eqb-true (key_size k ns m) (length text) (and_right (eqb at.shared (length text)) (eqb (key_size k ns m) (length text)) u) in
      let e = shared-all (ranks_in k s ns m) (spell_by k text) (f.beside m (omega arith) ∙ h ∙ sym z) (z ∙ sym (by_length k text)) in
      known_key k s ns n p sorted.inside own (number_in ns m) (sorted.each m l) (key_is m e)

  module _ (off : is_last k ns at (length text) ≡ false) where
    fresh : (i : ℕ) → i < n → ranks_in k s ns i ≡ spell_by k text → ⊥
    unfolding is_last
    fresh i l e =
        let y = known_last (ranks_in k s ns) n (spell_by k text) (ranks_rise sorted.ordered) at f i l e in
        let z = by_length k text in
        let m : y.0 ≡ at.at - 1 = omega (arith, y.1) in
        let b : y.0 < n = omega (arith, y.1, f.most) in
        let h : at.shared ≡ length text = sym (f.beside y.0 y.1) ∙ ap (λ (t : List ℕ). shared t (spell_by k text)) y.2 ∙ shared_self (spell_by k text) ∙ z in
        let g : key_size k ns (at.at - 1) ≡ length text = ap (key_size k ns) (sym m) ∙ sym (key_reached y.0 sorted.ordered b).1 ∙ ap length y.2 ∙ z in
        true_not_false (ltb 0 at.at && (eqb at.shared (length text) && eqb (key_size k ns (at.at - 1)) (length text)))
        (rw (lt-ltb 0 at.at (omega (arith, y.1)), eq-eqb at.shared (length text) h, eq-eqb (key_size k ns (at.at - 1)) (length text) g)) off

    pub new : is_new_key k s ns n p ≡ true
    unfolding ranks_in key_in
    new =
        new-key k s ns n p sorted.inside own
        (λ j l. let y = sorted.every j l in
        by_test (same_text text (key_text k s (places_at ns j)))
        (λ e. absurd (fresh y.0 y.1 (rw y.2 (sym (same-spelt k text (key_text k s (places_at ns j)) e)))))
        (λ e. e))

    module _ (ms : List ℕ) (opened : Opened (put_at ns n p) n at.at ms) where
      -- the rows' places, and the numbers in their order
      low : (j : ℕ) → j < n → places_at ms j ≡ places_at ns j
      low j l = opened.places j (omega arith) ∙ places-before ns n p j l

      here : places_at ms n ≡ p
      here = opened.places n few ∙ places_put ns n p (omega arith)

      was : (i : ℕ) → number_in (put_at ns n p) i ≡ number_in ns i
      unfolding number_in
      was i = put_behind ns n p (order_start + i) (omega arith)

      -- the key of a number that was there
      keys : (i j : ℕ) → j < n → number_in ms i ≡ number_in ns j → ranks_in k s ms i ≡ ranks_in k s ns j
      unfolding ranks_in key_in
      keys i j l e =
          ap (λ (m : ℕ). spell_by k (key_text k s (places_at ms m))) e
          ∙ ap (λ (q : line.Row.Row). spell_by k (key_text k s q)) (low (number_in ns j) (sorted.each j l))

      own_key : ranks_in k s ms at.at ≡ spell_by k text
      unfolding ranks_in key_in
      own_key = ap (λ (m : ℕ). spell_by k (key_text k s (places_at ms m))) opened.here ∙ ap (λ (q : line.Row.Row). spell_by k (key_text k s q)) here

      number : (i : ℕ) → i < n + 1 → number_in ms i < n + 1
      number i l =
          by_test (ltb i at.at)
          (λ a. let b : i < at.at = ltb-true i at.at a in rw (opened.low i b ∙ was i) (omega (arith, sorted.each i (omega (arith, f.most)))))
          (λ a. by_test (eqb i at.at)
          (λ b. rw (eqb-true i at.at b, opened.here) (omega arith))
          (λ b. let x : ℕ = i - 1 in
          let e : suc x ≡ i = omega (arith, ltb-false i at.at a, eqb-false i at.at b) in
          let c : x < n = omega arith in
          let d : number_in ms i ≡ number_in ns x = ap (number_in ms) (sym e) ∙ opened.high x (omega (arith, ltb-false i at.at a, eqb-false i at.at b)) c ∙ was x in
          rw d (omega (arith, sorted.each x c))))

      place : (m : ℕ) → m < n + 1 → (i : ℕ) × (i < n + 1) × (number_in ms i ≡ m)
      place m l =
          by_test (eqb m n)
          (λ a. (at.at, omega (arith, f.most), opened.here ∙ sym (eqb-true m n a)))
          (λ a. let y = sorted.every m (omega (arith, eqb-false m n a)) in
          by_test (ltb y.0 at.at)
          (λ b. (y.0, omega (arith, y.1), opened.low y.0 (ltb-true y.0 at.at b) ∙ was y.0 ∙ y.2))
          (λ b. (suc y.0, omega (arith, y.1), opened.high y.0 (ltb-false y.0 at.at b) y.1 ∙ was y.0 ∙ y.2)))

      size : length ms ≡ rows_size
      size = opened.size ∙ length_put ns n p ∙ all

      inside : Inside s ms (n + 1)
      inside = inside_put s ns n p ms low here (omega (arith, size)) sorted.inside own

      pub joins : Joins k s ns n p ms
      joins =
          record {
            rows = rows_put s ns n p ms low here;
            sorted =
                record {
                  inside = inside;
                  ordered = record {
                    few = omega arith;
                    room = omega (arith, size);
                    rows = λ i l. omega (arith, number i l, size);
                    inside = λ i l. inside.each (number_in ms i) (number i l);
                    rising =
                        tokens_rise k s ms (n + 1)
                        (rw add-one
                        (rising-more (ranks_in k s ns) n (spell_by k text) (ranks_rise sorted.ordered) at f fresh (ranks_in k s ms)
                        (λ i l. keys i i (omega (arith, f.most)) (opened.low i l ∙ was i)) own_key
                        (λ i l h. keys (suc i) i h (opened.high i l h ∙ was i))));
                  };
                  each = number;
                  every = place;
                };
          }
