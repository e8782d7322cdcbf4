-- Laws of the additions: what stops them, what the attributes that were added keep, and a step of each loop.
-- Assumes nothing.
use mathlib.Core.Path.{◌≡◌, refl, sym, ap, ap₂, ◌∙◌}
use Prim.Native.Nat.{ℕ, zero, suc, ◌+◌, ◌≤◌, ◌<◌}
use native.Mathlib.Numerals.{add-one}
use native.Mathlib.Omega.{arith}
use mathlib.Core.Bool.{Bool, true, false, not, ◌&&◌, ◌||◌, cond, and-false, or-false}
use mathlib.Core.List.{List, [], ◌∷◌, map, reverse, reverse-append, map-append}
use mathlib.Core.Option.{Option, none, some}
use borrow.Author.Tests.{eqb-true, eq-eqb, ltb-true, ne_eqb}
use lib.Dec.{eqb, ltb}
use lib.ListN.{length, take, drop, get_or}
use lib.Seq.{drop-cons, take-suc}
use Rattle.chars.specs.Lists.{non_empty}
use Rattle.chars.proofs.Laws.Lists.{and_both, and_left, and_right, by_test, or_left, or_right, true_not_false}
use Rattle.chars.proofs.Laws.Seq.{some-length}
use Rattle.oraddr.specs.Attributes.{Dd}
use Rattle.oraddr.specs.Bounds.{dd_type, dd_value, G, I, O, OU, S, bound_of, is_value, most, rule, single_count}
use Rattle.oraddr.specs.Canonical.{all_kept, is_dd, is_unit, kept}
use Rattle.oraddr.specs.Add.{Outcome, add_dd, add_single, add_unit, number_of, outcome, push_dd, push_unit, told}
use Rattle.oraddr.specs.declared.add.Added.TheVariants.{Done, Refused}
use Rattle.oraddr.specs.declared.add.Addition.{Addition}
use Rattle.oraddr.specs.View.{value_of}
use Rattle.oraddr.specs.declared.record.Record.{Record}
use Rattle.oraddr.proofs.Laws.View.{outcome-done, outcome-refused, rule-length, value-length}
use Rattle.ortext_name.specs.Name.{Name, read_name}
use Rattle.ortext_build.specs.Adding.{add_dds, add_singles, add_units, and_then, add_held, add_name, add_pn, done, held_dds, held_singles, held_units, start}
use Rattle.ortext_segments.specs.Keys.{pn_key}
use Rattle.ortext_named.specs.Named.{place_at}
use Rattle.ortext_named.specs.declared.named.Named.{Named}
use Rattle.ortext_name.proofs.Laws.Name.{name_length}

-- ---- one value and those that follow

pub singles_some : (k : ℕ) (v : List ℕ) (vs : List (List ℕ)) (o : Outcome) → non_empty v ≡ true → add_singles k (v ∷ vs) o ≡ add_singles (suc k) vs (and_then o (λ r. add_single r k v))
unfolding add_singles
singles_some k v vs o e = ap (λ b. add_singles (suc k) vs (cond b (and_then o (λ r. add_single r k v)) o)) e

pub singles_skip : (k : ℕ) (v : List ℕ) (vs : List (List ℕ)) (o : Outcome) → non_empty v ≡ false → add_singles k (v ∷ vs) o ≡ add_singles (suc k) vs o
unfolding add_singles
singles_skip k v vs o e = ap (λ b. add_singles (suc k) vs (cond b (and_then o (λ r. add_single r k v)) o)) e

pub single-none : (r : Record) (k : ℕ) (v : List ℕ) → v ≡ [] → start r ≡ add_singles k (v ∷ []) (start r)
unfolding add_singles non_empty
single-none r k v e = rw e

pub singles_cons : (k : ℕ) (v : List ℕ) (vs : List (List ℕ)) (o : Outcome) → add_singles k (v ∷ vs) o ≡ add_singles (suc k) vs (add_singles k (v ∷ []) o)
unfolding add_singles
singles_cons k v vs o = refl

-- ---- what an addition told

pub told-done : (a : Addition) → a.answer ≡ Done → told a ≡ start a.«record»
told-done a e = ap (λ x. record { number = number_of x; record' = a.«record» }) e

pub told-refused : (a : Addition) → a.answer ≡ Refused → eqb (told a).number 0 ≡ false
told-refused a e = ap (λ x. eqb (number_of x) 0) e

-- ---- after a refusal nothing is added

pub singles_stop : (k : ℕ) (vs : List (List ℕ)) (o : Outcome) → eqb o.number 0 ≡ false → add_singles k vs o ≡ o
unfolding add_singles and_then
singles_stop k [] o h = refl
singles_stop k (v ∷ vs) o h = by_test (non_empty v) (λ e. rw (e, h) (singles_stop (suc k) vs o h)) (λ e. rw e (singles_stop (suc k) vs o h))

pub units_stop : (vs : List (List ℕ)) (o : Outcome) → eqb o.number 0 ≡ false → add_units vs o ≡ o
unfolding add_units and_then
units_stop [] o h = refl
units_stop (v ∷ vs) o h = rw h (units_stop vs o h)

pub dds_stop : (ds : List Dd) (o : Outcome) → eqb o.number 0 ≡ false → add_dds ds o ≡ o
unfolding add_dds and_then
dds_stop [] o h = refl
dds_stop (d ∷ ds) o h = rw h (dds_stop ds o h)

-- ---- a value over its bound is refused

pub not-kept : (b : Bool) → (b ≡ true → ⊥) → b ≡ false
not-kept b f = by_test b (λ e. absurd (f e)) (λ e. e)

add_long : (r : Record) (k : ℕ) (v : List ℕ) → k < single_count → bound_of O < length v → add_single r k v ≡ record { number = 4; record' = r }
unfolding add_single
add_long r k v l h =
    outcome-refused (rule k v && eqb (get_or r.singles.values k (value_of [])).len 0) _ r
    (ap (λ b. b && eqb (get_or r.singles.values k (value_of [])).len 0) (not-kept (rule k v) (λ e. omega (arith, rule-length k v e l))))

pub single_long : (r : Record) (k : ℕ) (v : List ℕ) → k < single_count → bound_of O < length v → record { number = 4; record' = r } ≡ add_singles k (v ∷ []) (start r)
unfolding add_singles and_then
single_long r k v l h = sym (singles_some k v [] (start r) (some-length v (omega arith)) ∙ add_long r k v l h)

pub unit_long : (r : Record) (v : List ℕ) → bound_of OU < length v → record { number = 4; record' = r } ≡ add_unit r v
unfolding add_unit outcome is_unit
unit_long r v h = rw (not-kept (is_value OU v) (λ e. omega (arith, value-length OU v e)))

pub kind_long : (r : Record) (t v : List ℕ) → bound_of dd_type < length t → record { number = 4; record' = r } ≡ add_dd r t v
unfolding add_dd outcome is_dd
kind_long r t v h = rw (not-kept (is_value dd_type t) (λ e. omega (arith, value-length dd_type t e)))

pub dd_long : (r : Record) (t v : List ℕ) → bound_of dd_value < length v → record { number = 4; record' = r } ≡ add_dd r t v
unfolding add_dd outcome is_dd
dd_long r t v h = rw (not-kept (is_value dd_value v) (λ e. omega (arith, value-length dd_value v e)), and-false)

-- ---- what was added keeps the rules

outcome-kept : (t : Bool) (new old : Record) → (outcome t new old).number ≡ 0 → t ≡ true
unfolding outcome
outcome-kept true new old h = refl
outcome-kept false new old h = absurd (omega arith)

pub then_done : (o : Outcome) (f : Record → Outcome) → (and_then o f).number ≡ 0 → (o.number ≡ 0) × ((f o.record').number ≡ 0)
unfolding and_then
then_done o f h =
    by_test (eqb o.number 0)
    (λ e. (eqb-true o.number 0 e, rw e at h))
    (λ e. let z : o.number ≡ 0 = rw e at h in true_not_false (eqb o.number 0) (eq-eqb o.number 0 z) e)

pub then_is : (o : Outcome) (f : Record → Outcome) → o.number ≡ 0 → and_then o f ≡ f o.record'
unfolding and_then
then_is o f h = rw (eq-eqb o.number 0 h)

pub singles_kept : (k : ℕ) (vs : List (List ℕ)) (o : Outcome) → (add_singles k vs o).number ≡ 0 → (o.number ≡ 0) × (all_kept k vs ≡ true)
unfolding add_singles all_kept kept
singles_kept k [] o h = (h, refl)
singles_kept k (v ∷ vs) o h =
    by_test (non_empty v)
    (λ e. let i = singles_kept (suc k) vs (and_then o (λ r. add_single r k v)) (ap (λ p. p.number) (sym (singles_some k v vs o e)) ∙ h) in
    let t = then_done o (λ r. add_single r k v) i.0 in
    let there = eqb (get_or o.record'.singles.values k (value_of [])).len 0 in
    let q = and_left (rule k v) there (outcome-kept (rule k v && there) _ o.record' t.1) in
    (t.0, and_both {a = kept k v} (or_right (not (non_empty v)) (rule k v) q) i.1))
    (λ e. let i = singles_kept (suc k) vs o (ap (λ p. p.number) (sym (singles_skip k v vs o e)) ∙ h) in (i.0, and_both {a = kept k v} (or_left (not (non_empty v)) (rule k v) (ap not e)) i.1))

-- A record has four units at most, and four DDs. One more addition, and those that follow:
one_more : (n count next : ℕ) → next ≡ count + 1 → count < most → (0 < n → next + n ≤ most) → count + suc n ≤ most
one_more zero count next e h f = omega arith
one_more (suc n) count next e h f = omega (arith, f (omega arith))

pub units-few : (vs : List (List ℕ)) (o : Outcome) → (add_units vs o).number ≡ 0 → (o.number ≡ 0) × (0 < length vs → o.record'.units.count + length vs ≤ most)
unfolding add_units add_unit push_unit
units-few [] o h = (h, λ l. absurd (omega arith))
units-few (v ∷ vs) o h =
    let add : Record → Outcome = λ r. add_unit r v in
    let i = units-few vs (and_then o add) h in
    let t = then_done o add i.0 in
    let count = o.record'.units.count in
    let q = outcome-kept (is_unit v && ltb count most) _ o.record' t.1 in
    let next : (and_then o add).record'.units.count ≡ count + 1 = ap (λ p. p.record'.units.count) (then_is o add t.0 ∙ outcome-done (is_unit v && ltb count most) _ o.record' q) in
    (t.0, λ l. one_more (length vs) count (and_then o add).record'.units.count next (ltb-true count most (and_right (is_unit v) (ltb count most) q)) i.1)

pub dds-few : (ds : List Dd) (o : Outcome) → (add_dds ds o).number ≡ 0 → (o.number ≡ 0) × (0 < length ds → o.record'.dds.count + length ds ≤ most)
unfolding add_dds add_dd push_dd
dds-few [] o h = (h, λ l. absurd (omega arith))
dds-few (d ∷ ds) o h =
    let add : Record → Outcome = λ r. add_dd r d.kind d.value in
    let i = dds-few ds (and_then o add) h in
    let t = then_done o add i.0 in
    let count = o.record'.dds.count in
    let q = outcome-kept (is_dd (record { kind = d.kind; value = d.value }) && ltb count most) _ o.record' t.1 in
    let next : (and_then o add).record'.dds.count ≡ count + 1 = ap (λ p. p.record'.dds.count) (then_is o add t.0 ∙ outcome-done (is_dd (record { kind = d.kind; value = d.value }) && ltb count most) _ o.record' q) in
    (t.0, λ l. one_more (length ds) count (and_then o add).record'.dds.count next (ltb-true count most (and_right (is_dd (record { kind = d.kind; value = d.value })) (ltb count most) q)) i.1)

-- ---- a step of each loop

module _ {A : Type 0} (f : A → List ℕ) (d : A) where
  pub singles_next : (k : ℕ) (l : List A) (o : Outcome) → k < length l → add_singles k (map f (drop k l)) o ≡ add_singles (k + 1) (map f (drop (k + 1) l)) (add_singles k (f (get_or l k d) ∷ []) o)
  unfolding add_singles
  singles_next k l o h = rw (add-one, drop-cons l k d)

  pub units_next : (i : ℕ) (l : List A) (o : Outcome) → i < length l
      → add_units (reverse (map f (take (suc i) l))) o ≡ add_units (reverse (map f (take i l))) (and_then o (λ r. add_unit r (f (get_or l i d))))
  unfolding add_units
  units_next i l o h = rw (take-suc l i d, map-append, reverse-append)

pub dds_next : {A : Type 0} (f : A → Dd) (d : A) (i : ℕ) (l : List A) (o : Outcome) → i < length l
    → add_dds (map f (drop i l)) o ≡ add_dds (map f (drop (i + 1) l)) (and_then o (λ r. add_dd r (f (get_or l i d)).kind (f (get_or l i d)).value))
unfolding add_dds
dds_next f d i l o h = rw (add-one, drop-cons l i d)

-- ---- the pieces of a name, one after the other

pub name_next : (r : Record) (n : Name) (o : Outcome) → o ≡ add_singles S (n.surname ∷ []) (start r) → add_name r (some n) ≡ add_singles G (n.given ∷ n.initials ∷ []) o
unfolding add_name
name_next r n o e = singles_cons S n.surname (n.given ∷ n.initials ∷ []) (start r) ∙ ap (add_singles G (n.given ∷ n.initials ∷ [])) (sym e)

pub name_last : (r : Record) (n : Name) (o p : Outcome) → o ≡ add_singles S (n.surname ∷ []) (start r) → p ≡ add_singles G (n.given ∷ []) o → add_name r (some n) ≡ add_singles I (n.initials ∷ []) p
name_last r n o p e f = name_next r n o e ∙ singles_cons G n.given (n.initials ∷ []) o ∙ ap (add_singles I (n.initials ∷ [])) (sym f)

-- ---- a name too long for its pieces

rule_value : (k : ℕ) (v : List ℕ) → 1 < k → rule k v ≡ (is_value k v || false)
unfolding rule
rule_value k v l = rw (ne_eqb k 0 (λ e. omega arith), ne_eqb k 1 (λ e. omega arith))

kept-length : (k : ℕ) (v : List ℕ) → 1 < k → kept k v ≡ true → length v ≤ bound_of k
unfolding kept non_empty
kept-length k [] l h = omega arith
kept-length k (x ∷ v) l h = value-length k (x ∷ v) (sym (rule_value k (x ∷ v) l ∙ or-false (is_value k (x ∷ v))) ∙ h)

name_none : (r : Record) → none ≡ done (add_name r none)
unfolding add_name done
name_none r = refl

-- the pieces of a name that was added are within their bounds
name_some : (r : Record) (n : Name) → (length n.given ≤ bound_of G → length n.initials ≤ bound_of I → length n.surname ≤ bound_of S → ⊥) → none ≡ done (add_name r (some n))
unfolding add_name done all_kept
name_some r n f =
    by_test (eqb (add_name r (some n)).number 0)
    (λ e. let k = (singles_kept S (n.surname ∷ n.given ∷ n.initials ∷ []) (start r) (eqb-true _ 0 e)).1 in
    let b = kept G n.given && (kept I n.initials && true) in
    let s = and_left (kept S n.surname) b k in
    let j = and_right (kept S n.surname) b k in
    let g = and_left (kept G n.given) (kept I n.initials && true) j in
    let i = and_left (kept I n.initials) true (and_right (kept G n.given) (kept I n.initials && true) j) in
    absurd (f (kept-length G n.given (omega arith) g) (kept-length I n.initials (omega arith) i) (kept-length S n.surname (omega arith) s)))
    (λ e. rw e)

pub name_long : (r : Record) (t : List ℕ) → bound_of dd_value < length t → none ≡ done (add_name r (read_name t))
name_long r t h = long (read_name t) refl
  where
    long : (o : Option Name) → read_name t ≡ o → none ≡ done (add_name r o)
    long none e = name_none r
    long (some n) e = name_some r n (λ g i s. omega (arith, name_length t n e))

-- ---- all that is held

done_is : (o : Outcome) (r : Record) → done o ≡ some r → o ≡ start r
unfolding done
done_is o r h =
    by_test (eqb o.number 0)
    (λ e. let p : ◌≡◌ {A = Option Record} (some o.record') (some r) = rw e at h in
    let q : o.record' ≡ r = cc in ap₂ (λ n x. record { number = n; record' = x }) (eqb-true o.number 0 e) q)
    (λ e. let p : ◌≡◌ {A = Option Record} none (some r) = rw e at h in
    let z : ◌≡◌ {A = ℕ} 0 1 = cc in absurd (omega arith))

done-not : (o : Outcome) → done o ≡ none → eqb o.number 0 ≡ false
unfolding done
done-not o h =
    by_test (eqb o.number 0)
    (λ e. let p : ◌≡◌ {A = Option Record} (some o.record') none = rw e at h in
    let z : ◌≡◌ {A = ℕ} 0 1 = cc in absurd (omega arith))
    (λ e. e)

pub told-some : (a : Addition) → a.answer ≡ Done → done (told a) ≡ some a.«record»
unfolding done
told-some a e = ap done (told-done a e)

pub told_none : (a : Addition) → a.answer ≡ Refused → done (told a) ≡ none
unfolding done
told_none a e = rw (told-refused a e)

module _ (s : List ℕ) (m : Named) (r : Record) (o : Outcome) (e : o ≡ add_singles 0 (held_singles s m) (start r)) where
  pub held_stop : eqb o.number 0 ≡ false → o ≡ add_held s m r
  unfolding add_held and_then
  held_stop h =
      sym (ap (λ x. add_dds (held_dds s m) (add_units (held_units s m) (and_then x (add_pn s (place_at m pn_key))))) (sym e)
      ∙ ap (λ x. add_dds (held_dds s m) (add_units (held_units s m) x)) (rw h)
      ∙ ap (add_dds (held_dds s m)) (units_stop (held_units s m) o h) ∙ dds_stop (held_dds s m) o h)

  module _ (q : Record) (g : o ≡ start q) where
    pub held_next : add_held s m r ≡ add_dds (held_dds s m) (add_units (held_units s m) (add_pn s (place_at m pn_key) q))
    unfolding add_held and_then
    held_next = ap (λ x. add_dds (held_dds s m) (add_units (held_units s m) (and_then x (add_pn s (place_at m pn_key))))) (sym e ∙ g)

    pub held_pn_stop : done (add_pn s (place_at m pn_key) q) ≡ none → add_pn s (place_at m pn_key) q ≡ add_held s m r
    held_pn_stop h =
        let x = add_pn s (place_at m pn_key) q in
        let n = done-not x h in
        sym (held_next ∙ ap (add_dds (held_dds s m)) (units_stop (held_units s m) x n) ∙ dds_stop (held_dds s m) x n)

    pub held_pn : (p : Record) → done (add_pn s (place_at m pn_key) q) ≡ some p → add_held s m r ≡ add_dds (held_dds s m) (add_units (held_units s m) (start p))
    held_pn p h = held_next ∙ ap (λ x. add_dds (held_dds s m) (add_units (held_units s m) x)) (done_is (add_pn s (place_at m pn_key) q) p h)
