-- Records as they are made here: the empty one, and those that additions give. Two of them that hold the same attributes are equal.
-- Assumes nothing.
use mathlib.Core.Path.{◌≡◌, refl, sym, ap, ap₂, ◌∙◌}
use mathlib.Core.Bool.{Bool, true, false, ◌&&◌}
use mathlib.Core.List.{List, [], ◌∷◌, ◌++◌, map}
use Prim.Native.Nat.{ℕ, zero, suc, ◌+◌, ◌≤◌, ◌<◌}
use native.Mathlib.Nat.{suc-ne-zero}
use native.Mathlib.Numerals.{add-one}
use native.Mathlib.Omega.{arith}
use lib.Dec.{eqb, leb, ltb}
use borrow.Author.Tests.{eq-eqb, eqb-true, le-leb, leb-true, lt-ltb, ltb-true}
use lib.ListN.{length, drop, get_or, replicate, take, set, length-drop, length-map, length-set, length-take, take-append-drop}
use lib.Seq.{drop-drop, drop-set-lt, take-suc-set}
use Rattle.chars.specs.Lists.{all}
use Rattle.chars.specs.Write.{front}
use Rattle.chars.proofs.Laws.Lists.{all-and, all_append, all_drop, all_weaken, and_both, and_left, and_right, and-three}
use Rattle.chars.proofs.Laws.Seq.{map-drop}
use Rattle.oraddr.specs.Add.{add_dd, add_single, add_unit, outcome, push_dd, push_unit, set_single}
use Rattle.oraddr.specs.Attributes.{no_dd, single_of}
use Rattle.oraddr.specs.Bounds.{dd_type, dd_value, O, OU, bound_of, is_value, most, rule, single_count}
use Rattle.oraddr.specs.Canonical.{is_dd, is_unit}
use Rattle.oraddr.specs.View.{clean, clean_dd, clean_dds, clean_singles, clean_text, clean_units, dd_in_range, dd_view, dds_in_range, dds_view, domain_defined_of, empty_record, held_text, in_range, OrgUnit, org_unit_of, singles_in_range, singles_view, text_in_range, text_of, unit_view, units_in_range, units_view, value_of, value_view, view}
use Rattle.oraddr.specs.declared.record.Record.{Record}
use Rattle.oraddr.specs.declared.value.DomainDefined.{DomainDefined}
use Rattle.oraddr.specs.declared.value.Text.{Text}
use Rattle.oraddr.proofs.Laws.Text.{length_made, made_clean}
use Rattle.oraddr.proofs.Laws.View.{outcome_keeps, rule-length, single_view, value-length, view_push_dd, view_push_unit, view-set-single}

-- ---- the shape of a record

-- the arrays are as long as their types say
pub record Shaped (r : Record) : Type 0 where
  pub values : length r.singles.values ≡ single_count
  pub names : length r.units.names ≡ most
  pub items : length r.dds.items ≡ most

-- the rooms too
unfoldable pub text_room : {n : ℕ} → Text n → Bool
text_room {n} t = eqb (length t.bytes) n

unfoldable pub dd_room : DomainDefined → Bool
unfolding text_room
dd_room d = text_room d.kind && text_room d.value

pub record Roomy (r : Record) : Type 0 where
  pub values : all text_room r.singles.values ≡ true
  pub names : all text_room r.units.names ≡ true
  pub items : all dd_room r.dds.items ≡ true

-- a record as it is made here: the arrays and rooms have their lengths, no length or count is out of range, and all else is 0
pub record Made (r : Record) : Type 0 where
  pub shaped : Shaped r
  pub roomy : Roomy r
  pub ranged : in_range r ≡ true
  pub cleaned : clean r ≡ true

pub made_empty : Made empty_record
unfolding text_room dd_room in_range singles_in_range units_in_range dds_in_range clean clean_singles clean_units clean_dds clean_dd clean_text all front text_of domain_defined_of
made_empty = record { shaped = record { values = refl; names = refl; items = refl }; roomy = record { values = refl; names = refl; items = refl }; ranged = refl; cleaned = refl }

-- ---- a record stays as it is made here

module _ {A : Type 0} where
  all_set : (p : A → Bool) (l : List A) (k : ℕ) (x : A) → all p l ≡ true → p x ≡ true → all p (set l k x) ≡ true
  unfolding all
  all_set p [] k x h e = refl
  all_set p (y ∷ l) zero x h e = and_both e (and_right (p y) (all p l) h)
  all_set p (y ∷ l) (suc k) x h e = and_both (and_left (p y) (all p l) h) (all_set p l k x (and_right (p y) (all p l) h) e)

  -- one more behind the first n: within the count and range
  push_ranged : (p : A → Bool) (l : List A) (n : ℕ) (x : A) → n < most → length l ≡ most
      → (leb n most && all p (take n l)) ≡ true → p x ≡ true → (leb (n + 1) most && all p (take (n + 1) (set l n x))) ≡ true
  unfolding all
  push_ranged p l n x h m e f =
      and_both (le-leb (n + 1) most (omega arith))
      (rw (add-one, take-suc-set l n x (omega arith))
      (all_append p (take n l) (x ∷ []) ∙ and_both (and_right (leb n most) (all p (take n l)) e) (and_both f refl)))

  -- and clean, with the places past it
  push_clean : (q z : A → Bool) (l : List A) (n : ℕ) (x : A)
      → (all q l && all z (drop n l)) ≡ true → q x ≡ true → (all q (set l n x) && all z (drop (n + 1) (set l n x))) ≡ true
  push_clean q z l n x e f =
      and_both (all_set q l n x (and_left (all q l) (all z (drop n l)) e) f)
      (rw (drop-set-lt (n + 1) l n x (omega arith), ← drop-drop 1 n l) (all_drop z 1 (drop n l) (and_right (all q l) (all z (drop n l)) e)))

room_made : {n : ℕ} (s : List ℕ) → length s ≤ n → text_room (text_of n s) ≡ true
unfolding text_room text_of
room_made {n} s h = eq-eqb (length (front s (replicate n 0))) n (length_made s n h)

range_made : {n : ℕ} (s : List ℕ) → length s ≤ n → text_in_range (text_of n s) ≡ true
unfolding text_of
range_made {n} s h = le-leb (length s) n h

module _ (r : Record) (m : Made r) where
  ranges : (singles_in_range r.singles ≡ true) × (units_in_range r.units ≡ true) × (dds_in_range r.dds ≡ true)
  unfolding in_range
  ranges = and-three (singles_in_range r.singles) (units_in_range r.units) (dds_in_range r.dds) m.ranged

  cleans : (clean_singles r.singles ≡ true) × (clean_units r.units ≡ true) × (clean_dds r.dds ≡ true)
  unfolding clean
  cleans = and-three (clean_singles r.singles) (clean_units r.units) (clean_dds r.dds) m.cleaned

  set_made : (k : ℕ) (v : List ℕ) → length v ≤ bound_of O → Made (record { singles = set_single r.singles k v; units = r.units; dds = r.dds })
  unfolding set_single in_range singles_in_range clean clean_singles
  set_made k v h = record {
    shaped = record { values = length-set r.singles.values k (value_of v) ∙ m.shaped.values; names = m.shaped.names; items = m.shaped.items };
    roomy = record { values = all_set text_room r.singles.values k (value_of v) m.roomy.values (room_made v h); names = m.roomy.names; items = m.roomy.items };
    ranged = and_both (and_both (all_set text_in_range r.singles.values k (value_of v) ranges.0 (range_made v h)) ranges.1) ranges.2;
    cleaned = and_both (and_both (all_set clean_text r.singles.values k (value_of v) cleans.0 (made_clean (bound_of O) v)) cleans.1) cleans.2;
  }

  unit_made : (v : List ℕ) → r.units.count < most → length v ≤ bound_of OU → Made (record { singles = r.singles; units = push_unit r.units v; dds = r.dds })
  unfolding push_unit in_range units_in_range clean clean_units
  unit_made v l h = record {
    shaped = record { values = m.shaped.values; names = length-set r.units.names r.units.count (org_unit_of v) ∙ m.shaped.names; items = m.shaped.items };
    roomy = record { values = m.roomy.values; names = all_set text_room r.units.names r.units.count (org_unit_of v) m.roomy.names (room_made v h); items = m.roomy.items };
    ranged = and_both (and_both ranges.0 (push_ranged text_in_range r.units.names r.units.count (org_unit_of v) l m.shaped.names ranges.1 (range_made v h))) ranges.2;
    cleaned = and_both (and_both cleans.0 (push_clean clean_text (λ w. eqb w.len 0) r.units.names r.units.count (org_unit_of v) cleans.1 (made_clean (bound_of OU) v))) cleans.2;
  }

  dd_made : (t v : List ℕ) → r.dds.count < most → length t ≤ bound_of dd_type → length v ≤ bound_of dd_value → Made (record { singles = r.singles; units = r.units; dds = push_dd r.dds (domain_defined_of t v) })
  unfolding push_dd domain_defined_of dd_room in_range dds_in_range dd_in_range clean clean_dds clean_dd
  dd_made t v l g h = record {
    shaped = record { values = m.shaped.values; names = m.shaped.names; items = length-set r.dds.items r.dds.count (domain_defined_of t v) ∙ m.shaped.items };
    roomy = record { values = m.roomy.values; names = m.roomy.names; items = all_set dd_room r.dds.items r.dds.count (domain_defined_of t v) m.roomy.items (and_both (room_made t g) (room_made v h)) };
    ranged = and_both (and_both ranges.0 ranges.1) (push_ranged dd_in_range r.dds.items r.dds.count (domain_defined_of t v) l m.shaped.items ranges.2 (and_both (range_made t g) (range_made v h)));
    cleaned = and_both (and_both cleans.0 cleans.1) (push_clean clean_dd (λ i. eqb i.kind.len 0 && eqb i.value.len 0) r.dds.items r.dds.count (domain_defined_of t v) cleans.2 (and_both (made_clean (bound_of dd_type) t) (made_clean (bound_of dd_value) v)));
  }

  pub made_single : (k : ℕ) (v : List ℕ) → k < single_count → Made (add_single r k v).record'
  unfolding add_single
  made_single k v l =
      let free = eqb (get_or r.singles.values k (value_of [])).len 0 in
      outcome_keeps Made (rule k v && free) (record { singles = set_single r.singles k v; units = r.units; dds = r.dds }) r
      (λ e. set_made k v (rule-length k v (and_left (rule k v) free e) l))
      m

  pub made_unit : (v : List ℕ) → Made (add_unit r v).record'
  unfolding add_unit is_unit
  made_unit v =
      let free = ltb r.units.count most in
      outcome_keeps Made (is_unit v && free) (record { singles = r.singles; units = push_unit r.units v; dds = r.dds }) r
      (λ e. unit_made v (ltb-true r.units.count most (and_right (is_unit v) free e)) (value-length OU v (and_left (is_unit v) free e)))
      m

  pub made_dd : (t v : List ℕ) → Made (add_dd r t v).record'
  unfolding add_dd is_dd
  made_dd t v =
      let free = ltb r.dds.count most in
      let dd = is_dd (record { kind = t; value = v }) in
      outcome_keeps Made (dd && free) (record { singles = r.singles; units = r.units; dds = push_dd r.dds (domain_defined_of t v) }) r
      (λ e. dd_made t v (ltb-true r.dds.count most (and_right dd free e))
      (value-length dd_type t (and_left (is_value dd_type t) (is_value dd_value v) (and_left dd free e)))
      (value-length dd_value v (and_right (is_value dd_type t) (is_value dd_value v) (and_left dd free e))))
      m

-- ---- two of them that hold the same attributes are equal

-- a text in its room, the bytes past it 0
abbrev fit : {n : ℕ} → Text n → Bool
fit t = text_room t && text_in_range t && clean_text t

zeros_path : (s : List ℕ) → all (λ x. eqb x 0) s ≡ true → s ≡ replicate (length s) 0
unfolding all
zeros_path [] h = refl
zeros_path (x ∷ s) h =
    ap₂ (λ y t. y ∷ t)
    (eqb-true x 0 (and_left (eqb x 0) (all (λ x. eqb x 0) s) h))
    (zeros_path s (and_right (eqb x 0) (all (λ x. eqb x 0) s) h))

-- two rooms with the same text, and as much past it
room_path : {n : ℕ} (v w : Text n) → clean_text v ≡ true → clean_text w ≡ true → held_text v ≡ held_text w → length (drop v.len v.bytes) ≡ length (drop w.len w.bytes) → v.bytes ≡ w.bytes
unfolding clean_text
room_path v w h k e past =
    sym (take-append-drop v.len v.bytes)
    ∙ ap₂ (λ s t. s ++ t) e (zeros_path (drop v.len v.bytes) h ∙ ap (λ i. replicate i 0) past ∙ sym (zeros_path (drop w.len w.bytes) k))
    ∙ take-append-drop w.len w.bytes

-- the text tells the length and the whole room
text_path : {n : ℕ} (v w : Text n) → fit v ≡ true → fit w ≡ true → held_text v ≡ held_text w → v ≡ w
unfolding text_room
text_path {n} v w h k e =
    let p = and-three (text_room v) (text_in_range v) (clean_text v) h in
    let q = and-three (text_room w) (text_in_range w) (clean_text w) k in
    let lb : length v.bytes ≡ n = eqb-true (length v.bytes) n p.0 in
    let lc : length w.bytes ≡ n = eqb-true (length w.bytes) n q.0 in
    let ln : v.len ≤ n = leb-true v.len n p.1 in
    let lm : w.len ≤ n = leb-true w.len n q.1 in
    let same : v.len ≡ w.len = omega (arith, length-take v.len v.bytes, length-take w.len w.bytes, ap length e) in
    ap₂ (λ l b. record { len = l; bytes = b }) same
    (room_path v w p.2 q.2 e (omega (arith, length-drop v.len v.bytes, length-drop w.len w.bytes)))

module _ {A B : Type 0} (f : A → B) where
  -- lists of what f tells apart
  map-path : (p : A → Bool) → ((x y : A) → p x ≡ true → p y ≡ true → f x ≡ f y → x ≡ y) → (s t : List A) → all p s ≡ true → all p t ≡ true → map f s ≡ map f t → s ≡ t
  unfolding all
  map-path p g [] [] h k e = refl
  map-path p g [] (y ∷ t) h k e = absurd (suc-ne-zero (length (map f t)) (sym (ap length e)))
  map-path p g (x ∷ s) [] h k e = absurd (suc-ne-zero (length (map f s)) (ap length e))
  map-path p g (x ∷ s) (y ∷ t) h k e =
      let first : f x ≡ f y = cc in
      let rest : map f s ≡ map f t = cc in
      ap₂ (λ a l. a ∷ l)
      (g x y (and_left (p x) (all p s) h) (and_left (p y) (all p t) k) first)
      (map-path p g s t (and_right (p x) (all p s) h) (and_right (p y) (all p t) k) rest)

  module _ (z : A → Bool) (d : B) (zero-view : (x : A) → z x ≡ true → f x ≡ d) where
    empty-path : (s : List A) → all z s ≡ true → map f s ≡ replicate (length s) d
    unfolding all
    empty-path [] h = refl
    empty-path (x ∷ s) h = ap₂ (λ a l. a ∷ l) (zero-view x (and_left (z x) (all z s) h)) (empty-path s (and_right (z x) (all z s) h))

    filled : (l : List A) (n : ℕ) → all z (drop n l) ≡ true → map f l ≡ take n (map f l) ++ replicate (length (drop n l)) d
    filled l n h =
        sym (take-append-drop n (map f l))
        ∙ ap (λ t. take n (map f l) ++ t) (sym (map-drop f n l) ∙ empty-path (drop n l) h)

    -- the first n tell n and, the others being empty, all
    first-path : (l k : List A) (n m : ℕ) → length l ≡ most → length k ≡ most → n ≤ most → m ≤ most → all z (drop n l) ≡ true → all z (drop m k) ≡ true
        → take n (map f l) ≡ take m (map f k) → (n ≡ m) × (map f l ≡ map f k)
    first-path l k n m p q i j g h e =
        let same : n ≡ m = omega (arith, length-take n (map f l), length-take m (map f k), length-map l f, length-map k f, ap length e) in
        let past : length (drop n l) ≡ length (drop m k) = omega (arith, length-drop n l, length-drop m k) in
        (same, filled l n g ∙ ap₂ (λ s t. s ++ t) e (ap (λ i. replicate i d) past) ∙ sym (filled k m h))

module _ {A : Type 0} where
  all_three : (p q r : A → Bool) (s : List A) → all p s ≡ true → all q s ≡ true → all r s ≡ true → all (λ x. p x && q x && r x) s ≡ true
  all_three p q r s e f g = all-and (λ x. p x && q x) r s ∙ and_both (all-and p q s ∙ and_both e f) g

  -- what the first n have, and the others, which are empty
  all_first : (p z : A → Bool) → ((x : A) → z x ≡ true → p x ≡ true) → (n : ℕ) (s : List A) → all p (take n s) ≡ true → all z (drop n s) ≡ true → all p s ≡ true
  all_first p z w n s h k =
      ap (all p) (sym (take-append-drop n s)) ∙ all_append p (take n s) (drop n s) ∙ and_both h (all_weaken z p w (drop n s) k)

abbrev dd_fit : DomainDefined → Bool
dd_fit d = dd_room d && dd_in_range d && clean_dd d

-- a DD's room, range and cleanness, by its two texts
dd_fit_lem : (d : DomainDefined) → dd_fit d ≡ true → (fit d.kind ≡ true) × (fit d.value ≡ true)
unfolding dd_room dd_in_range clean_dd
dd_fit_lem d h =
    let p = and-three (dd_room d) (dd_in_range d) (clean_dd d) h in
    let a = text_room d.kind in
    let b = text_room d.value in
    let i = text_in_range d.kind in
    let j = text_in_range d.value in
    let x = clean_text d.kind in
    let y = clean_text d.value in (
      and_both (and_both (and_left a b p.0) (and_left i j p.1)) (and_left x y p.2),
      and_both (and_both (and_right a b p.0) (and_right i j p.1)) (and_right x y p.2),
    )

dd-path : (d e : DomainDefined) → dd_fit d ≡ true → dd_fit e ≡ true → dd_view d ≡ dd_view e → d ≡ e
unfolding dd_view
dd-path d e h k v =
    ap₂ (λ a b. record { kind = a; value = b })
    (text_path d.kind e.kind (dd_fit_lem d h).0 (dd_fit_lem e k).0 (ap (λ x. x.kind) v))
    (text_path d.value e.value (dd_fit_lem d h).1 (dd_fit_lem e k).1 (ap (λ x. x.value) v))

-- what is empty shows nothing, and is in range
abbrev empty_unit : OrgUnit → Bool
empty_unit w = eqb w.len 0

abbrev empty_dd : DomainDefined → Bool
empty_dd i = eqb i.kind.len 0 && eqb i.value.len 0

unit_empty : (w : OrgUnit) → empty_unit w ≡ true → unit_view w ≡ []
unit_empty w h = rw (eqb-true w.len 0 h)

dd-empty : (i : DomainDefined) → empty_dd i ≡ true → dd_view i ≡ no_dd
unfolding dd_view no_dd
dd-empty i h =
    rw (eqb-true i.kind.len 0 (and_left (eqb i.kind.len 0) (eqb i.value.len 0) h), eqb-true i.value.len 0 (and_right (eqb i.kind.len 0) (eqb i.value.len 0) h))

empty_ranged : (n room : ℕ) → eqb n 0 ≡ true → leb n room ≡ true
empty_ranged n room h = le-leb n room (omega (arith, eqb-true n 0 h))

dd-empty_ranged : (i : DomainDefined) → empty_dd i ≡ true → dd_in_range i ≡ true
unfolding dd_in_range
dd-empty_ranged i h =
    and_both
    (empty_ranged i.kind.len (bound_of dd_type) (and_left (eqb i.kind.len 0) (eqb i.value.len 0) h))
    (empty_ranged i.value.len (bound_of dd_value) (and_right (eqb i.kind.len 0) (eqb i.value.len 0) h))

module _ (r : Record) (m : Made r) where
  values_fit : all fit r.singles.values ≡ true
  unfolding singles_in_range clean_singles
  values_fit = all_three text_room text_in_range clean_text r.singles.values m.roomy.values (ranges r m).0 (cleans r m).0

  -- a count in range, all in order, and those past the count empty
  units_fit : (r.units.count ≤ most) × (all fit r.units.names ≡ true) × (all empty_unit (drop r.units.count r.units.names) ≡ true)
  unfolding units_in_range clean_units
  units_fit =
      let n = r.units.count in
      let l = r.units.names in
      let past : all empty_unit (drop n l) ≡ true = and_right (all clean_text l) (all empty_unit (drop n l)) (cleans r m).1 in (
        leb-true n most (and_left (leb n most) (all text_in_range (take n l)) (ranges r m).1),
        all_three text_room text_in_range clean_text l m.roomy.names
            (all_first text_in_range empty_unit (λ v h. empty_ranged v.len (bound_of OU) h) n l (and_right (leb n most) (all text_in_range (take n l)) (ranges r m).1) past)
            (and_left (all clean_text l) (all empty_unit (drop n l)) (cleans r m).1),
        past,
      )

  dds_fit : (r.dds.count ≤ most) × (all dd_fit r.dds.items ≡ true) × (all empty_dd (drop r.dds.count r.dds.items) ≡ true)
  unfolding dds_in_range clean_dds
  dds_fit =
      let n = r.dds.count in
      let l = r.dds.items in
      let past : all empty_dd (drop n l) ≡ true = and_right (all clean_dd l) (all empty_dd (drop n l)) (cleans r m).2 in (
        leb-true n most (and_left (leb n most) (all dd_in_range (take n l)) (ranges r m).2),
        all_three dd_room dd_in_range clean_dd l m.roomy.items
            (all_first dd_in_range empty_dd dd-empty_ranged n l (and_right (leb n most) (all dd_in_range (take n l)) (ranges r m).2) past)
            (and_left (all clean_dd l) (all empty_dd (drop n l)) (cleans r m).2),
        past,
      )

module _ (r s : Record) (m : Made r) (n : Made s) where
  singles_path : singles_view r.singles ≡ singles_view s.singles → r.singles ≡ s.singles
  unfolding singles_view
  singles_path e =
      ap (λ l. record { values = l })
      (map-path value_view fit text_path r.singles.values s.singles.values (values_fit r m) (values_fit s n) e)

  units-path : units_view r.units ≡ units_view s.units → r.units ≡ s.units
  unfolding units_view
  units-path e =
      let p = units_fit r m in
      let q = units_fit s n in
      let f = first-path unit_view empty_unit [] unit_empty r.units.names s.units.names r.units.count s.units.count m.shaped.names n.shaped.names p.0 q.0 p.2 q.2 e in
      ap₂ (λ c l. record { count = c; names = l }) f.0
      (map-path unit_view fit text_path r.units.names s.units.names p.1 q.1 f.1)

  dds-path : dds_view r.dds ≡ dds_view s.dds → r.dds ≡ s.dds
  unfolding dds_view
  dds-path e =
      let p = dds_fit r m in
      let q = dds_fit s n in
      let f = first-path dd_view empty_dd no_dd dd-empty r.dds.items s.dds.items r.dds.count s.dds.count m.shaped.items n.shaped.items p.0 q.0 p.2 q.2 e in
      ap₂ (λ c l. record { count = c; items = l }) f.0
      (map-path dd_view dd_fit dd-path r.dds.items s.dds.items p.1 q.1 f.1)

  pub made_path : view r ≡ view s → r ≡ s
  unfolding view
  made_path e =
      ap₂ (λ a b. record { singles = a; units = b; dds = r.dds }) (singles_path (ap (λ x. x.single) e)) (units-path (ap (λ x. x.units) e))
      ∙ ap (λ c. record { singles = s.singles; units = s.units; dds = c }) (dds-path (ap (λ x. x.dds) e))

-- ---- an addition, said of the attributes

all_default : {A : Type 0} (p : A → Bool) (s : List A) (k : ℕ) (d : A) → all p s ≡ true → p d ≡ true → p (get_or s k d) ≡ true
unfolding all
all_default p [] k d h e = e
all_default p (x ∷ s) zero d h e = and_left (p x) (all p s) h
all_default p (x ∷ s) (suc k) d h e = all_default p s k d (and_right (p x) (all p s) h) e

fit_length : {n : ℕ} (v : Text n) → fit v ≡ true → v.len ≡ length (held_text v)
unfolding text_room
fit_length {n} v h =
    let p = and-three (text_room v) (text_in_range v) (clean_text v) h in
    omega (arith, length-take v.len v.bytes, eqb-true (length v.bytes) n p.0, leb-true v.len n p.1)

fit_empty : fit (value_of []) ≡ true
unfolding text_of text_room front clean_text all
fit_empty = refl

count-length : {A B : Type 0} (f : A → B) (l : List A) (n : ℕ) → n ≤ most → length l ≡ most → n ≡ length (take n (map f l))
count-length f l n h e = omega (arith, length-take n (map f l), length-map l f)

module _ (r : Record) (m : Made r) where
  -- a length and a count are those of what they hold
  pub single-length : (k : ℕ) → (get_or r.singles.values k (value_of [])).len ≡ length (single_of (view r) k)
  unfolding single_of view singles_view
  single-length k =
      let v = get_or r.singles.values k (value_of []) in
      fit_length v (all_default fit r.singles.values k (value_of []) (values_fit r m) fit_empty)
      ∙ ap length (sym (single_view r.singles k))

  pub unit_count : r.units.count ≡ length (view r).units
  unfolding view units_view
  unit_count = count-length unit_view r.units.names r.units.count (units_fit r m).0 m.shaped.names

  pub dd-count : r.dds.count ≡ length (view r).dds
  unfolding view dds_view
  dd-count = count-length dd_view r.dds.items r.dds.count (dds_fit r m).0 m.shaped.items

  pub single-added : (k : ℕ) (v : List ℕ) → rule k v ≡ true → single_of (view r) k ≡ []
      → ((add_single r k v).number ≡ 0) × (view (add_single r k v).record' ≡ record { single = set (view r).single k v; units = (view r).units; dds = (view r).dds })
  unfolding add_single outcome
  single-added k v h e =
      rw (h, eq-eqb (get_or r.singles.values k (value_of [])).len 0 (single-length k ∙ ap length e)) (refl, view-set-single r k v)

  pub single-refused : (k : ℕ) (v : List ℕ) → (rule k v && eqb (length (single_of (view r) k)) 0) ≡ false → add_single r k v ≡ record { number = 4; record' = r }
  unfolding add_single outcome
  single-refused k v h = rw (single-length k, h)

  pub unit_added : (v : List ℕ) → is_unit v ≡ true → length (view r).units < most
      → ((add_unit r v).number ≡ 0) × (view (add_unit r v).record' ≡ record { single = (view r).single; units = (view r).units ++ (v ∷ []); dds = (view r).dds })
  unfolding add_unit outcome view
  unit_added v h l =
      let few : r.units.count < most = omega (arith, unit_count) in
      rw (h, lt-ltb r.units.count most few) (refl, rw (view_push_unit r.units v (omega (arith, m.shaped.names))))

  pub unit_refused : (v : List ℕ) → (is_unit v && ltb (length (view r).units) most) ≡ false → add_unit r v ≡ record { number = 4; record' = r }
  unfolding add_unit outcome
  unit_refused v h = rw (unit_count, h)

  pub dd-added : (t v : List ℕ) → is_dd (record { kind = t; value = v }) ≡ true → length (view r).dds < most
      → ((add_dd r t v).number ≡ 0) × (view (add_dd r t v).record' ≡ record { single = (view r).single; units = (view r).units; dds = (view r).dds ++ (record { kind = t; value = v } ∷ []) })
  unfolding add_dd outcome view
  dd-added t v h l =
      let few : r.dds.count < most = omega (arith, dd-count) in
      rw (h, lt-ltb r.dds.count most few) (refl, rw (view_push_dd r.dds t v (omega (arith, m.shaped.items))))
