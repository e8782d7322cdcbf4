-- The record that adding tokens at the levels from C on makes: it is one as they are made here, and its attributes are the tokens. By
-- induction over the tokens, with those added already in front of them. And what the fields of a path are as attributes.
-- Assumes nothing.
use mathlib.Core.Path.{◌≡◌, refl, sym, ap, ◌∙◌}
use mathlib.Core.Bool.{true, false, ◌&&◌}
use mathlib.Core.List.{List, [], ◌∷◌, ◌++◌, append-nil}
use Prim.Native.Nat.{ℕ, zero, suc, ◌+◌, ◌-◌, ◌≤◌, ◌<◌}
use native.Mathlib.Omega.{arith}
use borrow.Author.Tests.{eq-eqb, eqb-true, ltb-false, ltb-true}
use lib.Dec.{eqb, ltb}
use lib.ListN.{length, drop, take, replicate, set, length-append, length-drop}
use lib.Seq.{append_snoc, drop-append-le}
use Rattle.chars.specs.Lists.{all, non_empty}
use Rattle.chars.proofs.Laws.Lists.{all_append, and_both, and_left, and_right, by_test, true_not_false}
use Rattle.oraddr.specs.Add.{Outcome, add_single, add_unit}
use Rattle.oraddr.specs.Attributes.{Attributes, Dd, levels, single_of}
use Rattle.oraddr.specs.Bounds.{most, rule, single_count}
use Rattle.oraddr.specs.Canonical.{all_kept, is_unit, kept}
use Rattle.oraddr.specs.View.{empty_record, view}
use Rattle.oraddr.specs.declared.record.Record.{Record}
use Rattle.oraddr.proofs.Laws.Made.{Made, made_empty, made_single, made_unit, single-added, single-refused, unit_added, unit_refused}
use Rattle.oraddr.proofs.Laws.View.{view-empty}
use Rattle.table.specs.Table.{Token}
use Rattle.table.specs.Lines.{are_fields, is_field}
use Rattle.table_settle.specs.Settle.{add_level, add_levels, begun}
use Rattle.table.proofs.Laws.Fields.{field_empty, field_own, field_unit}
use Rattle.table_settle.proofs.Laws.Settle.{level_omitted, level_single, level_unit, levels_stop}

-- the attributes with tokens at the levels from C on: the first four a record has once, the others are units
abbrev pub levelled : List Token → Attributes
levelled ts = record { single = take 4 ts ++ replicate (single_count - length (take 4 ts)) []; units = drop 4 ts; dds = [] }

-- A record as it is made here, that has the tokens and nothing else.
pub record LevelsMade (ts : List Token) (r : Record) : Type 0 where
  pub made : Made r
  pub shows : view r ≡ levelled ts

-- ---- one more token, said of the attributes

-- at a level that a record has once
own_free : (ts : List Token) → length ts < 4 → single_of (levelled ts) (length ts) ≡ []
unfolding single_of
own_free [] h = refl
own_free (a ∷ []) h = refl
own_free (a ∷ b ∷ []) h = refl
own_free (a ∷ b ∷ c ∷ []) h = refl
own_free (a ∷ b ∷ c ∷ d ∷ ts) h = absurd (omega arith)

own_more : (ts : List Token) (t : Token) → length ts < 4
    → levelled (ts ++ (t ∷ [])) ≡ record { single = set (levelled ts).single (length ts) t; units = (levelled ts).units; dds = [] }
own_more [] t h = refl
own_more (a ∷ []) t h = refl
own_more (a ∷ b ∷ []) t h = refl
own_more (a ∷ b ∷ c ∷ []) t h = refl
own_more (a ∷ b ∷ c ∷ d ∷ ts) t h = absurd (omega arith)

own_omitted : (ts : List Token) → length ts < 4 → levelled (ts ++ ([] ∷ [])) ≡ levelled ts
own_omitted [] h = refl
own_omitted (a ∷ []) h = refl
own_omitted (a ∷ b ∷ []) h = refl
own_omitted (a ∷ b ∷ c ∷ []) h = refl
own_omitted (a ∷ b ∷ c ∷ d ∷ ts) h = absurd (omega arith)

-- a unit
unit_more : (ts : List Token) (t : Token) → 4 ≤ length ts
    → levelled (ts ++ (t ∷ [])) ≡ record { single = (levelled ts).single; units = (levelled ts).units ++ (t ∷ []); dds = [] }
unit_more [] t h = absurd (omega arith)
unit_more (a ∷ []) t h = absurd (omega arith)
unit_more (a ∷ b ∷ []) t h = absurd (omega arith)
unit_more (a ∷ b ∷ c ∷ []) t h = absurd (omega arith)
unit_more (a ∷ b ∷ c ∷ d ∷ ts) t h = refl

-- ---- one more token, added to a record

-- an addition that was not refused, and the record after it
abbrev NotRefused : List Token → Outcome → Type 0
NotRefused ts o = (o.number ≡ 0) × LevelsMade ts o.record'

module _ (ts : List Token) (r : Record) (m : LevelsMade ts r) where
  omitted_joined : length ts < 4 → LevelsMade (ts ++ ([] ∷ [])) r
  omitted_joined l = record { made = m.made; shows = m.shows ∙ sym (own_omitted ts l) }

  free : length ts < 4 → single_of (view r) (length ts) ≡ []
  free l = ap (λ (a : Attributes). single_of a (length ts)) m.shows ∙ own_free ts l

  single-joined : (t : Token) → length ts < 4 → rule (length ts) t ≡ true → NotRefused (ts ++ (t ∷ [])) (add_single r (length ts) t)
  single-joined t l h =
      let p = single-added r m.made (length ts) t h (free l) in (
        p.0,
        record {
          made = made_single r m.made (length ts) t (omega arith);
          shows = p.1 ∙ ap (λ (a : Attributes). record { single = set a.single (length ts) t; units = a.units; dds = a.dds }) m.shows ∙ sym (own_more ts t l);
        },
      )

  units-length : length (view r).units ≡ length ts - 4
  units-length = ap (λ (a : Attributes). length a.units) m.shows ∙ length-drop 4 ts

  unit_joined : (t : Token) → 4 ≤ length ts → length ts < 8 → is_unit t ≡ true → NotRefused (ts ++ (t ∷ [])) (add_unit r t)
  unit_joined t f l h =
      let p = unit_added r m.made t h (omega (arith, units-length)) in (
        p.0,
        record {
          made = made_unit r m.made t;
          shows = p.1 ∙ ap (λ (a : Attributes). record { single = a.single; units = a.units ++ (t ∷ []); dds = a.dds }) m.shows ∙ sym (unit_more ts t f);
        },
      )

  -- a field is not refused
  field_joined : (t : Token) → length ts < 8 → is_field (length ts) t ≡ true → NotRefused (ts ++ (t ∷ [])) (add_level (length ts) t r)
  unfolding is_unit
  field_joined [] l h =
      let e : length ts ≡ 2 = eqb-true (length ts) 2 (sym (field_empty (length ts) [] refl) ∙ h) in
      rw (level_omitted (length ts) [] r refl) (refl, omitted_joined (omega arith))
  field_joined (x ∷ t) l h =
      let some : length (x ∷ t) ≡ 0 → ⊥ = λ q. omega arith in
      by_test (ltb (length ts) 4)
      (λ e. let o = ltb-true (length ts) 4 e in
      rw (level_single (length ts) (x ∷ t) r some o) (single-joined (x ∷ t) o (sym (field_own (length ts) (x ∷ t) some o) ∙ h)))
      (λ e. let o = ltb-false (length ts) 4 e in
      rw (level_unit (length ts) (x ∷ t) r some o) (unit_joined (x ∷ t) o l (sym (field_unit (length ts) (x ∷ t) some o) ∙ h)))

  -- what is not refused has kept its rule
  refused-not : {o : Outcome} → o ≡ record { number = 4; record' = r } → o.number ≡ 0 → ⊥
  refused-not e h = omega (arith, ap (λ (o : Outcome). o.number) e)

  single-kept : (t : Token) → length ts < 4 → (add_single r (length ts) t).number ≡ 0 → LevelsMade (ts ++ (t ∷ [])) (add_single r (length ts) t).record'
  single-kept t l h =
      by_test (rule (length ts) t)
      (λ e. (single-joined t l e).1)
      (λ e. absurd (refused-not (single-refused r m.made (length ts) t (rw e)) h))

  unit_kept : (t : Token) → 4 ≤ length ts → (add_unit r t).number ≡ 0 → LevelsMade (ts ++ (t ∷ [])) (add_unit r t).record'
  unit_kept t f h =
      let room = ltb (length (view r).units) most in
      by_test (is_unit t && room)
      (λ e. (unit_joined t f (omega (arith, units-length, ltb-true (length (view r).units) most (and_right (is_unit t) room e))) (and_left (is_unit t) room e)).1)
      (λ e. absurd (refused-not (unit_refused r m.made t e) h))

  level_kept : (t : Token) → (4 ≤ length ts → non_empty t ≡ true) → (add_level (length ts) t r).number ≡ 0 → LevelsMade (ts ++ (t ∷ [])) (add_level (length ts) t r).record'
  unfolding non_empty
  level_kept [] s h =
      by_test (ltb (length ts) 4)
      (λ e. rw (level_omitted (length ts) [] r refl) (omitted_joined (ltb-true (length ts) 4 e)))
      (λ e. true_not_false false (s (ltb-false (length ts) 4 e)) refl)
  level_kept (x ∷ t) s h =
      let some : length (x ∷ t) ≡ 0 → ⊥ = λ q. omega arith in
      by_test (ltb (length ts) 4)
      (λ e. let q = level_single (length ts) (x ∷ t) r some (ltb-true (length ts) 4 e) in
      rw q (single-kept (x ∷ t) (ltb-true (length ts) 4 e) (rw q at h)))
      (λ e. let q = level_unit (length ts) (x ∷ t) r some (ltb-false (length ts) 4 e) in
      rw q (unit_kept (x ∷ t) (ltb-false (length ts) 4 e) (rw q at h)))

-- ---- the tokens from a level on

-- what is added after a token that was not refused
levels-after : (ts : List Token) (t : Token) (us : List Token) (r : Record) → (add_level (length ts) t r).number ≡ 0
    → add_levels (length ts) (t ∷ us) (begun r) ≡ add_levels (length (ts ++ (t ∷ []))) us (begun (add_level (length ts) t r).record')
unfolding add_levels
levels-after ts t us r h =
    let o : Outcome = add_level (length ts) t r in
    let n : suc (length ts) ≡ length (ts ++ (t ∷ [])) = omega (arith, length-append ts (t ∷ [])) in
    ap (λ (x : ℕ). add_levels (suc (length ts)) us (record { number = x; record' = o.record' })) h
    ∙ ap (λ (k : ℕ). add_levels k us (begun o.record')) n

fields-joined : (us ts : List Token) (r : Record) → LevelsMade ts r → length ts + length us ≤ 8 → are_fields (length ts) us ≡ true
    → NotRefused (ts ++ us) (add_levels (length ts) us (begun r))
unfolding are_fields add_levels
fields-joined [] ts r m l h = (refl, rw (append-nil ts) m)
fields-joined (t ∷ us) ts r m l h =
    let p = field_joined ts r m t (omega arith) (and_left (is_field (length ts) t) (are_fields (suc (length ts)) us) h) in
    let n : length (ts ++ (t ∷ [])) ≡ suc (length ts) = omega (arith, length-append ts (t ∷ [])) in
    rw (levels-after ts t us r p.0, ← append_snoc ts t us)
    (fields-joined us (ts ++ (t ∷ [])) (add_level (length ts) t r).record' p.1 (omega arith)
    (rw n (and_right (is_field (length ts) t) (are_fields (suc (length ts)) us) h)))

-- the fields of a path make a record that has them
pub levels_made : (ts : List Token) → are_fields 0 ts ≡ true → length ts ≤ 8 → ((add_levels 0 ts (begun empty_record)).number ≡ 0) × LevelsMade ts (add_levels 0 ts (begun empty_record)).record'
levels_made ts h l = fields-joined ts [] empty_record (record { made = made_empty; shows = view-empty }) (omega arith) h

-- no unit is empty, and none was refused
levels-joined : (us ts : List Token) (r : Record) → LevelsMade ts r → all non_empty (drop 4 (ts ++ us)) ≡ true → (add_levels (length ts) us (begun r)).number ≡ 0
    → LevelsMade (ts ++ us) (add_levels (length ts) us (begun r)).record'
unfolding all add_levels
levels-joined [] ts r m s h = rw (append-nil ts) m
levels-joined (t ∷ us) ts r m s h =
    let o : Outcome = add_level (length ts) t r in
    by_test (eqb o.number 0)
    (λ e. let z : o.number ≡ 0 = eqb-true o.number 0 e in
    let q = levels-after ts t us r z in
    rw (q, ← append_snoc ts t us)
    (levels-joined us (ts ++ (t ∷ [])) o.record' (level_kept ts r m t some z) (rw (append_snoc ts t us) s) (rw q at h)))
    (λ e. true_not_false (eqb o.number 0) (rw (levels_stop (suc (length ts)) us o e) at (eq-eqb (add_levels (suc (length ts)) us o).number 0 h)) e)
  where
    some : 4 ≤ length ts → non_empty t ≡ true
    some l =
        and_left (non_empty t) (all non_empty us)
        (and_right (all non_empty (drop 4 ts)) (all non_empty (t ∷ us))
        (sym (ap (all non_empty) (drop-append-le 4 ts (t ∷ us) l) ∙ all_append non_empty (drop 4 ts) (t ∷ us)) ∙ s))

-- tokens of which none was refused make a record that has them, if no unit is empty
pub levels-kept : (ts : List Token) → all non_empty (drop 4 ts) ≡ true → (add_levels 0 ts (begun empty_record)).number ≡ 0 → LevelsMade ts (add_levels 0 ts (begun empty_record)).record'
levels-kept ts s h = levels-joined ts [] empty_record (record { made = made_empty; shows = view-empty }) s h

-- ---- the fields of a path, as attributes

-- only PRMD may be omitted
pub field_there : (k : ℕ) (t : Token) → eqb k 2 ≡ false → is_field k t ≡ true → non_empty t ≡ true
unfolding non_empty
field_there k [] e h = true_not_false (eqb k 2) (sym (field_empty k [] refl) ∙ h) e
field_there k (x ∷ t) e h = refl

field_kept : (k : ℕ) (t : Token) → k < 4 → is_field k t ≡ true → kept k t ≡ true
unfolding kept non_empty
field_kept k [] l h = refl
field_kept k (x ∷ t) l h = sym (field_own k (x ∷ t) (λ q. omega arith) l) ∙ h

field_is_unit : (k : ℕ) (t : Token) → 4 ≤ k → is_field k t ≡ true → is_unit t ≡ true
unfolding is_unit
field_is_unit k [] l h = let e : k ≡ 2 = eqb-true k 2 (sym (field_empty k [] refl) ∙ h) in absurd (omega arith)
field_is_unit k (x ∷ t) l h = sym (field_unit k (x ∷ t) (λ q. omega arith) l) ∙ h

-- n of them up to O, from level k on
fields-kept : (k n : ℕ) (ts : List Token) → k + n ≤ 4 → are_fields k ts ≡ true → all_kept k (take n ts) ≡ true
unfolding are_fields all_kept
fields-kept k zero ts l h = refl
fields-kept k (suc n) [] l h = refl
fields-kept k (suc n) (t ∷ ts) l h =
    and_both
    (field_kept k t (omega arith) (and_left (is_field k t) (are_fields (suc k) ts) h))
    (fields-kept (suc k) n ts (omega arith) (and_right (is_field k t) (are_fields (suc k) ts) h))

-- those behind the first n, which are up to O at least
fields-units : (k n : ℕ) (ts : List Token) → 4 ≤ k + n → are_fields k ts ≡ true → all is_unit (drop n ts) ≡ true
unfolding are_fields all
fields-units k zero [] l h = refl
fields-units k zero (t ∷ ts) l h =
    and_both
    (field_is_unit k t (omega arith) (and_left (is_field k t) (are_fields (suc k) ts) h))
    (fields-units (suc k) zero ts (omega arith) (and_right (is_field k t) (are_fields (suc k) ts) h))
fields-units k (suc n) [] l h = refl
fields-units k (suc n) (t ∷ ts) l h = fields-units (suc k) n ts (omega arith) (and_right (is_field k t) (are_fields (suc k) ts) h)

-- each keeps its own rule
pub levelled-kept : (ts : List Token) → are_fields 0 ts ≡ true → all_kept 0 (levelled ts).single ≡ true
unfolding all_kept kept non_empty
levelled-kept ts h = filled ts ∙ fields-kept 0 4 ts (omega arith) h
  where
    filled : (ts : List Token) → all_kept 0 (levelled ts).single ≡ all_kept 0 (take 4 ts)
    filled [] = refl
    filled (a ∷ []) = refl
    filled (a ∷ b ∷ []) = refl
    filled (a ∷ b ∷ c ∷ []) = refl
    filled (a ∷ b ∷ c ∷ d ∷ ts) = refl

pub levelled-units : (ts : List Token) → are_fields 0 ts ≡ true → all is_unit (levelled ts).units ≡ true
levelled-units ts h = fields-units 0 4 ts (omega arith) h

-- the levels are the tokens, and the others are absent
pub levelled-levels : (ts : List Token) (ds : List Dd) → length ts ≤ 8 → levels (record { single = (levelled ts).single; units = (levelled ts).units; dds = ds }) ≡ ts ++ replicate (8 - length ts) []
unfolding levels
levelled-levels [] ds l = refl
levelled-levels (a ∷ []) ds l = refl
levelled-levels (a ∷ b ∷ []) ds l = refl
levelled-levels (a ∷ b ∷ c ∷ []) ds l = refl
levelled-levels (a ∷ b ∷ c ∷ d ∷ []) ds l = refl
levelled-levels (a ∷ b ∷ c ∷ d ∷ e ∷ []) ds l = refl
levelled-levels (a ∷ b ∷ c ∷ d ∷ e ∷ f ∷ []) ds l = refl
levelled-levels (a ∷ b ∷ c ∷ d ∷ e ∷ f ∷ g ∷ []) ds l = refl
levelled-levels (a ∷ b ∷ c ∷ d ∷ e ∷ f ∷ g ∷ h ∷ []) ds l = refl
levelled-levels (a ∷ b ∷ c ∷ d ∷ e ∷ f ∷ g ∷ h ∷ i ∷ ts) ds l = absurd (omega arith)
