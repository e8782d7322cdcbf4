-- What the rules of the attributes say of lengths, the levels, the attributes of a record struct after an addition, and what an
-- outcome says.
-- Assumes nothing.
use mathlib.Core.Path.{◌≡◌, refl, sym, ap, ◌∙◌}
use mathlib.Core.Bool.{Bool, true, false, ◌&&◌}
use mathlib.Core.List.{List, [], ◌∷◌, ◌++◌, map}
use Prim.Native.Nat.{ℕ, zero, suc, ◌+◌, ◌-◌, ◌≤◌, ◌<◌}
use native.Mathlib.Numerals.{add-one}
use native.Mathlib.Omega.{arith}
use lib.Dec.{eqb, leb, lit<}
use borrow.Author.Tests.{eqb-true, leb-true}
use lib.ListN.{length, get_or, replicate, take, set, length-map, get_or-append, get_or-map}
use lib.Seq.{get_or-append-add, get_or-take, length-take-le, take-suc-set}
use Rattle.chars.specs.Class.{is_digit, is_letter}
use Rattle.chars.specs.Lists.{all}
use Rattle.chars.specs.Spaces.{is_text}
use Rattle.chars.specs.Write.{front}
use Rattle.chars.proofs.Laws.Lists.{all-at, and_left, and_right, by_test, or_cases}
use Rattle.chars.proofs.Laws.Case.{equal-path}
use Rattle.chars.proofs.Laws.Seq.{map-set}
use Rattle.oraddr.specs.Attributes.{Attributes, levels, single_of, unit_of}
use Rattle.oraddr.specs.Bounds.{ADMD, C, c_letters, O, OU, bounds, bound_of, is_country, is_space, is_value, level_count, most, own_levels, rule, single_count}
use Rattle.oraddr.specs.Add.{outcome, place_of, push_dd, push_unit, set_single}
use Rattle.oraddr.specs.declared.add.Attribute as attribute
use Rattle.oraddr.specs.declared.add.Attribute.{Attribute}
use Rattle.oraddr.specs.View.{dd_view, dds_view, domain_defined_of, empty_record, org_unit_of, singles_view, text_of, unit_view, units_view, value_of, value_view, view}
use Rattle.oraddr.specs.declared.record.Record.{Record}
use Rattle.oraddr.specs.declared.record.Singles.{Singles}
use Rattle.oraddr.specs.declared.record.Units.{Units}
use Rattle.oraddr.specs.declared.record.Dds.{Dds}
use Rattle.oraddr.proofs.Laws.Text.{view-dd, view_text}

-- ---- what a rule says of the length

-- an attribute that a record has once has one of the first numbers
pub place-low : (a : Attribute) → place_of a < single_count
place-low attribute.TheVariants.C = lit< tt
place-low attribute.TheVariants.Admd = lit< tt
place-low attribute.TheVariants.Prmd = lit< tt
place-low attribute.TheVariants.O = lit< tt
place-low attribute.TheVariants.Cn = lit< tt
place-low attribute.TheVariants.S = lit< tt
place-low attribute.TheVariants.G = lit< tt
place-low attribute.TheVariants.I = lit< tt
place-low attribute.TheVariants.Gq = lit< tt

pub value-length : (k : ℕ) (v : List ℕ) → is_value k v ≡ true → length v ≤ bound_of k
unfolding is_value
value-length k v h = leb-true (length v) (bound_of k) (and_left (leb (length v) (bound_of k)) (is_text v) h)

-- an attribute that a record has once fits the room for one
single-room : (k : ℕ) → k < single_count → bound_of k ≤ bound_of O
unfolding all
single-room k h =
    leb-true (bound_of k) (bound_of O)
    (ap (λ b. leb b (bound_of O)) (sym (get_or-take single_count bounds k 0 h))
    ∙ all-at (λ b. leb b (bound_of O)) (take single_count bounds) k 0 refl h)

country_length : (v : List ℕ) → is_country v ≡ true → length v ≤ bound_of O
unfolding is_country
country_length v h =
    or_cases (eqb (length v) (bound_of c_letters) && all is_letter v) (eqb (length v) (bound_of C) && all is_digit v) h
    (λ e. omega (arith, eqb-true (length v) (bound_of c_letters) (and_left (eqb (length v) (bound_of c_letters)) (all is_letter v) e)))
    (λ e. omega (arith, eqb-true (length v) (bound_of C) (and_left (eqb (length v) (bound_of C)) (all is_digit v) e)))

space_length : (v : List ℕ) → is_space v ≡ true → length v ≤ bound_of O
unfolding is_space
space_length v h = omega (arith, ap length (equal-path v (32 ∷ []) h))

pub rule-length : (k : ℕ) (v : List ℕ) → rule k v ≡ true → k < single_count → length v ≤ bound_of O
unfolding rule
rule-length k v h l =
    by_test (eqb k C)
    (λ e. country_length v (rw e at h))
    (λ e. or_cases (is_value k v) (eqb k ADMD && is_space v) (rw e at h)
    (λ f. omega (arith, value-length k v f, single-room k l))
    (λ f. space_length v (and_right (eqb k ADMD) (is_space v) f)))

-- ---- the levels

module _ {A : Type 0} where
  get_d_replicate_own : (n j : ℕ) (d : A) → get_or (replicate n d) j d ≡ d
  get_d_replicate_own zero j d = refl
  get_d_replicate_own (suc n) zero d = refl
  get_d_replicate_own (suc n) (suc j) d = get_d_replicate_own n j d

  -- a list filled up with the default reads as before
  get_d_filled : (l : List A) (n j : ℕ) (d : A) → get_or (l ++ replicate n d) j d ≡ get_or l j d
  get_d_filled [] n j d = get_d_replicate_own n j d
  get_d_filled (x ∷ l) n zero d = refl
  get_d_filled (x ∷ l) n (suc j) d = get_d_filled l n j d

module _ (a : Attributes) (k : ℕ) (l : length a.single ≡ single_count) where
  own : length (take own_levels a.single) ≡ own_levels
  own = length-take-le own_levels a.single (omega arith)

  -- C, ADMD, PRMD and O are the first levels
  pub level_own : k < own_levels → get_or (levels a) k [] ≡ single_of a k
  unfolding levels single_of
  level_own h =
      get_or-append (take own_levels a.single) (take most (a.units ++ replicate most [])) [] k (omega (arith, own))
      ∙ get_or-take own_levels a.single k [] h

  -- the units are the others
  pub level_unit : own_levels ≤ k → k < level_count → get_or (levels a) k [] ≡ unit_of a (k - own_levels)
  unfolding levels unit_of
  level_unit h m =
      ap (λ i. get_or (take own_levels a.single ++ take most (a.units ++ replicate most [])) i []) (past h)
      ∙ get_or-append-add (take own_levels a.single) (take most (a.units ++ replicate most [])) (k - own_levels) []
      ∙ get_or-take most (a.units ++ replicate most []) (k - own_levels) [] (omega arith)
      ∙ get_d_filled a.units most (k - own_levels) []
    where
      past : own_levels ≤ k → k ≡ length (take own_levels a.single) + (k - own_levels)
      past h = omega (arith, own)

-- ---- the empty record

pub view-empty : view empty_record ≡ record { single = replicate single_count []; units = []; dds = [] }
unfolding view singles_view units_view dds_view dd_view text_of domain_defined_of front
view-empty = refl

-- ---- the attributes after an addition

pub view-set-single : (r : Record) (k : ℕ) (v : List ℕ)
    → view (record { singles = set_single r.singles k v; units = r.units; dds = r.dds })
    ≡ record { single = set (view r).single k v; units = (view r).units; dds = (view r).dds }
unfolding view singles_view set_single
view-set-single r k v = rw (map-set value_view r.singles.values k (value_of v), view_text (bound_of O) v)

-- what stands at a place of the attributes that a record has once, past the last too
pub single_view : (s : Singles) (k : ℕ) → get_or (singles_view s) k [] ≡ value_view (get_or s.values k (value_of []))
unfolding singles_view text_of front
single_view s k = get_or-map value_view s.values k (value_of [])

-- what is pushed behind the first n
view_push : {A B : Type 0} (f : A → B) (l : List A) (n : ℕ) (x : A) → n < length l → take (n + 1) (map f (set l n x)) ≡ take n (map f l) ++ (f x ∷ [])
view_push f l n x h = rw (add-one, map-set f l n x) (take-suc-set (map f l) n (f x) (simp length-map h))

pub view_push_unit : (u : Units) (v : List ℕ) → u.count < length u.names → units_view (push_unit u v) ≡ units_view u ++ (v ∷ [])
unfolding units_view push_unit
view_push_unit u v h = view_push unit_view u.names u.count (org_unit_of v) h ∙ rw (view_text (bound_of OU) v)

pub view_push_dd : (d : Dds) (t v : List ℕ) → d.count < length d.items → dds_view (push_dd d (domain_defined_of t v)) ≡ dds_view d ++ (record { kind = t; value = v } ∷ [])
unfolding dds_view push_dd
view_push_dd d t v h = view_push dd_view d.items d.count (domain_defined_of t v) h ∙ rw (view-dd t v)

-- ---- what an outcome says

pub outcome-done : (t : Bool) (new old : Record) → t ≡ true → outcome t new old ≡ record { number = 0; record' = new }
unfolding outcome
outcome-done t new old e = rw e

pub outcome-refused : (t : Bool) (new old : Record) → t ≡ false → outcome t new old ≡ record { number = 4; record' = old }
unfolding outcome
outcome-refused t new old e = rw e

-- what the record as it was has, and the record after an addition that is allowed, the outcome's record has
pub outcome_keeps : (P : Record → Type 0) (t : Bool) (new old : Record) → (t ≡ true → P new) → P old → P (outcome t new old).record'
unfolding outcome
outcome_keeps P true new old f h = f refl
outcome_keeps P false new old f h = h
