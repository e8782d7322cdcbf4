-- The attributes that a record struct holds. What stands past a length or past a count is not part of the record.
-- Assumes nothing.
use Rattle.std.specs.Prelude.{ℕ, Bool, ◌&&◌, List, [], map, leb, eqb, length, take, drop, replicate}
use Rattle.chars.specs.Lists.{all}
use Rattle.chars.specs.Write.{front}
use Rattle.oraddr.specs.Bounds.{most, single_count, bound_of, O, OU, dd_type, dd_value}
use Rattle.oraddr.specs.Attributes.{Attributes, Dd}
use Rattle.oraddr.specs.declared.value.Text.{Text}
use Rattle.oraddr.specs.declared.value.DomainDefined.{DomainDefined}
use Rattle.oraddr.specs.declared.record.Singles.{Singles}
use Rattle.oraddr.specs.declared.record.Units.{Units}
use Rattle.oraddr.specs.declared.record.Dds.{Dds}
use Rattle.oraddr.specs.declared.record.Record.{Record}

-- the text that a struct holds: the first `len` bytes of its room
abbrev pub held_text : {n : ℕ} → Text n → List ℕ
held_text t = take t.len t.bytes

-- the four kinds of text, by the bounds that their rooms have
abbrev pub Value : Type 0
Value = Text (bound_of O)

abbrev pub OrgUnit : Type 0
OrgUnit = Text (bound_of OU)

abbrev pub DdType : Type 0
DdType = Text (bound_of dd_type)

abbrev pub DdValue : Type 0
DdValue = Text (bound_of dd_value)

abbrev pub value_view : Value → List ℕ
value_view = held_text

abbrev pub unit_view : OrgUnit → List ℕ
unit_view = held_text

abbrev pub kind_view : DdType → List ℕ
kind_view = held_text

abbrev pub dd_value_view : DdValue → List ℕ
dd_value_view = held_text

unfoldable pub dd_view : DomainDefined → Dd
dd_view d = record { kind = kind_view d.kind; value = dd_value_view d.value }

unfoldable pub singles_view : Singles → List (List ℕ)
singles_view s = map value_view s.values

unfoldable pub units_view : Units → List (List ℕ)
units_view u = take u.count (map unit_view u.names)

unfoldable pub dds_view : Dds → List Dd
unfolding dd_view
dds_view d = take d.count (map dd_view d.items)

unfoldable pub view : Record → Attributes
unfolding singles_view units_view dds_view
view r = record { single = singles_view r.singles; units = units_view r.units; dds = dds_view r.dds }

-- the struct that holds a text in a room of n bytes, those past its length 0
unfoldable pub text_of : (n : ℕ) → List ℕ → Text n
unfolding front
text_of n s = record { len = length s; bytes = front s (replicate n 0) }

abbrev pub value_of : List ℕ → Value
value_of = text_of (bound_of O)

abbrev pub org_unit_of : List ℕ → OrgUnit
org_unit_of = text_of (bound_of OU)

abbrev pub kind_of : List ℕ → DdType
kind_of = text_of (bound_of dd_type)

abbrev pub dd_value_of : List ℕ → DdValue
dd_value_of = text_of (bound_of dd_value)

unfoldable pub domain_defined_of : List ℕ → List ℕ → DomainDefined
unfolding text_of
domain_defined_of t s = record { kind = kind_of t; value = dd_value_of s }

-- no length is over its room, and no count over the most there may be
abbrev pub text_in_range : {n : ℕ} → Text n → Bool
text_in_range {n} t = leb t.len n

unfoldable pub singles_in_range : Singles → Bool
unfolding all
singles_in_range s = all text_in_range s.values

unfoldable pub units_in_range : Units → Bool
unfolding all
units_in_range u = leb u.count most && all text_in_range (take u.count u.names)

unfoldable pub dd_in_range : DomainDefined → Bool
dd_in_range d = text_in_range d.kind && text_in_range d.value

unfoldable pub dds_in_range : Dds → Bool
unfolding all dd_in_range
dds_in_range d = leb d.count most && all dd_in_range (take d.count d.items)

unfoldable pub in_range : Record → Bool
unfolding singles_in_range units_in_range dds_in_range
in_range r = singles_in_range r.singles && units_in_range r.units && dds_in_range r.dds

-- The bytes past each text's length are 0, and so are the places past each count. Every record that is made here is so, and
-- then two that hold the same attributes are equal.
unfoldable pub clean_text : {n : ℕ} → Text n → Bool
unfolding all
clean_text t = all (λ x. eqb x 0) (drop t.len t.bytes)

unfoldable pub clean_singles : Singles → Bool
unfolding all clean_text
clean_singles s = all clean_text s.values

unfoldable pub clean_units : Units → Bool
unfolding all clean_text
clean_units u = all clean_text u.names && all (λ v. eqb v.len 0) (drop u.count u.names)

unfoldable pub clean_dd : DomainDefined → Bool
unfolding clean_text
clean_dd d = clean_text d.kind && clean_text d.value

unfoldable pub clean_dds : Dds → Bool
unfolding all clean_dd
clean_dds d = all clean_dd d.items && all (λ i. eqb i.kind.len 0 && eqb i.value.len 0) (drop d.count d.items)

unfoldable pub clean : Record → Bool
unfolding clean_singles clean_units clean_dds
clean r = clean_singles r.singles && clean_units r.units && clean_dds r.dds

-- document 01: an "empty record"
abbrev pub empty_record : Record
unfolding text_of domain_defined_of
empty_record =
    record {
      singles = record { values = replicate single_count (value_of []) };
      units = record { count = 0; names = replicate most (org_unit_of []) };
      dds = record { count = 0; items = replicate most (domain_defined_of [] []) };
    }
