-- Document 01: "Attributes are added one at a time, each addition giving the record after it, or the record as it was with
-- refusal 4: exactly when the value or type breaks its own rule, the attribute is there already, or it is a fifth unit or DD."
-- Assumes nothing.
use Rattle.std.specs.Prelude.{ℕ, ◌+◌, Bool, ◌&&◌, cond, List, [], eqb, ltb, get_or, set}
use Rattle.oraddr.specs.Bounds.{C, ADMD, PRMD, O, CN, S, G, I, GQ, most, rule}
use Rattle.oraddr.specs.Canonical.{is_unit, is_dd}
use Rattle.oraddr.specs.View.{value_of, org_unit_of, domain_defined_of, text_of}
use Rattle.oraddr.specs.declared.value.DomainDefined.{DomainDefined}
use Rattle.oraddr.specs.declared.record.Record.{Record}
use Rattle.oraddr.specs.declared.record.Singles.{Singles}
use Rattle.oraddr.specs.declared.record.Units.{Units}
use Rattle.oraddr.specs.declared.record.Dds.{Dds}
use Rattle.oraddr.specs.declared.add.Attribute as attribute
use Rattle.oraddr.specs.declared.add.Attribute.{Attribute}
use Rattle.oraddr.specs.declared.add.Added.{Added}
use Rattle.oraddr.specs.declared.add.Added.TheVariants.{Done, Refused}
use Rattle.oraddr.specs.declared.add.Addition.{Addition}

-- the number of an attribute in the table of bounds
abbrev pub place_of : Attribute → ℕ
place_of attribute.TheVariants.C = C
place_of attribute.TheVariants.Admd = ADMD
place_of attribute.TheVariants.Prmd = PRMD
place_of attribute.TheVariants.O = O
place_of attribute.TheVariants.Cn = CN
place_of attribute.TheVariants.S = S
place_of attribute.TheVariants.G = G
place_of attribute.TheVariants.I = I
place_of attribute.TheVariants.Gq = GQ

-- what a caller is told: document 01's number, and the record
pub record Outcome : Type 0 where
  pub number : ℕ
  pub record' : Record

-- document 01's number for each answer of an addition
abbrev pub number_of : Added → ℕ
number_of Done = 0
number_of Refused = 4

abbrev pub told : Addition → Outcome
told a = record { number = number_of a.answer; record' = a.record }

-- "the record after it, or the record as it was with refusal 4"
unfoldable pub outcome : Bool → Record → Record → Outcome
outcome allowed new old = cond allowed (record { number = 0; record' = new }) (record { number = 4; record' = old })

-- an attribute that a record has once goes to its place
unfoldable pub set_single : Singles → ℕ → List ℕ → Singles
unfolding text_of
set_single s k v = record { values = set s.values k (value_of v) }

unfoldable pub add_single : Record → ℕ → List ℕ → Outcome
unfolding rule set_single outcome
add_single r k v =
    outcome (rule k v && eqb (get_or r.singles.values k (value_of [])).len 0)
    (record { singles = set_single r.singles k v; units = r.units; dds = r.dds }) r

-- a unit goes behind those that are there
unfoldable pub push_unit : Units → List ℕ → Units
unfolding text_of
push_unit u v = record { count = u.count + 1; names = set u.names u.count (org_unit_of v) }

unfoldable pub add_unit : Record → List ℕ → Outcome
unfolding is_unit push_unit outcome
add_unit r v =
    outcome (is_unit v && ltb r.units.count most)
    (record { singles = r.singles; units = push_unit r.units v; dds = r.dds }) r

-- a DD goes behind those that are there
unfoldable pub push_dd : Dds → DomainDefined → Dds
push_dd d item = record { count = d.count + 1; items = set d.items d.count item }

unfoldable pub add_dd : Record → List ℕ → List ℕ → Outcome
unfolding is_dd push_dd domain_defined_of outcome
add_dd r t v =
    outcome (is_dd (record { kind = t; value = v }) && ltb r.dds.count most)
    (record { singles = r.singles; units = r.units; dds = push_dd r.dds (domain_defined_of t v) }) r
