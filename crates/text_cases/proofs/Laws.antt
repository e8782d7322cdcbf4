-- Laws of the additions that settle levels: none changes the DDs.
-- Assumes nothing.
use mathlib.Core.Path.{◌≡◌, refl, ap, ◌∙◌}
use mathlib.Core.Bool.{Bool, true, false, ◌&&◌}
use mathlib.Core.List.{List, []}
use Prim.Native.Nat.{ℕ}
use lib.Dec.{eqb, ltb}
use lib.ListN.{get_or}
use Rattle.oraddr.specs.Add.{Outcome, add_single, add_unit, outcome, push_unit, set_single, told}
use Rattle.oraddr.specs.Bounds.{most, rule}
use Rattle.oraddr.specs.Canonical.{is_unit}
use Rattle.oraddr.specs.View.{value_of}
use Rattle.oraddr.specs.declared.add.Addition.{Addition}
use Rattle.oraddr.specs.declared.record.Record.{Record}

outcome-dds : (allowed : Bool) (new old : Record) → new.dds ≡ old.dds → (outcome allowed new old).record'.dds ≡ old.dds
unfolding outcome
outcome-dds true new old e = e
outcome-dds false new old e = refl

pub single-dds : (a : Addition) (r : Record) (k : ℕ) (v : List ℕ) → told a ≡ add_single r k v → a.«record».dds ≡ r.dds
unfolding add_single
single-dds a r k v e =
    ap (λ (o : Outcome). o.record'.dds) e
    ∙ outcome-dds (rule k v && eqb (get_or r.singles.values k (value_of [])).len 0)
    (record { singles = set_single r.singles k v; units = r.units; dds = r.dds }) r refl

pub unit_dds : (a : Addition) (r : Record) (v : List ℕ) → told a ≡ add_unit r v → a.«record».dds ≡ r.dds
unfolding add_unit
unit_dds a r v e =
    ap (λ (o : Outcome). o.record'.dds) e
    ∙ outcome-dds (is_unit v && ltb r.units.count most)
    (record { singles = r.singles; units = push_unit r.units v; dds = r.dds }) r refl
