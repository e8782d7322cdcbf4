-- For each clause of "carried whole", in document 01's order, an address for which it alone holds, and a neighbour for which none does: one
-- table, computed.
-- Assumes nothing.
use mathlib.Core.Path.{◌≡◌, refl}
use mathlib.Core.Bool.{Bool, true, false}
use mathlib.Core.List.{List, [], ◌∷◌, map}
use mathlib.Core.Option.{Option, none, some}
use Prim.Native.Nat.{ℕ}
use lib.Dec.{eqb}
use Rattle.chars.specs.Lists.{bytes}
use Rattle.chars.specs.Spaces.{adjacent}
use Rattle.mailaddr.specs.Shape.{Address, shape_of}
use Rattle.table.specs.Table.{Table}
use Rattle.mapping.specs.Carried.{carried_whole, has_local_other, has_local_spaces, has_other_part, is_local_empty, is_not_canonical, names_both, names_no_name, names_settled, names_twice, names_unknown, no_row_matches, passes_bound, passes_units, reads_neither}

-- document 01's table of `orroute`, and a row that settles all levels but OU4
unfoldable pub ports : Table
unfolding bytes
ports =
    record {
      gateway = record { domain = bytes "gw.survey.test"; path = bytes "XY" ∷ bytes " " ∷ bytes "SURVEY" ∷ [] };
      to_path =
          record { domain = bytes "tow.test"; path = bytes "XY" ∷ bytes "PORTNET" ∷ bytes "TOW" ∷ [] }
          ∷ record { domain = bytes "deep.test"; path = bytes "XY" ∷ bytes "PORTNET" ∷ bytes "TOW" ∷ bytes "brack" ∷ bytes "u1" ∷ bytes "u2" ∷ bytes "u3" ∷ [] }
          ∷ [];
      to_domain = [];
    }

-- which of the clauses hold of an address of accepted shape
unfoldable pub clauses : Option Address → List Bool
unfolding ports no_row_matches has_other_part passes_bound passes_units is_local_empty has_local_spaces has_local_other reads_neither names_unknown names_twice names_both names_no_name names_settled is_not_canonical
clauses none = []
clauses (some a) =
    no_row_matches ports a ∷ has_other_part a ∷ passes_bound ports a ∷ passes_units ports a ∷ is_local_empty a ∷ has_local_spaces a
    ∷ has_local_other a ∷ reads_neither a ∷ names_unknown a ∷ names_twice a ∷ names_both a ∷ names_no_name a ∷ names_settled ports a
    ∷ is_not_canonical ports a ∷ []

unfoldable pub holding : List ℕ → List Bool
unfolding clauses shape_of
holding s = clauses (shape_of s)

-- whether an address of accepted shape is carried whole
unfoldable pub is_carried : Option Address → Bool
unfolding ports carried_whole
is_carried none = false
is_carried (some a) = carried_whole ports a

unfoldable pub carried_text : List ℕ → Bool
unfolding is_carried shape_of
carried_text s = is_carried (shape_of s)

-- of fourteen, the one with the number k, from 1; none with 0
abbrev pub numbers : List ℕ
numbers = 1 ∷ 2 ∷ 3 ∷ 4 ∷ 5 ∷ 6 ∷ 7 ∷ 8 ∷ 9 ∷ 10 ∷ 11 ∷ 12 ∷ 13 ∷ 14 ∷ []

abbrev pub only : ℕ → List Bool
only k = map (eqb k) numbers

-- an address for each clause, and its neighbour
unfoldable pub alone : List (List ℕ)
unfolding bytes
alone =
    bytes "Ann.Lee@else.test"
    ∷ bytes "Ann.Lee@a+b.tow.test"
    ∷ bytes "Ann.Lee@abcdefghijklmnopqrstuvwxyz0123456.brack.tow.test"
    ∷ bytes "Ann.Lee@a.b.deep.test"
    ∷ bytes "\"\"@brack.tow.test"
    ∷ bytes "\"Ann  Lee\"@brack.tow.test"
    ∷ bytes "Ann_Lee@brack.tow.test"
    ∷ bytes "\"Ann.\"@brack.tow.test"
    ∷ bytes "/S=Lee/CX=x/@brack.tow.test"
    ∷ bytes "/S=Lee/S=Lee/@brack.tow.test"
    ∷ bytes "/PN=Lee/GQ=x/@brack.tow.test"
    ∷ bytes "\"/PN=Ann./\"@brack.tow.test"
    ∷ bytes "/S=Lee/O=brack/@brack.tow.test"
    ∷ bytes "/G=Ann/@brack.tow.test"
    ∷ []

unfoldable pub beside : List (List ℕ)
unfolding bytes
beside =
    bytes "Ann.Lee@brack.tow.test"
    ∷ bytes "Ann.Lee@ab.tow.test"
    ∷ bytes "Ann.Lee@abcdefghijklmnopqrstuvwxyz012345.brack.tow.test"
    ∷ bytes "Ann.Lee@a.deep.test"
    ∷ bytes "\"L\"@brack.tow.test"
    ∷ bytes "\"Ann Lee\"@brack.tow.test"
    ∷ bytes "Ann-Lee@brack.tow.test"
    ∷ bytes "\"Ann.L\"@brack.tow.test"
    ∷ bytes "/S=Lee/CN=x/@brack.tow.test"
    ∷ bytes "/S=Lee/OU=Lee/OU=Lee/@brack.tow.test"
    ∷ bytes "/PN=Lee/OU=x/@brack.tow.test"
    ∷ bytes "\"/PN=Ann.L/\"@brack.tow.test"
    ∷ bytes "/S=Lee/OU=brack/@brack.tow.test"
    ∷ bytes "/G=Ann/S=Lee/@brack.tow.test"
    ∷ []

pub each-alone : map holding alone ≡ map only numbers
unfolding holding alone adjacent bytes
each-alone = refl

pub none_beside : map holding beside ≡ map (λ _. only 0) numbers
unfolding holding beside adjacent bytes
none_beside = refl

-- so the one is carried whole, and the other is not
pub alone-carried : map carried_text alone ≡ map (λ _. true) numbers
unfolding carried_text alone adjacent bytes
alone-carried = refl

pub beside-mapped : map carried_text beside ≡ map (λ _. false) numbers
unfolding carried_text beside adjacent bytes
beside-mapped = refl
