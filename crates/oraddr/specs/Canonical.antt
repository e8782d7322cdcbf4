-- Document 01: "canonical".
-- Assumes nothing.
use Rattle.std.specs.Prelude.{ℕ, suc, Bool, true, ◌&&◌, ◌||◌, not, List, [], ◌∷◌, leb, length}
use Rattle.chars.specs.Lists.{all, non_empty}
use Rattle.oraddr.specs.Bounds.{C, ADMD, S, G, I, GQ, CN, OU, dd_type, dd_value, most, is_value, rule}
use Rattle.oraddr.specs.Attributes.{Attributes, Dd, single_of}
use Rattle.oraddr.specs.View.{in_range, view, singles_in_range, singles_view, units_in_range, units_view, dds_in_range, dds_view}
use Rattle.oraddr.specs.declared.record.Singles.{Singles}
use Rattle.oraddr.specs.declared.record.Units.{Units}
use Rattle.oraddr.specs.declared.record.Dds.{Dds}
use Rattle.oraddr.specs.declared.record.Record.{Record}

-- an attribute that a record has once: absent, or a value that keeps the attribute's own rule
unfoldable pub kept : ℕ → List ℕ → Bool
unfolding non_empty rule
kept k s = not (non_empty s) || rule k s

-- the same of a list of them, the first having the number k
unfoldable pub all_kept : ℕ → List (List ℕ) → Bool
unfolding kept
all_kept k [] = true
all_kept k (s ∷ ss) = kept k s && all_kept (suc k) ss

-- a unit, and a DD, by its own rule
unfoldable pub is_unit : List ℕ → Bool
unfolding is_value
is_unit s = is_value OU s

unfoldable pub is_dd : Dd → Bool
unfolding is_value
is_dd d = is_value dd_type d.kind && is_value dd_value d.value

-- what "canonical" asks of each part of a record struct, its lengths and counts included
unfoldable pub canonical_singles : Singles → Bool
unfolding singles_in_range all_kept singles_view
canonical_singles s = singles_in_range s && all_kept 0 (singles_view s)

unfoldable pub canonical_units : Units → Bool
unfolding units_in_range all is_unit units_view
canonical_units u = units_in_range u && leb (length (units_view u)) most && all is_unit (units_view u)

unfoldable pub canonical_dds : Dds → Bool
unfolding dds_in_range all is_dd dds_view
canonical_dds d = dds_in_range d && leb (length (dds_view d)) most && all is_dd (dds_view d)

-- document 01: "G, I, GQ only with S"
unfoldable pub names_with_surname : Attributes → Bool
unfolding single_of non_empty
names_with_surname a =
    non_empty (single_of a S)
    || not (non_empty (single_of a G)) && not (non_empty (single_of a I)) && not (non_empty (single_of a GQ))

-- request 12: "A canonical record now has S, a common name or at least one DD."
unfoldable pub identified : Attributes → Bool
unfolding single_of non_empty
identified a = non_empty (single_of a S) || non_empty (single_of a CN) || non_empty a.dds

-- document 01: "canonical", sentence by sentence
unfoldable pub canonical : Attributes → Bool
unfolding single_of non_empty all_kept all is_unit is_dd names_with_surname identified
canonical a =
    non_empty (single_of a C) && non_empty (single_of a ADMD)
    && all_kept 0 a.single
    && leb (length a.units) most && all is_unit a.units
    && leb (length a.dds) most && all is_dd a.dds
    && names_with_surname a
    && identified a

-- a record struct is any input: one with a length or a count out of range is not canonical
unfoldable pub canonical_record : Record → Bool
unfolding in_range canonical view
canonical_record r = in_range r && canonical (view r)
