-- Document 01, "Record to address": record text and the short name form, written.
-- Assumes nothing.
use Rattle.std.specs.Prelude.{ℕ, ◌+◌, ◌*◌, ◌-◌, min, Bool, ◌&&◌, ◌||◌, not, cond, List, [], ◌∷◌, ◌++◌, map, reverse, ltb, eqb, length, get_or, take, drop, replicate}
use Rattle.chars.specs.Lists.{all, non_empty}
use Rattle.oraddr.specs.Bounds.{ADMD, C, CN, dd_type, dd_value, G, GQ, I, O, OU, PRMD, S, bound_of, most, own_levels}
use Rattle.oraddr.specs.Attributes.{Attributes, Dd, single_of}
use Rattle.ortext_segments.specs.Keys.{Keys, ou_key, dd_key, short_keys, key_number}
use Rattle.ortext_name.specs.Name.{Name, is_short, name_text}
use Rattle.ortext_segments.specs.Segments.{Segment}

-- "`$` only before `/` and `=`"
unfoldable pub quoted : List ℕ → List ℕ
quoted [] = []
quoted (x ∷ s) = cond (eqb x 47 || eqb x 61) (36 ∷ x ∷ quoted s) (x ∷ quoted s)

-- `/key=value`, the value quoted
unfoldable pub key_value : List ℕ → List ℕ → List ℕ
unfolding quoted
key_value key v = 47 ∷ key ++ 61 ∷ quoted v

-- the short keys of a table, and whether one of them spells a type, case aside
unfoldable pub has_short : Keys → List ℕ → Bool
unfolding key_number
has_short ks t = ltb (key_number (drop short_keys ks) t) (length (drop short_keys ks))

unfoldable pub short_key : Keys → List ℕ → List ℕ
unfolding key_number
short_key ks t = get_or (drop short_keys ks) (key_number (drop short_keys ks) t) []

-- a DD by `DD.` and its type
unfoldable pub long_dd : Keys → List ℕ → List ℕ → List ℕ
unfolding key_value quoted
long_dd ks t v = key_value (get_or ks dd_key [] ++ 46 ∷ quoted t) v

-- a segment as it is written: "RFC-822 short", case aside
unfoldable pub segment_text : Keys → Segment → List ℕ
unfolding key_value has_short short_key long_dd
segment_text ks g =
    cond (eqb g.key dd_key)
    (cond (has_short ks g.kind) (key_value (short_key ks g.kind) g.value) (long_dd ks g.kind g.value))
    (key_value (get_or ks g.key []) g.value)

-- segments one after the other
unfoldable pub joined : Keys → List Segment → List ℕ
unfolding segment_text
joined ks [] = []
joined ks (g ∷ gs) = segment_text ks g ++ joined ks gs

-- "one or more of `/key=value`, then `/`"
unfoldable pub segments_text : Keys → List Segment → List ℕ
unfolding joined
segments_text ks gs = joined ks gs ++ (47 ∷ [])

-- "order: DDs, G, I, S, GQ, OUs least significant first, O, PRMD, ADMD, C", by the numbers of their keys; request 12: CN is "written after the DDs and
-- before G"
abbrev pub order : List ℕ
order = dd_key ∷ CN ∷ G ∷ I ∷ S ∷ GQ ∷ ou_key ∷ O ∷ PRMD ∷ ADMD ∷ C ∷ []

unfoldable pub dd_segment : Dd → Segment
dd_segment d = record { key = dd_key; kind = d.kind; value = d.value }

unfoldable pub plain_segment : ℕ → List ℕ → Segment
plain_segment k v = record { key = k; kind = []; value = v }

-- the segments with one key; what is absent has none
unfoldable pub segments_at : Attributes → ℕ → List Segment
unfolding dd_segment plain_segment non_empty single_of
segments_at a k =
    cond (eqb k dd_key) (map dd_segment a.dds)
    (cond (eqb k ou_key) (map (plain_segment ou_key) (reverse a.units))
    (cond (non_empty (single_of a k)) (plain_segment k (single_of a k) ∷ []) []))

unfoldable pub segments_in : Attributes → List ℕ → List Segment
unfolding segments_at
segments_in a [] = []
segments_in a (k ∷ ks) = segments_at a k ++ segments_in a ks

unfoldable pub record_text : Keys → Attributes → List ℕ
unfolding segments_text segments_in
record_text ks a = segments_text ks (segments_in a order)

-- what is left of a record when its first n levels went into a domain
unfoldable pub remaining : ℕ → Attributes → Attributes
remaining n a =
    record {
      single = replicate (min n own_levels) [] ++ drop (min n own_levels) a.single;
      units = drop (n - own_levels) a.units;
      dds = a.dds;
    }

unfoldable pub name_in : Attributes → Name
unfolding single_of
name_in a = record { given = single_of a G; initials = single_of a I; surname = single_of a S }

-- "If only a name is left"; request 12: "The short name form is used only if no common name is left."
unfoldable pub only_name : Attributes → Bool
unfolding all non_empty single_of
only_name a =
    all (λ s. not (non_empty s)) (take own_levels a.single)
    && not (non_empty a.units) && not (non_empty (single_of a CN)) && not (non_empty a.dds)

unfoldable pub writes_short : Attributes → Bool
unfolding only_name is_short name_in single_of
writes_short a = only_name a && is_short (name_in a) (single_of a GQ)

-- the local part, before it is quoted for an address
unfoldable pub local_text : Keys → Attributes → List ℕ
unfolding writes_short name_text name_in record_text
local_text ks a = cond (writes_short a) (name_text (name_in a)) (record_text ks a)

-- The longest record text that a canonical record can have, by the table of bounds: every attribute, each value but C's quoted throughout. A
-- segment is a slash, its key, an equals sign and the value.
abbrev pub quoted_most : ℕ → ℕ
quoted_most k = 2 * bound_of k

abbrev pub dd_most : ℕ
dd_most = 5 + quoted_most dd_type + quoted_most dd_value

abbrev pub unit_most : ℕ
unit_most = 4 + quoted_most OU

abbrev pub names_most : ℕ
names_most = (4 + quoted_most CN) + (3 + quoted_most G) + (3 + quoted_most I) + (3 + quoted_most S) + (4 + quoted_most GQ)

abbrev pub levels_most : ℕ
levels_most = most * unit_most + (3 + quoted_most O) + (6 + quoted_most PRMD) + (6 + quoted_most ADMD) + (3 + bound_of C)

abbrev pub longest_text : ℕ
longest_text = most * dd_most + names_most + levels_most + 1

-- ---- what comes back of it

-- a DD type that a short key stands for comes back as the key spells it: RFC-822 in capitals
unfoldable pub spelled_dd : Keys → Dd → Dd
unfolding has_short short_key
spelled_dd ks d = cond (has_short ks d.kind) (record { kind = short_key ks d.kind; value = d.value }) d

unfoldable pub spelled_attributes : Keys → Attributes → Attributes
unfolding spelled_dd
spelled_attributes ks a = record { single = a.single; units = a.units; dds = map (spelled_dd ks) a.dds }
