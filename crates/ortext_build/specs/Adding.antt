-- What a record text names, added to a record one attribute at a time.
-- Assumes nothing.
use Rattle.std.specs.Prelude.{ℕ, suc, ◌≤◌, ◌≡◌, cond, List, [], ◌∷◌, map, reverse, eqb, length, take}
use Rattle.std.proofs.Math.Option.{Option, none, some}
use Rattle.chars.specs.Lists.{non_empty}
use Rattle.oraddr.specs.Attributes.{Dd}
use Rattle.oraddr.specs.Bounds.{S, single_count}
use Rattle.oraddr.specs.Add.{Outcome, add_single, add_unit, add_dd}
use Rattle.oraddr.specs.declared.record.Record.{Record}
use Rattle.ortext_name.specs.Name.{Name, read_name}
use Rattle.ortext_segments.specs.Keys.{dd_key, pn_key}
use Rattle.ortext_segments.specs.Scan.{kind_text, span_text}
use Rattle.ortext_segments.specs.declared.scan.Span.{Span}
use Rattle.ortext_named.specs.Named.{is_absent, place_at}
use Rattle.ortext_named.specs.declared.named.DdPlaces.{DdPlaces}
use Rattle.ortext_named.specs.declared.named.Named.{Named}

-- ---- the fold of the additions, which stops at the first refusal

-- the next addition, unless one was refused
unfoldable pub and_then : Outcome → (Record → Outcome) → Outcome
and_then o f = cond (eqb o.number 0) (f o.record') o

unfoldable pub add_singles : ℕ → List (List ℕ) → Outcome → Outcome
unfolding non_empty and_then add_single
add_singles k [] o = o
add_singles k (s ∷ ss) o = add_singles (suc k) ss (cond (non_empty s) (and_then o (λ r. add_single r k s)) o)

unfoldable pub add_units : List (List ℕ) → Outcome → Outcome
unfolding and_then add_unit
add_units [] o = o
add_units (s ∷ ss) o = add_units ss (and_then o (λ r. add_unit r s))

unfoldable pub add_dds : List Dd → Outcome → Outcome
unfolding and_then add_dd
add_dds [] o = o
add_dds (d ∷ ds) o = add_dds ds (and_then o (λ r. add_dd r d.kind d.value))

-- ---- what a text names

abbrev pub dd_at : List ℕ → DdPlaces → Dd
dd_at s d = record { kind = kind_text s dd_key d.kind; value = span_text s d.value }

abbrev pub start : Record → Outcome
start r = record { number = 0; record' = r }

-- the record, where nothing was refused
unfoldable pub done : Outcome → Option Record
done o = cond (eqb o.number 0) (some o.record') none

-- a text at the front of a buffer
pub record Fronted (text : List ℕ) (n : ℕ) (buffer : List ℕ) : Type 0 where
  pub fits : n ≤ length buffer
  pub holds : take n buffer ≡ text

-- the name that a text is read as, added; or the refusal
unfoldable pub add_name : Record → Option Name → Outcome
unfolding add_singles
add_name r none = record { number = 4; record' = r }
add_name r (some n) = add_singles S (n.surname ∷ n.given ∷ n.initials ∷ []) (start r)

unfoldable pub add_pn : List ℕ → Span → Record → Outcome
unfolding add_name read_name span_text
add_pn s p r = cond (is_absent p) (start r) (add_name r (read_name (span_text s p)))

abbrev pub held_singles : List ℕ → Named → List (List ℕ)
held_singles s m = map (span_text s) (take single_count m.once)

abbrev pub held_units : List ℕ → Named → List (List ℕ)
held_units s m = reverse (map (span_text s) (take m.unit_count m.units))

abbrev pub held_dds : List ℕ → Named → List Dd
held_dds s m = map (dd_at s) (take m.dd_count m.dds)

-- the attributes that stand once, the name that PN gives, the units, the rightmost first, and the DDs
unfoldable pub add_held : List ℕ → Named → Record → Outcome
unfolding add_singles and_then add_pn add_units add_dds
add_held s m r =
    add_dds (held_dds s m) (add_units (held_units s m) (and_then (add_singles 0 (held_singles s m) (start r)) (add_pn s (place_at m pn_key))))
