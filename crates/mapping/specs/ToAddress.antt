-- Document 01, "Record to address": carriers, the row that a record goes out under, and the whole mapping, over a table and over a
-- table text.
-- Assumes nothing.
use Rattle.std.specs.Prelude.{ℕ, ◌+◌, Bool, false, ◌&&◌, not, cond, List, [], ◌∷◌, length, drop}
use Rattle.std.proofs.Math.Option.{Option, none, some}
use Rattle.chars.specs.Lists.{all, non_empty}
use Rattle.oraddr.specs.Bounds.{own_levels}
use Rattle.chars.specs.Case.{same_text}
use Rattle.oraddr.specs.Attributes.{Attributes, Dd, levels}
use Rattle.oraddr.specs.Canonical.{canonical_record}
use Rattle.oraddr.specs.View.{view}
use Rattle.oraddr.specs.declared.record.Record.{Record}
use Rattle.ortext_segments.specs.Keys.{keys}
use Rattle.ortext_write.specs.Write.{local_text, remaining}
use Rattle.mailaddr.specs.Code.{decoded}
use Rattle.mailaddr.specs.Domain.{in_front}
use Rattle.mailaddr.specs.Shape.{address_text, shape_of}
use Rattle.table.specs.Table.{Row, Table, Token}
use Rattle.table.specs.Lines.{TableOutcome, loaded_from, malformed, well_formed}
use Rattle.table_lookup.specs.Begins.{begins_by, look_by}
use Rattle.table_lookup.specs.Lookup.{begins, by_path, extension, look}
use Rattle.mapping.specs.Carried.{carrier_type, is_none}
use Rattle.mapping.specs.Results.{AddressResult, malformed_address, placed, refused_address}

-- ---- carriers

-- the levels are those of a path and no more; case aside, an omitted level being absent
unfoldable pub has_levels : List Token → List Token → Bool
unfolding begins_by same_text all non_empty
has_levels path ls = begins path ls && all (λ l. not (non_empty l)) (drop (length path) ls)

-- "no name": neither S nor G, I or GQ; request 12: "A carrier has no common name." They stand behind the levels.
unfoldable pub is_nameless : Attributes → Bool
unfolding all non_empty
is_nameless a = all (λ s. not (non_empty s)) (drop own_levels a.single)

-- "and one DD of type RFC-822"
unfoldable pub is_one_carrier : List Dd → Bool
unfolding same_text
is_one_carrier [] = false
is_one_carrier (d ∷ []) = same_text carrier_type d.kind
is_one_carrier (d ∷ e ∷ ds) = false

-- document 01: "A **carrier** is the gateway's path, no name, and one DD of type RFC-822." The path and the levels are arguments.
abbrev pub is_carrier_at : List Token → List Token → Attributes → Bool
is_carrier_at path ls a = has_levels path ls && is_nameless a && is_one_carrier a.dds

unfoldable pub is_carrier : Table → Attributes → Bool
unfolding has_levels levels is_nameless is_one_carrier
is_carrier t a = is_carrier_at t.gateway.path (levels a) a

-- the value of a carrier
unfoldable pub carried_value : List Dd → List ℕ
carried_value [] = []
carried_value (d ∷ ds) = d.value

-- "the decoded text is the address"; none where it does not decode, or is of no accepted shape
unfoldable pub in_shape : Option (List ℕ) → Option (List ℕ)
unfolding is_none shape_of
in_shape none = none
in_shape (some s) = cond (is_none (shape_of s)) none (some s)

unfoldable pub carried_address : List Dd → Option (List ℕ)
unfolding in_shape decoded carried_value
carried_address ds = in_shape (decoded (carried_value ds))

-- ---- any other record

-- "Later levels go in front of its domain": the nearest first
unfoldable pub extended : List ℕ → List Token → List ℕ
unfolding in_front
extended d [] = d
extended d (p ∷ ps) = extended (in_front p d) ps

-- How a record goes out: how many of its levels the domain tells, and the domain.
pub record Plan : Type 0 where
  pub from : ℕ
  pub domain : List ℕ

-- "Later levels go in front of its domain while present and domain parts; the first that is not stops this."
unfoldable pub plan_under : Row → List Token → Plan
unfolding extended extension
plan_under r ls =
    let x : List Token = extension (drop (length r.path) ls) in
    record { from = length r.path + length x; domain = extended r.domain x }

-- "take the R row with the longest path that begins the record's levels, an omitted PRMD matching an absent one"; "With no row, all of
-- it goes" in the local part, "at the gateway's domain."
unfoldable pub plan_by : Table → List Token → Option Row → Plan
unfolding plan_under
plan_by t ls none = record { from = 0; domain = t.gateway.domain }
plan_by t ls (some r) = plan_under r ls

unfoldable pub plan : Table → List Token → Plan
unfolding plan_by look_by same_text
plan t ls = plan_by t ls (look by_path t.to_domain ls)

-- "What is left goes in the local part."
unfoldable pub planned : Plan → Attributes → List ℕ
unfolding address_text local_text keys remaining
planned p a = address_text (local_text keys (remaining p.from a)) p.domain

-- ---- the whole

-- the text of a record's address, or none: "a carrier whose value does not decode to an address of accepted shape"
unfoldable pub address_of : Table → Attributes → Option (List ℕ)
unfolding is_carrier carried_address planned plan levels
address_of t a = cond (is_carrier t a) (carried_address a.dds) (some (planned (plan t (levels a)) a))

unfoldable pub placed_in : List ℕ → Option (List ℕ) → AddressResult
unfolding refused_address placed
placed_in old none = refused_address 5 old
placed_in old (some s) = placed s old

-- a record to an address in a buffer, under a table: "Record to address: 7, 4, 5, 6"
unfoldable pub to_address : Table → Record → List ℕ → AddressResult
unfolding canonical_record placed_in address_of view refused_address
to_address t r old = cond (canonical_record r) (placed_in old (address_of t (view r))) (refused_address 4 old)

-- the same under what a table text comes to
unfoldable pub to_address_by : TableOutcome → Record → List ℕ → AddressResult
unfolding malformed_address to_address
to_address_by (malformed l) r old = malformed_address l old
to_address_by (well_formed t) r old = to_address t r old

-- a record to an address in a buffer, under a table text
unfoldable pub record_to_address : List ℕ → Record → List ℕ → AddressResult
unfolding to_address_by loaded_from
record_to_address table r old = to_address_by (loaded_from table) r old
