-- Where each value of a record that is read comes from: what a domain settled and what a local part names, each value entire.
-- Assumes nothing.
use Rattle.std.specs.Prelude.{◌≡◌, true, false, ◌&&◌, not, cond, List, [], ◌∷◌, ◌++◌, map, ℕ, length, set}
use Rattle.std.proofs.Math.Option.{none, some}
use Rattle.chars.specs.Lists.{non_empty}
use Rattle.oraddr.specs.Attributes.{Attributes, single_of}
use Rattle.oraddr.specs.Bounds.{ADMD, C}
use Rattle.oraddr.specs.View.{empty_record, view}
use Rattle.oraddr.specs.declared.record.Record.{Record}
use Rattle.ortext_read.specs.Apply.{name_alone, named, single_keys}
use Rattle.ortext_segments.specs.Keys.{keys}
use Rattle.ortext_name.specs.Name.{Name, read_name}
use Rattle.ortext_segments.specs.Segments.{Segment, read_segments}
use Rattle.mailaddr.specs.Shape.{Address, unquoted_local}
use Rattle.table.specs.Table.{Table, Token}
use Rattle.table_lookup.specs.Lookup.{resolve}
use Rattle.table_settle.specs.Settle as settle
use Rattle.table_settle.specs.Settle.{add_levels, begun}
use Rattle.mapping.specs.Carried.{is_gateway, settled_under}

-- What is settled, and what a local part names, put together. Of the attributes that a record has once, each is the named one where
-- it is named, and else the settled one; the named units stand behind the settled ones, and so do the DDs.
unfoldable pub merged : Attributes → Attributes → Attributes
unfolding non_empty single_of
merged a b =
    record {
      single = map (λ k. cond (non_empty (single_of b k)) (single_of b k) (single_of a k)) single_keys;
      units = a.units ++ b.units;
      dds = a.dds ++ b.dds;
    }

-- Step 4: "C present without ADMD means ADMD is one space (002)".
unfoldable pub completed : Attributes → Attributes
unfolding non_empty single_of
completed a =
    cond (non_empty (single_of a C) && not (non_empty (single_of a ADMD)))
    (record { single = set a.single ADMD (32 ∷ []); units = a.units; dds = a.dds }) a

-- What an unquoted local part names: what its segments name where it is record text (`named`: whole values of segments, and the
-- pieces of the one that is PN), and else the pieces of the name that it is.
pub data NamedBy (s : List ℕ) (b : Attributes) : Type 0 where
  by_segments : (gs : List Segment) → read_segments keys s ≡ some gs → named gs ≡ some b → NamedBy s b
  by_name : (m : Name) → read_segments keys s ≡ none → read_name s ≡ some m → b ≡ name_alone m → NamedBy s b

-- What a domain settles: nothing where it is the gateway's; else the levels that its D row and the parts left over give (`resolve`:
-- whole fields of the row, then whole parts of the domain), all of which were added.
pub data SettledBy (t : Table) (d : List ℕ) (n : ℕ) (r : Record) : Type 0 where
  at_gateway : is_gateway t d ≡ true → n ≡ 0 → r ≡ empty_record → SettledBy t d n r
  by_row : (ts : List Token) → is_gateway t d ≡ false → resolve t.to_path d ≡ some ts → n ≡ length ts
      → add_levels 0 ts (begun empty_record) ≡ begun r → SettledBy t d n r

-- A record is, value by value, what an address's domain settled and what its local part names.
pub record Whole (t : Table) (a : Address) (q : Record) : Type 0 where
  pub count : ℕ
  pub under : Record
  pub names : Attributes
  pub settles : settled_under t a.domain ≡ settle.settled count under
  pub settled : SettledBy t a.domain count under
  pub named : NamedBy (unquoted_local a) names
  pub shows : view q ≡ completed (merged (view under) names)

-- A record is, value by value, what a record text names: the values of its segments, entire, and the pieces of the one that is PN.
pub record WholeText (s : List ℕ) (q : Record) : Type 0 where
  pub segments : List Segment
  pub names : Attributes
  pub reads : read_segments keys s ≡ some segments
  pub named : named segments ≡ some names
  pub shows : view q ≡ completed (merged (view empty_record) names)
