-- The page that a reader must believe: what Lesogrom promises, over the definitions that the contracts of `src/entry.rt` cite.
-- Each entry point's result is an equation to one of them (`address_to_record`, `record_to_address`, or for a list `to_record_by`, `to_address_by`; `add_single`, `add_unit`, `add_dd`, `record_of_text`,
-- `text_of_record`, `utc_to_date`, `date_to_utc`, `restrict_text`, `unrestrict_text`, `phrase_place`), or says `Demand3`, `Routing`, `TailShown` (of `shared_tail`)
-- or `Shows` (of `read_mailbox`) of it. `proofs/Promises.antt` proves every statement of this page.
-- Assumes nothing.
use Rattle.std.specs.Prelude.{◌≡◌, ◌⊎◌, Bool, true, false, cond, not, List, [], ◌∷◌, ◌++◌, map, ℕ, ◌+◌, ◌/◌, ◌%◌, ◌≤◌, ◌<◌, eqb, ltb, length, take, drop, replicate, set, Some}
use Rattle.std.proofs.Math.Option.{none, some}
use Rattle.chars.specs.Lists.{all, bytes, member}
use Rattle.chars.specs.Case.{agree, same_text}
use Rattle.chars.specs.Parts.{at, is_atoms}
use Rattle.chars.specs.Write.{TextResult, front, placed_text, refused_text}
use Rattle.oraddr.specs.Add.{Outcome, add_dd, add_single, add_unit}
use Rattle.oraddr.specs.Bounds.{bounds, level_count, most, single_count}
use Rattle.oraddr.specs.Canonical.{canonical_record}
use Rattle.oraddr.specs.Same.{same_record}
use Rattle.oraddr.specs.View.{empty_record, view}
use Rattle.oraddr.specs.declared.record.Record.{Record}
use Rattle.ortext_name.specs.Name.{Name, is_short, name_text, read_name}
use Rattle.ortext_segments.specs.Keys.{keys}
use Rattle.ortext_segments.specs.Segments.{Segment, read_segments}
use Rattle.ortext_read.specs.Apply.{named, read}
use Rattle.ortext_write.specs.Write.{record_text, remaining, spelled_attributes}
use Rattle.mailaddr.specs.Code.{coded}
use Rattle.mailaddr.specs.Domain.{domain_of, parts_of}
use Rattle.mailaddr.specs.Shape.{Address, longest_address, shape_of, unquoted_local}
use Rattle.mailaddr.specs.Tail.{shared, shared_tail, tail_place}
use Rattle.table.specs.FirstBad.{FirstBad, NoneBad}
use Rattle.table.specs.Lines.{Line, TableOutcome, loaded_from, longest_gateway_domain, longest_row_domain, longest_table, malformed, most_rows, table_lines, well_formed}
use Rattle.table.specs.Table.{Table}
use Rattle.rowlist.specs.Entries.{most_entries}
use Rattle.rowlist.specs.declared.RowEntry.{RowEntry}
use Rattle.rowlist_load.specs.Listed.{entry_line, fields_of, lines_text, listed_from}
use Rattle.mapping.specs.Answers.{is_good, read_well}
use Rattle.mapping.specs.Carried.{carried_whole, carrier_of, carrier_type, longest_coded, result_of}
use Rattle.mapping.specs.Results.{AddressResult, RecordResult, malformed_address, malformed_record, mapped, refused_address, refused_record}
use Rattle.mapping.specs.ToAddress.{address_of, is_carrier, record_to_address, to_address, to_address_by}
use Rattle.mapping.specs.ToRecord.{address_to_record, record_in, to_record_by}
use Rattle.mapping.specs.Whole.{Whole, WholeText}
use Rattle.soundness.specs.Check.{CheckResult, Demand3}
use Rattle.soundness.specs.Sound.{HasRoom, IsStruct, Sound, Witness, text_of}
use Rattle.dates.specs.Convert.{date_to_utc, utc_to_date}
use Rattle.date_read.specs.Date.{is_date}
use Rattle.date_read.specs.Read.{read_date, read_utc}
use Rattle.dates.specs.Write.{date_text, utc_text}
use Rattle.date_read.specs.declared.date.DateTime.{DateTime}
use Rattle.restricted.specs.Atoms.{is_coded_atoms}
use Rattle.chars.specs.Class.{is_char}
use Rattle.restricted.specs.Code.{coded as codedRestricted, decoded as decodedRestricted}
use Rattle.restricted.specs.Convert.{restrict_text, unrestrict_text}
use Rattle.lexical.specs.Nesting.{nests_too_deep}
use Rattle.lexical.specs.Tokens.{longest_line}
use Rattle.mailbox.specs.Mailbox.{Bare, bare_in, bare_text, empty_start, local_text, phrase_place, read as readAs, read_mailbox, reading}
use Rattle.mailbox.specs.Needless.{no_needless}
use Rattle.router_line.specs.Line.{answer_room, longest_line as longestRouted}
use Rattle.router.specs.Run.{Calls, Routing, whole}
use Rattle.router.specs.declared.run.Routed.{Routed}
use Rattle.gateway_pack.specs.Packed.{length_limit, number_limit, packed_count, packed_place, packed_text, place_limit}
use Rattle.gateway_text.specs.Texts.{record_of_text, text_of_record}
use Rattle.gateway_export.specs.Exports.{packed, text_result, text_to_address_by}
use Rattle.gateway.specs.Exports.{address_to_text, text_to_address}

-- What every record struct has: as many values, units and DDs as its type says. (The definitions are over lists, which could have any length.)
-- `is_struct` of `src/lib.rt` takes any record and promises this of it, so that no promise about records leaves one out.
pub record Struct (r : Record) : Type 0 where
  pub values : IsStruct r
  pub units : length r.units.names ≡ most
  pub dds : length r.dds.items ≡ most

-- ---- where a table comes from

-- a table text, or a list of entries over a text
pub data Source : Type 0 where
  text : List ℕ → Source
  list : List ℕ → List RowEntry → Source

-- the table that it spells, or the number of its first bad line or entry
abbrev pub spelling : Source → TableOutcome
spelling (text table) = loaded_from table
spelling (list s rows) = listed_from s rows

-- the two mappings under it, and for C
abbrev pub address_to : Source → List ℕ → RecordResult
address_to x s = to_record_by (spelling x) s

abbrev pub record_to : Source → Record → List ℕ → AddressResult
record_to x r old = to_address_by (spelling x) r old

-- What the entry points for a text are equal to is this of a text; those for a list are equal to this of a list.
pub record Texts : Type 0 where
  pub to_record_lem : (table s : List ℕ) → address_to_record table s ≡ address_to (text table) s
  pub to_address_lem : (table : List ℕ) (r : Record) (old : List ℕ) → record_to_address table r old ≡ record_to (text table) r old
  pub address-text : (table s old : List ℕ) → address_to_text table s old ≡ text_result (address_to (text table) s) old
  pub text-address : (table s old : List ℕ) → text_to_address table s old ≡ text_to_address_by (spelling (text table)) s old

-- ---- demand 1: each call ends with a result or a numbered refusal; a refusal returns an empty record or length 0 and leaves the lent buffer as it
-- was. No attribute is ever shortened.

-- a record with 0, or one of these numbers and an empty record
abbrev pub EndsRecord : List ℕ → ℕ → Record → Type 0
EndsRecord numbers n r = (n ≡ 0) ⊎ ((member n numbers ≡ true) × (r ≡ empty_record))

-- an addition: 0, or 4 and "the record as it was"
abbrev pub EndsAddition : Record → Outcome → Type 0
EndsAddition r o = (o.number ≡ 0) ⊎ ((o.number ≡ 4) × (o.record' ≡ r))

-- 0 with a text at the front of the buffer and the rest as before; or one of these numbers, length 0 and the buffer as it was
pub record Written (old : List ℕ) (o : TextResult) : Type 0 where
  pub done : o.number ≡ 0
  pub fits : o.size ≤ length old
  pub same : length o.buffer ≡ length old
  pub rest : drop o.size o.buffer ≡ drop o.size old

pub record Left (numbers old : List ℕ) (o : TextResult) : Type 0 where
  pub number : member o.number numbers ≡ true
  pub size : o.size ≡ 0
  pub buffer : o.buffer ≡ old

abbrev pub EndsBuffer : List ℕ → List ℕ → TextResult → Type 0
EndsBuffer numbers old o = Written old o ⊎ Left numbers old o

-- what record to address comes to as any text in a lent buffer does, which has no line
abbrev pub without_line : AddressResult → TextResult
without_line o = record { number = o.number; size = o.size; buffer = o.buffer }

-- Each value entire: what is added; what is read of an address, of one carried whole, and of a record text; and what is written, which reads back
-- byte for byte, save that the DD type RFC-822 comes back in capitals.
pub record Unshortened : Type 0 where
  pub added : (r : Record) (k : ℕ) (v : List ℕ) → (add_single r k v).number ≡ 0
      → view (add_single r k v).record' ≡ record { single = set (view r).single k v; units = (view r).units; dds = (view r).dds }
  pub added_unit : (r : Record) (v : List ℕ) → Struct r → (add_unit r v).number ≡ 0
      → view (add_unit r v).record' ≡ record { single = (view r).single; units = (view r).units ++ (v ∷ []); dds = (view r).dds }
  pub added-dd : (r : Record) (t v : List ℕ) → Struct r → (add_dd r t v).number ≡ 0
      → view (add_dd r t v).record' ≡ record { single = (view r).single; units = (view r).units; dds = (view r).dds ++ (record { kind = t; value = v } ∷ []) }
  pub address_read : (table : Source) (s : List ℕ) (t : Table) (a : Address) → spelling table ≡ well_formed t → length s ≤ longest_address → shape_of s ≡ some a
      → carried_whole t a ≡ false → Whole t a (address_to table s).record'
  pub address-carried : (table : Source) (s : List ℕ) (t : Table) (a : Address) → spelling table ≡ well_formed t → length s ≤ longest_address → shape_of s ≡ some a
      → carried_whole t a ≡ true → (address_to table s).number ≡ 0
      → (view (address_to table s).record').dds ≡ record { kind = carrier_type; value = coded s } ∷ []
  pub text-read : (s : List ℕ) → (record_of_text s).number ≡ 0 → WholeText s (record_of_text s).record'
  -- of the record text of what is left of a record behind any number of its levels; and of the short form of a name
  pub text-written : (r : Record) (n : ℕ) → Struct r → canonical_record r ≡ true → let b = remaining n (view r) in
      (gs : List Segment) × (read_segments keys (record_text keys b) ≡ some gs) × (named gs ≡ some (spelled_attributes keys b))
  pub name_written : (m : Name) (gq : List ℕ) → is_short m gq ≡ true → read_name (name_text m) ≡ some m

pub record Demand1 : Type 0 where
  pub to_record_lem : (table : Source) (s : List ℕ) → EndsRecord (1 ∷ 2 ∷ 3 ∷ 7 ∷ []) (address_to table s).number (address_to table s).record'
  pub to_address_lem : (table : Source) (r : Record) (old : List ℕ) → EndsBuffer (4 ∷ 5 ∷ 6 ∷ 7 ∷ []) old (without_line (record_to table r old))
  pub read_record : (s : List ℕ) → EndsRecord (4 ∷ []) (record_of_text s).number (record_of_text s).record'
  pub write_record : (r : Record) (old : List ℕ) → EndsBuffer (4 ∷ 6 ∷ []) old (without_line (text_of_record r old))
  pub address-text : (table : Source) (s old : List ℕ) → EndsBuffer (1 ∷ 2 ∷ 3 ∷ 6 ∷ 7 ∷ []) old (without_line (text_result (address_to table s) old))
  pub text-address : (table : Source) (s old : List ℕ) → EndsBuffer (4 ∷ 5 ∷ 6 ∷ 7 ∷ []) old (without_line (text_to_address_by (spelling table) s old))
  pub add : (r : Record) (k : ℕ) (v : List ℕ) → EndsAddition r (add_single r k v)
  pub add_unit_lem : (r : Record) (v : List ℕ) → EndsAddition r (add_unit r v)
  pub add-dd : (r : Record) (t v : List ℕ) → EndsAddition r (add_dd r t v)
  pub unshortened : Unshortened

-- ---- demand 2: the mapping is document 01's, both ways, each refusal exactly when its rule says. An address carried whole comes back to the byte.

-- "Order, address to record: 7, 2, 1, 3": one line a case, and no two can hold at once
pub record RecordRules (table : Source) (s : List ℕ) : Type 0 where
  pub seven : (n : ℕ) → spelling table ≡ malformed n → address_to table s ≡ malformed_record n
  pub two : (t : Table) → spelling table ≡ well_formed t → longest_address < length s → address_to table s ≡ refused_record 2
  pub one : (t : Table) → spelling table ≡ well_formed t → length s ≤ longest_address → shape_of s ≡ none → address_to table s ≡ refused_record 1
  pub three : (t : Table) (a : Address) → spelling table ≡ well_formed t → length s ≤ longest_address → shape_of s ≡ some a → carried_whole t a ≡ true
      → longest_coded < length (coded s) → address_to table s ≡ refused_record 3
  pub carried : (t : Table) (a : Address) → spelling table ≡ well_formed t → length s ≤ longest_address → shape_of s ≡ some a → carried_whole t a ≡ true
      → length (coded s) ≤ longest_coded → address_to table s ≡ mapped (carrier_of t.gateway.path s)
  pub read_in : (t : Table) (a : Address) → spelling table ≡ well_formed t → length s ≤ longest_address → shape_of s ≡ some a → carried_whole t a ≡ false
      → (address_to table s ≡ mapped (record_in (result_of t a))) × (result_of t a ≡ read (record_in (result_of t a)))

-- "Record to address: 7, 4, 5, 6"
pub record AddressRules (table : Source) (r : Record) (old : List ℕ) : Type 0 where
  pub seven : (n : ℕ) → spelling table ≡ malformed n → record_to table r old ≡ malformed_address n old
  pub four : (t : Table) → spelling table ≡ well_formed t → canonical_record r ≡ false → record_to table r old ≡ refused_address 4 old
  pub five : (t : Table) → spelling table ≡ well_formed t → canonical_record r ≡ true → address_of t (view r) ≡ none
      → record_to table r old ≡ refused_address 5 old
  pub six : (t : Table) (s : List ℕ) → spelling table ≡ well_formed t → canonical_record r ≡ true → address_of t (view r) ≡ some s
      → length old < length s → record_to table r old ≡ refused_address 6 old
  pub done : (t : Table) (s : List ℕ) → spelling table ≡ well_formed t → canonical_record r ≡ true → address_of t (view r) ≡ some s
      → length s ≤ length old → record_to table r old ≡ record { number = 0; line = 0; size = length s; buffer = front s old }

-- 7, "the table is malformed", with the "number of the first bad line"; it is well-formed exactly when no line is bad
pub record TableRules (table : List ℕ) : Type 0 where
  pub first-bad : (n : ℕ) → loaded_from table ≡ malformed n
      → ((longest_table < length table) × (n ≡ 0)) ⊎ ((length table ≤ longest_table) × FirstBad (table_lines table) n)
  pub bad-first : (n : ℕ) → length table ≤ longest_table → FirstBad (table_lines table) n → loaded_from table ≡ malformed n
  pub well_formed_lem : (t : Table) → loaded_from table ≡ well_formed t → (length table ≤ longest_table) × NoneBad (table_lines table)
  pub formed_well : length table ≤ longest_table → NoneBad (table_lines table) → (t : Table) × (loaded_from table ≡ well_formed t)

-- The same of a list, whose entries stand for lines: "its number counted in list entries, the gateway entry being 1; the 65,536 bytes bound the text
-- alone and ask nothing of a list". An empty list is bad at 1.
pub record ListRules (s : List ℕ) (rows : List RowEntry) : Type 0 where
  pub first-bad : (n : ℕ) → listed_from s rows ≡ malformed n → ((rows ≡ []) × (n ≡ 1)) ⊎ FirstBad (map (entry_line s) rows) n
  pub bad-first : (n : ℕ) → FirstBad (map (entry_line s) rows) n → listed_from s rows ≡ malformed n
  pub well_formed_lem : (t : Table) → listed_from s rows ≡ well_formed t → (rows ≡ [] → ⊥) × NoneBad (map (entry_line s) rows)
  pub formed_well : (rows ≡ [] → ⊥) → NoneBad (map (entry_line s) rows) → (t : Table) × (listed_from s rows ≡ well_formed t)
  -- entries past the 514th change nothing, since that is bad: the gateway's entry and 512 rows are all that there may be
  pub front : listed_from s (take most_entries rows) ≡ listed_from s rows
  -- a list whose entries have the fields of a text's lines gives the same table, or the same number
  pub same : (table : List ℕ) → length table ≤ longest_table → all (λ (l : Line). l.ended) (map (entry_line s) rows) ≡ true
      → all (λ (l : Line). l.ended) (table_lines table) ≡ true → map fields_of (map (entry_line s) rows) ≡ map fields_of (table_lines table)
      → listed_from s rows ≡ loaded_from table
  -- and a list that gives a table can be written as a text that gives the same, where that fits
  pub written : (t : Table) → listed_from s rows ≡ well_formed t → length (lines_text (map (entry_line s) rows)) ≤ longest_table
      → loaded_from (lines_text (map (entry_line s) rows)) ≡ well_formed t

pub record Demand2 : Type 0 where
  pub tables : (table : List ℕ) → TableRules table
  pub lists : (s : List ℕ) (rows : List RowEntry) → ListRules s rows
  -- one of the clauses of "carried whole" holds exactly where the domain is not of domain parts or the four steps come to no canonical record
  pub carried_exactly : (t : Table) (a : Address) → carried_whole t a ≡ not (is_good (read_well t a))
  pub to_record_lem : (table : Source) (s : List ℕ) → RecordRules table s
  pub to_address_lem : (table : Source) (r : Record) (old : List ℕ) → AddressRules table r old
  pub carried-back : (table : Source) (s old : List ℕ) (t : Table) (a : Address) → spelling table ≡ well_formed t → length s ≤ longest_address → shape_of s ≡ some a
      → carried_whole t a ≡ true → (address_to table s).number ≡ 0 → length s ≤ length old
      → record_to table (address_to table s).record' old ≡ record { number = 0; line = 0; size = length s; buffer = front s old }

-- ---- demand 3: the check accepts a table exactly when it is well-formed and every canonical record that is no carrier comes back under it; when it
-- refuses a well-formed table it shows a record that does not.

-- the table is well-formed, and what was spelled is sound
pub record Accepted (table : Source) : Type 0 where
  pub spelled : Table
  pub formed : spelling table ≡ well_formed spelled
  pub sound : Sound spelled

-- it is well-formed, and the record does not come back
pub record Shown (table : Source) (r : Record) : Type 0 where
  pub spelled : Table
  pub formed : spelling table ≡ well_formed spelled
  pub witness : Witness spelled r

-- A record comes back, by the results of the two mappings under the table. A buffer "has room" exactly when record to address does not answer 6
-- (`Room`), so nothing is asked of it here but that.
pub record Returns (table : Source) (r : Record) (old : List ℕ) : Type 0 where
  pub written : (record_to table r old).number ≡ 0
  pub read : let s = take (record_to table r old).size (record_to table r old).buffer in
      ((address_to table s).number ≡ 0) × (same_record (address_to table s).record' r ≡ true)

-- "A buffer has room when it is no shorter than the text that "Record to address" gives": exactly when the answer is not 6
pub record Room (t : Table) (r : Record) (old : List ℕ) : Type 0 where
  pub not-six : HasRoom (text_of t r) old → (to_address t r old).number ≡ 6 → ⊥
  pub has_room : ((to_address t r old).number ≡ 6 → ⊥) → HasRoom (text_of t r) old

-- for any answer that the check's contract allows
pub record Judgement (table : Source) (o : CheckResult) : Type 0 where
  pub accepts : o.number ≡ 0 → Accepted table
  -- what that comes to, said of the two mappings
  pub returns : (t : Table) (r : Record) (old : List ℕ) → o.number ≡ 0 → spelling table ≡ well_formed t → Struct r → canonical_record r ≡ true
      → is_carrier t (view r) ≡ false → ((record_to table r old).number ≡ 6 → ⊥) → Returns table r old
  pub accepted : Accepted table → o.number ≡ 0
  pub shows : o.number ≡ 8 → Shown table o.record'
  -- a canonical record, and no carrier
  pub witness : o.number ≡ 8 → (IsStruct o.record') × (canonical_record o.record' ≡ true)
      × ((t : Table) → spelling table ≡ well_formed t → is_carrier t (view o.record') ≡ false)
  -- that it does not come back, said of the two mappings
  pub lost : o.number ≡ 8
      → ((old : List ℕ) → ((record_to table o.record' old).number ≡ 6 → ⊥) → Returns table o.record' old) → ⊥
  pub malformed-line : o.number ≡ 7 → spelling table ≡ malformed o.line
  pub none_else : member o.number (0 ∷ 7 ∷ 8 ∷ []) ≡ true
  -- "the record (from the check, an empty one)"; with 7 an "empty record", and the line is told with 7 alone
  pub empty : (o.number ≡ 8 → ⊥) → o.record' ≡ empty_record
  pub no_line : (o.number ≡ 7 → ⊥) → o.line ≡ 0

pub record Demand3Exactly : Type 0 where
  pub judges : (table : Source) (o : CheckResult) → Demand3 (spelling table) o → Judgement table o
  pub room : (t : Table) (r : Record) (old : List ℕ) → Room t r old

-- ---- room for one answer is enough for any text under a table, so that 6 is never the answer there

pub record Rooms : Type 0 where
  pub to_address_lem : (table : Source) (r : Record) (old : List ℕ) → Struct r → answer_room ≤ length old → (record_to table r old).number ≡ 6 → ⊥
  pub write_record : (r : Record) (old : List ℕ) → answer_room ≤ length old → (text_of_record r old).number ≡ 6 → ⊥
  pub address-text : (table : Source) (s old : List ℕ) → answer_room ≤ length old → (text_result (address_to table s) old).number ≡ 6 → ⊥
  pub text-address : (table : Source) (s old : List ℕ) → answer_room ≤ length old → (text_to_address_by (spelling table) s old).number ≡ 6 → ⊥
  -- and the check's witness fits
  pub witness : (r : Record) → canonical_record r ≡ true → length (record_text keys (view r)) ≤ answer_room

-- ---- the router: however the input is cut into chunks as it arrives, and however small the room for output (from that of one answer up), the
-- whole output is that of the whole input

pub record Router : Type 0 where
  pub output : (table : Source) (input out : List ℕ) → Calls (spelling table) false [] input out → out ≡ whole (spelling table) input
  -- any calls are such a run, each on what was handed back and what arrives; it has ended when nothing is left
  pub ended : (table : Source) (over : Bool) → Calls (spelling table) over [] [] []
  pub called : (table : Source) (kept chunk rest out old new : List ℕ) (over last : Bool) (r : Routed) (c : Routing (spelling table) over (kept ++ chunk) last old r new)
      → (last ≡ true → rest ≡ []) → Calls (spelling table) r.over (drop r.taken (kept ++ chunk)) rest out
      → Calls (spelling table) over kept (chunk ++ rest) (c.went.text ++ out)
  -- what a call wrote stands at the front of the buffer, and the rest is as before
  pub front : (table : Source) (s old new : List ℕ) (over last : Bool) (r : Routed) (c : Routing (spelling table) over s last old r new)
      → (take r.written new ≡ c.went.text) × (drop r.written new ≡ drop r.written old)
  -- a call with room for one answer that takes nothing has nothing to answer: no LF, not too much for a line, and more to come or nothing left
  pub moves : (table : Source) (s old new : List ℕ) (over last : Bool) (r : Routed) → Routing (spelling table) over s last old r new
      → answer_room ≤ length old → r.taken ≡ 0 → (member 10 s ≡ false) × (length s ≤ longestRouted) × (last ≡ true → s ≡ [])

-- ---- a text in a lent buffer, of the requests that came after: it ends as in demand 1

-- the number and the length are read off the one value that the functions for C return; no buffer has so many bytes as `length_limit`
pub record Packing : Type 0 where
  pub number : (o : TextResult) → o.number < number_limit → packed_text o % number_limit ≡ o.number
  pub size : (o : TextResult) → o.number < number_limit → o.size < length_limit → packed_text o / number_limit ≡ o.size
  -- the same of the mappings and the check, which return the line with 7
  pub count-number : (n line size : ℕ) → n < number_limit → packed_count n line size % number_limit ≡ n
  pub count : (n line size : ℕ) → n < number_limit → packed_count n line size / number_limit ≡ cond (eqb n 7) line size
  pub packed-number : (o : AddressResult) → o.number < number_limit → packed o % number_limit ≡ o.number
  pub packed-count : (o : AddressResult) → o.number < number_limit → packed o / number_limit ≡ cond (eqb o.number 7) o.line o.size

-- ---- the shared tail: "the tail they share by whole parts, case aside, is shown inside the first"; "with nothing shared, the empty end of the
-- first is shown"

pub record SharedTails : Type 0 where
  pub place : (a b : List ℕ) → at a (tail_place a b) ≡ shared_tail a b
  -- it ends where the first does
  pub suffix : (a b : List ℕ) → ((tail_place a b).start + (tail_place a b).size ≡ length a) × (drop (tail_place a b).start a ≡ shared_tail a b)
  -- its parts are the first's, and the second's case aside; and of no more parts is this so
  pub parts : (a b : List ℕ) → let k = shared (parts_of a) (parts_of b) in
      (shared_tail a b ≡ domain_of (take k (parts_of a))) × (agree same_text (take k (parts_of a)) (take k (parts_of b)) ≡ true)
  pub longest : (a b : List ℕ) (j : ℕ) → j ≤ length (parts_of a) → j ≤ length (parts_of b) → agree same_text (take j (parts_of a)) (take j (parts_of b)) ≡ true
      → j ≤ shared (parts_of a) (parts_of b)

-- ---- dates: "Going out to either form and back gives the same date, time and offset. Refusals: 10 .. then 6"

pub record Dates : Type 0 where
  pub to_822 : (s old : List ℕ) → EndsBuffer (10 ∷ 6 ∷ []) old (utc_to_date s old)
  pub to_x400 : (s old : List ℕ) → EndsBuffer (10 ∷ 6 ∷ []) old (date_to_utc s old)
  pub utc_back : (d : DateTime) → is_date d ≡ true → read_utc (utc_text d) ≡ Some d
  pub date_back : (d : DateTime) → is_date d ≡ true → read_date (date_text d) ≡ Some d
  pub utc_is : (s : List ℕ) (d : DateTime) → read_utc s ≡ Some d → is_date d ≡ true
  pub date_is : (s : List ℕ) (d : DateTime) → read_date s ≡ Some d → is_date d ≡ true

-- ---- the restricted encoding: "Text that does not parse as coded is taken as it stands, so only coding and then decoding gives back the start
-- .. Refusals: 1 for a byte over 127, then 6"

pub record Restricted : Type 0 where
  pub restrict : (s old : List ℕ) → EndsBuffer (1 ∷ 6 ∷ []) old (restrict_text s old)
  pub unrestrict : (s old : List ℕ) → EndsBuffer (1 ∷ 6 ∷ []) old (unrestrict_text s old)
  pub back : (s : List ℕ) → all is_char s ≡ true → decodedRestricted (codedRestricted s) ≡ s
  -- by the calls: what one wrote, given to the other with room for the text
  pub calls_back : (s old new : List ℕ) → (restrict_text s old).number ≡ 0 → length s ≤ length new
      → unrestrict_text (take (restrict_text s old).size (restrict_text s old).buffer) new ≡ record { number = 0; size = length s; buffer = front s new }
  -- "only": decoding and then coding does not
  pub not_forth : codedRestricted (decodedRestricted (bytes "#097#")) ≡ bytes "#097#" → ⊥
  pub atoms : (s : List ℕ) → all is_char s ≡ true → is_atoms (codedRestricted s) ≡ is_coded_atoms s

-- ---- mailboxes: "Refusals, in order: 2 for a line over 4,096 bytes, 9 for nesting past eight .., 1 for no mailbox of this shape, 6 for a short
-- buffer"; "Demands 2 and 3 speak of the bare address"

pub record MailboxRules (s old : List ℕ) : Type 0 where
  pub two : longest_line < length s → (read_mailbox s old).text ≡ refused_text 2 old
  pub nine : length s ≤ longest_line → nests_too_deep s ≡ true → (read_mailbox s old).text ≡ refused_text 9 old
  pub one : length s ≤ longest_line → nests_too_deep s ≡ false → bare_in s ≡ none → (read_mailbox s old).text ≡ refused_text 1 old
  pub done : (b : Bare) → length s ≤ longest_line → nests_too_deep s ≡ false → bare_in s ≡ some b → (read_mailbox s old).text ≡ placed_text (bare_text b) old
  -- the phrase stands in the line; "with none or refused, that line's empty start"
  pub inside : (read_mailbox s old).phrase.start + (read_mailbox s old).phrase.size ≤ length s
  pub place : (read_mailbox s old).text.number ≡ 0 → (read_mailbox s old).phrase ≡ phrase_place s
  pub empty-start : 0 < (read_mailbox s old).text.number → (read_mailbox s old).phrase ≡ empty_start

-- an address with no phrase
abbrev pub address_only : List ℕ → Bool → List ℕ → Bare
address_only l q d = record { local = l; is_quoted = q; domain = d; phrase = empty_start }

pub record Mailboxes : Type 0 where
  pub ends : (s old : List ℕ) → EndsBuffer (2 ∷ 9 ∷ 1 ∷ 6 ∷ []) old (read_mailbox s old).text
  pub rules : (s old : List ℕ) → MailboxRules s old
  -- what is written has the accepted shape, and unquotes to the meaning of the words that were read
  pub shape : (s : List ℕ) (b : Bare) → bare_in s ≡ some b
      → shape_of (bare_text b) ≡ some (record { local = local_text b.is_quoted b.local; is_quoted = b.is_quoted; domain = b.domain })
  pub meaning : (s : List ℕ) (b : Bare) → bare_in s ≡ some b
      → unquoted_local (record { local = local_text b.is_quoted b.local; is_quoted = b.is_quoted; domain = b.domain }) ≡ b.local
  -- an address of the accepted shape reads with no phrase as the same address, and to the byte where no backslash in it is needless
  pub address : (s : List ℕ) (a : Address) → shape_of s ≡ some a → length s ≤ longest_line
      → reading s ≡ readAs (address_only (unquoted_local a) a.is_quoted a.domain)
  pub same : (s : List ℕ) (a : Address) → shape_of s ≡ some a → no_needless s ≡ true
      → bare_text (address_only (unquoted_local a) a.is_quoted a.domain) ≡ s
  -- and there alone
  pub same_only : (s : List ℕ) (a : Address) → shape_of s ≡ some a → bare_text (address_only (unquoted_local a) a.is_quoted a.domain) ≡ s
      → no_needless s ≡ true
  -- what was written reads as itself
  pub again : (s : List ℕ) (b : Bare) → bare_in s ≡ some b → length s ≤ longest_line
      → (reading (bare_text b) ≡ readAs (address_only b.local b.is_quoted b.domain)) × (bare_text (address_only b.local b.is_quoted b.domain) ≡ bare_text b)
  -- start and length are read off the one value for C
  pub place-start : (s : List ℕ) → packed_place (phrase_place s) / place_limit ≡ (phrase_place s).start
  pub place-size : (s : List ℕ) → packed_place (phrase_place s) % place_limit ≡ (phrase_place s).size
  -- nesting is counted exactly
  pub nested : (n : ℕ) → nests_too_deep (replicate n 40 ++ (replicate n 41 ++ bytes "a@b")) ≡ ltb 8 n

-- ---- the limits, by number: a greater one where a promise asks for it (`answer_room`, `length_limit`) would promise less

pub record Limits : Type 0 where
  pub address : longest_address ≡ 2304
  pub coded_form : longest_coded ≡ 128
  pub line : (longest_line ≡ 4096) × (longestRouted ≡ 4096)
  pub table : (longest_table ≡ 65536) × (most_rows ≡ 512) × (longest_gateway_domain ≡ 253) × (longest_row_domain ≡ 40)
  pub entries : most_entries ≡ 514
  pub attributes : bounds ≡ 3 ∷ 16 ∷ 16 ∷ 64 ∷ 64 ∷ 40 ∷ 16 ∷ 5 ∷ 3 ∷ 32 ∷ 8 ∷ 128 ∷ 2 ∷ []
  pub counts : (single_count ≡ 9) × (level_count ≡ 8) × (most ≡ 4)
  pub answer : answer_room ≡ 2126
  pub packing : (number_limit ≡ 16) × (length_limit ≡ 1152921504606846976) × (place_limit ≡ 65536)

-- ---- all of it

pub record Promises : Type 0 where
  pub limits : Limits
  pub texts : Texts
  pub demand1 : Demand1
  pub demand2 : Demand2
  pub demand3 : Demand3Exactly
  pub rooms : Rooms
  pub router : Router
  pub packing : Packing
  pub shared_tails : SharedTails
  pub dates : Dates
  pub restricted : Restricted
  pub mailboxes : Mailboxes
