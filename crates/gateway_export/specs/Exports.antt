-- What the functions for C of the two mappings and of the check return: a number and a count in one value, and the text in the lent buffer. It is
-- said of what a table comes to, so that tables of every form share it.
-- Assumes nothing.
use Rattle.std.specs.Prelude.{◌≡◌, ◌⊎◌, true, cond, List, ℕ, ◌≤◌, eqb, length}
use Rattle.oraddr.specs.Canonical.{canonical_record}
use Rattle.oraddr.specs.View.{empty_record, view}
use Rattle.oraddr.specs.declared.record.Record.{Record}
use Rattle.ortext_read.specs.Apply.{Reading, again, read, read_text, refused, unread}
use Rattle.ortext_segments.specs.Keys.{keys}
use Rattle.ortext_write.specs.Write.{record_text}
use Rattle.table.specs.Lines.{TableOutcome, malformed, well_formed}
use Rattle.table.specs.Table.{Table}
use Rattle.mapping.specs.Results.{AddressResult, RecordResult, malformed_address, placed, refused_address}
use Rattle.mapping.specs.ToAddress.{to_address}
use Rattle.soundness.specs.Check.{CheckResult, Demand3}
use Rattle.soundness.specs.Sound.{Sound, Witness}
use Rattle.gateway_pack.specs.Filled.{filled}
use Rattle.gateway_pack.specs.Packed.{most_count, packed_count}

-- the number, and 16 times the length that was written, or with 7 the line
abbrev pub packed : AddressResult → ℕ
packed o = packed_count o.number o.line o.size

-- the value that is returned and the buffer, of a result
pub record Exported (o : AddressResult) (r : ℕ) (new : List ℕ) : Type 0 where
  pub value : r ≡ packed o
  pub buffer : new ≡ o.buffer

-- an address to a record's text: 7, 2, 1, 3, and last 6, where the buffer is shorter than the text
unfoldable pub text_result : RecordResult → List ℕ → AddressResult
unfolding placed record_text keys view
text_result o old =
    cond (eqb o.number 0)
    (placed (record_text keys (view o.record')) old)
    (record { number = o.number; line = o.line; size = 0; buffer = old })

-- a record text to an address: 7, 4 where it does not read as a canonical record, 5, 6
unfoldable pub reading_to_address : Table → Reading → List ℕ → AddressResult
unfolding refused_address to_address
reading_to_address t unread old = refused_address 4 old
reading_to_address t refused old = refused_address 4 old
reading_to_address t again old = refused_address 4 old
reading_to_address t (read r) old = to_address t r old

unfoldable pub text_to_address_by : TableOutcome → List ℕ → List ℕ → AddressResult
unfolding malformed_address reading_to_address read_text keys
text_to_address_by (malformed l) s old = malformed_address l old
text_to_address_by (well_formed t) s old = reading_to_address t (read_text keys 0 empty_record s) old

-- ---- the check

-- 0: every canonical record that is no carrier comes back
pub record TellsSound (t : Table) (old : List ℕ) (r : ℕ) (new : List ℕ) : Type 0 where
  pub sound : Sound t
  pub value : r ≡ packed_count 0 0 0
  pub buffer : new ≡ old

-- 8: a witness, with its text's length, and its text if that fits
pub record TellsWitness (t : Table) (old : List ℕ) (r : ℕ) (new : List ℕ) : Type 0 where
  pub shown : Record
  pub witness : Witness t shown
  pub value : r ≡ packed_count 8 0 (length (record_text keys (view shown)))
  pub buffer : new ≡ filled (record_text keys (view shown)) old

-- 7: the first bad line
pub record TellsMalformed (n : ℕ) (old : List ℕ) (r : ℕ) (new : List ℕ) : Type 0 where
  pub value : r ≡ packed_count 7 n 0
  pub buffer : new ≡ old

abbrev pub ExportedCheck : TableOutcome → List ℕ → ℕ → List ℕ → Type 0
ExportedCheck (malformed n) old r new = TellsMalformed n old r new
ExportedCheck (well_formed t) old r new = TellsSound t old r new ⊎ TellsWitness t old r new

-- ---- what may be packed

-- a mapping's result whose line is small, and whose record, if there is one, can be written
pub record Packable (o : RecordResult) : Type 0 where
  pub line : o.line ≤ most_count
  pub canonical : o.number ≡ 0 → canonical_record o.record' ≡ true

-- the same of the check, whose record is a witness
pub record PackableCheck (o : CheckResult) : Type 0 where
  pub line : o.line ≤ most_count
  pub canonical : o.number ≡ 8 → canonical_record o.record' ≡ true

-- what was packed tells the check's result, whatever the table was read from
abbrev pub TellsCheck : CheckResult → List ℕ → ℕ → List ℕ → Type 0
TellsCheck o old r new = (l : TableOutcome) → Demand3 l o → ExportedCheck l old r new
