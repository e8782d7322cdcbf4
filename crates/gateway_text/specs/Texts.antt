-- Record text by itself, as the gateway reads and writes it for a caller: document 01, "The program `orroute`" and "Record to address".
-- Assumes nothing.
use Rattle.std.specs.Prelude.{cond, List, ℕ}
use Rattle.oraddr.specs.Add.{Outcome}
use Rattle.oraddr.specs.Canonical.{canonical_record}
use Rattle.oraddr.specs.View.{empty_record, view}
use Rattle.oraddr.specs.declared.record.Record.{Record}
use Rattle.ortext_read.specs.Apply.{Reading, again, read, read_text, refused, unread}
use Rattle.ortext_segments.specs.Keys.{keys}
use Rattle.ortext_write.specs.Write.{record_text}
use Rattle.mapping.specs.Results.{AddressResult, placed, refused_address}

-- 4, "the record (or record text) is not canonical": an empty record
abbrev pub no_record : Outcome
no_record = record { number = 4; record' = empty_record }

unfoldable pub read_outcome : Reading → Outcome
unfolding canonical_record
read_outcome unread = no_record
read_outcome refused = no_record
read_outcome again = no_record
read_outcome (read r) = cond (canonical_record r) (record { number = 0; record' = r }) no_record

-- "record text (read by steps 2 and 4; 4 if that fails, or a key is unknown, repeated or meets PN as in the list above)"; and 4 for a record
-- that is not canonical
unfoldable pub record_of_text : List ℕ → Outcome
unfolding read_outcome read_text keys
record_of_text s = read_outcome (read_text keys 0 empty_record s)

-- a record's text in a buffer: 4, then 6
unfoldable pub text_of_record : Record → List ℕ → AddressResult
unfolding canonical_record placed record_text keys view refused_address
text_of_record r old = cond (canonical_record r) (placed (record_text keys (view r)) old) (refused_address 4 old)
