-- Document 01, "Address to record": the whole mapping, over a table and over a table text.
-- Assumes nothing.
use Rattle.std.specs.Prelude.{ℕ, cond, List, Result, Ok, Err}
use Rattle.oraddr.specs.View.{empty_record}
use Rattle.oraddr.specs.declared.record.Record.{Record}
use Rattle.ortext_read.specs.Apply.{Reading, again, read, refused, unread}
use Rattle.mailaddr.specs.Answers.{shaping}
use Rattle.mailaddr.specs.Shape.{Address}
use Rattle.mailaddr.specs.declared.shape.AddressFault.{AddressFault}
use Rattle.mailaddr.specs.declared.shape.AddressFault.TheVariants.{NoShape, TooLong}
use Rattle.table.specs.Table.{Table}
use Rattle.table.specs.Lines.{TableOutcome, loaded_from, malformed, well_formed}
use Rattle.mapping.specs.Carried.{carried_whole, carrying, result_of}
use Rattle.mapping.specs.Results.{RecordResult, malformed_record, mapped, refused_record}

-- the record that was read; an address for which there is none is carried whole
unfoldable pub record_in : Reading → Record
record_in unread = empty_record
record_in refused = empty_record
record_in again = empty_record
record_in (read r) = r

-- "Order, address to record: 7, 2, 1, 3": 2 and 1 by the shape, and then the record, or the address carried whole
unfoldable pub record_by : Table → List ℕ → Result Address AddressFault → RecordResult
unfolding refused_record mapped carried_whole carrying record_in result_of
record_by t s (Err TooLong) = refused_record 2
record_by t s (Err NoShape) = refused_record 1
record_by t s (Ok a) = cond (carried_whole t a) (carrying t.gateway.path s) (mapped (record_in (result_of t a)))

-- an address to a record, under a table
unfoldable pub to_record : Table → List ℕ → RecordResult
unfolding record_by shaping
to_record t s = record_by t s (shaping s)

-- the same under what a table text comes to; 7 is first
unfoldable pub to_record_by : TableOutcome → List ℕ → RecordResult
unfolding malformed_record to_record
to_record_by (malformed l) s = malformed_record l
to_record_by (well_formed t) s = to_record t s

-- an address to a record, under a table text
unfoldable pub address_to_record : List ℕ → List ℕ → RecordResult
unfolding to_record_by loaded_from
address_to_record table s = to_record_by (loaded_from table) s
