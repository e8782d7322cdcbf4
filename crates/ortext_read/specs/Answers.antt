-- What the readers' answers stand for. Document 01: "Where an answer is an enum, a definition gives this paper's number and values for each
-- case of the enum, and the promises use that definition."
-- Assumes nothing.
use Rattle.std.specs.Prelude.{ℕ, ◌||◌, cond, List, Result, Ok, Err}
use Rattle.oraddr.specs.View.{empty_record}
use Rattle.oraddr.specs.declared.record.Record.{Record}
use Rattle.ortext_named.specs.Named.{is_beside}
use Rattle.ortext_named.specs.declared.named.Named.{Named}
use Rattle.ortext_build.specs.Adding.{add_held}
use Rattle.ortext_read.specs.Apply as apply
use Rattle.ortext_read.specs.Apply.{unread, refused, again, read, finish}
use Rattle.ortext_read.specs.declared.read.TextFault.{TextFault}
use Rattle.ortext_read.specs.declared.read.TextFault.TheVariants.{Unread, Refused, Again}

unfoldable pub fault_reading : TextFault → apply.Reading
fault_reading Unread = unread
fault_reading Refused = refused
fault_reading Again = again

unfoldable pub reading : Result Record TextFault → apply.Reading
unfolding fault_reading
reading (Ok r) = read r
reading (Err f) = fault_reading f

-- 4, "the record (or record text) is not canonical": for an address it then says that the address is carried whole
abbrev pub fault_number : TextFault → ℕ
fault_number Unread = 4
fault_number Refused = 4
fault_number Again = 4

-- 0, "done"
abbrev pub answer_number : Result Record TextFault → ℕ
answer_number (Ok r) = 0
answer_number (Err f) = fault_number f

abbrev pub record_of : Result Record TextFault → Record
record_of (Ok r) = r
record_of (Err f) = empty_record

-- What a caller gets of a reader: the number, the record with 0 (else an empty one), and which of the refusals it was.
pub record ReadingResult : Type 0 where
  pub number : ℕ
  pub record' : Record
  pub outcome : apply.Reading

abbrev pub told_reading : Result Record TextFault → ReadingResult
told_reading r = record { number = answer_number r; record' = record_of r; outcome = reading r }

-- the same of what the definitions give
unfoldable pub reading_result : apply.Reading → ReadingResult
reading_result unread = record { number = 4; record' = empty_record; outcome = unread }
reading_result refused = record { number = 4; record' = empty_record; outcome = refused }
reading_result again = record { number = 4; record' = empty_record; outcome = again }
reading_result (read r) = record { number = 0; record' = r; outcome = read r }

-- what comes of the places named in a text, over a record
unfoldable pub read_held : List ℕ → Named → Record → apply.Reading
unfolding is_beside finish add_held
read_held s m r = cond m.again again (cond (m.bad || is_beside m) refused (finish (add_held s m r)))
