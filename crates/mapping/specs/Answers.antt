-- What the answers of the code stand for: "a definition gives this paper's number and values for each case of the enum".
-- Assumes nothing.
use Rattle.std.specs.Prelude.{◌≡◌, Bool, false, cond, List, [], ℕ, ◌+◌, ◌≤◌, length, take, drop, Some, None, Result, Ok, Err}
use Rattle.std.specs.Prelude as code
use Rattle.std.proofs.Math.Option.{Option, none, some}
use Rattle.chars.specs.Write.{Wrote}
use Rattle.ortext_read.specs.Apply as apply
use Rattle.oraddr.specs.Attributes.{Attributes, levels}
use Rattle.oraddr.specs.Canonical.{canonical_record}
use Rattle.oraddr.specs.View.{empty_record}
use Rattle.ortext_read.specs.Apply.{again, read, read_local, refused, unread}
use Rattle.ortext_segments.specs.Keys.{keys}
use Rattle.oraddr.specs.declared.record.Record.{Record}
use Rattle.ortext_write.specs.Write.{local_text, longest_text, remaining}
use Rattle.mailaddr.specs.Answers.{address_at}
use Rattle.mailaddr.specs.Domain.{is_domain}
use Rattle.mailaddr.specs.Shape.{Address, address_text, is_readable}
use Rattle.mailaddr.specs.declared.shape.Parted.{Parted}
use Rattle.table.specs.Lines.{longest_gateway_domain}
use Rattle.table.specs.Table.{Table, Token}
use Rattle.table.specs.Rows.{row_at, rows_at}
use Rattle.table.specs.declared.load as load
use Rattle.mapping.specs.Carried.{result_of}
use Rattle.mapping.specs.Results.{AddressResult, RecordResult}
use Rattle.mapping.specs.ToAddress.{Plan, extended}
use Rattle.mapping.specs.ToRecord.{record_by}
use Rattle.mapping.specs.declared.answers.RecordRefusal.{RecordRefusal}
use Rattle.mapping.specs.declared.answers.RecordRefusal.TheVariants as record-refusal
use Rattle.mapping.specs.declared.answers.RecordRefusal.TheVariants.{NoShape, TooLong, TooLongCoded}
use Rattle.mapping.specs.declared.answers.AddressRefusal.{AddressRefusal}
use Rattle.mapping.specs.declared.answers.AddressRefusal.TheVariants as address-refusal
use Rattle.mapping.specs.declared.answers.AddressRefusal.TheVariants.{NotCanonical, NoAddress, ShortBuffer}
use Rattle.mapping.specs.declared.route.Route.{Route}

-- document 01's number for each refusal of address to record, and with 7 the line
unfoldable pub record_number : RecordRefusal → ℕ
record_number NoShape = 1
record_number TooLong = 2
record_number TooLongCoded = 3
record_number (record-refusal.Malformed l) = 7

unfoldable pub record_bad_line : RecordRefusal → ℕ
record_bad_line NoShape = 0
record_bad_line TooLong = 0
record_bad_line TooLongCoded = 0
record_bad_line (record-refusal.Malformed l) = l

-- what address to record comes to: "done" has the record, a refusal an empty one
unfoldable pub told_record : Result Record RecordRefusal → RecordResult
unfolding record_number record_bad_line
told_record (Ok r) = record { number = 0; line = 0; record' = r }
told_record (Err e) = record { number = record_number e; line = record_bad_line e; record' = empty_record }

-- the same of record to address, with what the buffer holds: "done" has the text's length, a refusal 0
unfoldable pub address_number : AddressRefusal → ℕ
address_number NotCanonical = 4
address_number NoAddress = 5
address_number ShortBuffer = 6
address_number (address-refusal.Malformed l) = 7

unfoldable pub address_bad_line : AddressRefusal → ℕ
address_bad_line NotCanonical = 0
address_bad_line NoAddress = 0
address_bad_line ShortBuffer = 0
address_bad_line (address-refusal.Malformed l) = l

unfoldable pub told_address : Result ℕ AddressRefusal → List ℕ → AddressResult
unfolding address_number address_bad_line
told_address (Ok n) new = record { number = 0; line = 0; size = n; buffer = new }
told_address (Err e) new = record { number = address_number e; line = address_bad_line e; size = 0; buffer = new }

-- ---- on the way

-- the table that was loaded, as far as each mapping reads it: its gateway, and the rows of its direction
abbrev pub inward : List ℕ → List ℕ → load.Loaded.Loaded → Table
inward s ds t = record { gateway = row_at s t.gateway; to_path = rows_at s ds t.to_path; to_domain = [] }

abbrev pub outward : List ℕ → List ℕ → load.Loaded.Loaded → Table
outward s rs t = record { gateway = row_at s t.gateway; to_path = []; to_domain = rows_at s rs t.to_domain }

-- a local part that can be read, read over a record with its first n levels settled
unfoldable pub read_settled : ℕ → Record → List ℕ → apply.Reading
unfolding is_readable read_local keys
read_settled n r s = cond (is_readable s) (read_local keys n r s) unread

-- what the four steps come to, where the domain is of domain parts
unfoldable pub read_well : Table → Address → apply.Reading
unfolding is_domain result_of
read_well t a = cond (is_domain a.domain) (result_of t a) unread

-- what was read is a canonical record
unfoldable pub is_good : apply.Reading → Bool
unfolding canonical_record
is_good unread = false
is_good refused = false
is_good again = false
is_good (read r) = canonical_record r

-- the record of an address that was parted
abbrev pub record_parted : Table → List ℕ → Parted → RecordResult
record_parted t s p = record_by t s (Ok (address_at s p))

-- Room for any local part, and for any address: a local part in quotes, its `@` and the longest domain. A level that goes in front of a row's domain
-- takes no more there than it would in the local part.
abbrev pub local_room : ℕ
local_room = longest_text

abbrev pub address_room : ℕ
address_room = local_room + 3 + longest_gateway_domain

-- A text at the front of a buffer, which behind it is as before.
pub record Fronted (o : Option (List ℕ)) (old : List ℕ) (n : ℕ) (new : List ℕ) : Type 0 where
  pub told : o ≡ some (take n new)
  pub fits : n ≤ length new
  pub wrote : Wrote old 0 (take n new) n new

-- A text written to the front of a buffer; where there is none, the buffer is as before.
abbrev pub Writing : Option (List ℕ) → List ℕ → code.Option ℕ → List ℕ → Type 0
Writing o old (Some n) new = Fronted o old n new
Writing o old None new = (o ≡ none) × (new ≡ old)

-- A route is the plan of a record with these levels: its domain, with the levels behind the first `own` in front.
pub record Routed (ls : List Token) (p : Plan) (r : Route) : Type 0 where
  pub from : p.from ≡ r.own + r.more
  pub domain : p.domain ≡ extended r.domain.now (take r.more (drop r.own ls))

-- the address of a record that goes out by a route
abbrev pub routed_text : Route → Attributes → List ℕ
routed_text r a =
    address_text (local_text keys (remaining (r.own + r.more) a)) (extended r.domain.now (take r.more (drop r.own (levels a))))
