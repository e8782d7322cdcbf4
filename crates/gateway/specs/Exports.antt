-- What the functions for C of the two mappings return under a table text: the value and the buffer are those of a result.
-- Assumes nothing.
use Rattle.std.specs.Prelude.{List, ℕ}
use Rattle.table.specs.Lines.{loaded_from}
use Rattle.mapping.specs.Results.{AddressResult}
use Rattle.mapping.specs.ToRecord.{address_to_record}
use Rattle.gateway_export.specs.Exports.{text_result, text_to_address_by}

-- an address to a record's text: 7, 2, 1, 3, and last 6, where the buffer is shorter than the text
unfoldable pub address_to_text : List ℕ → List ℕ → List ℕ → AddressResult
unfolding text_result address_to_record
address_to_text table s old = text_result (address_to_record table s) old

-- a record text to an address: 7, 4 where it does not read as a canonical record, 5, 6
unfoldable pub text_to_address : List ℕ → List ℕ → List ℕ → AddressResult
unfolding text_to_address_by loaded_from
text_to_address table s old = text_to_address_by (loaded_from table) s old
