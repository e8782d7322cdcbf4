-- `mapping_to_record::to_record::address_under` meets its contract: 7 where the table is malformed, else the address under the table that was read.
-- Assumes nothing.
use Rattle.std.proofs.lemmas.Result.{err_from_is_err_and}
use Rattle.mapping.specs.Answers.{record_bad_line, record_number, told_record}
use Rattle.mapping.specs.Results.{malformed_record}
use Rattle.mapping.specs.ToRecord.{to_record_by}
use Rattle.mapping_to_record.proofs.to_record.address_under.Goals as goal

pub returns-in_err-read : goal.returns-in_err-read
unfolding told_record record_number record_bad_line to_record_by malformed_record
returns-in_err-read c =
    let e = err_from_is_err_and c.from_residual.result c.from_residual.ensures.1 in
    rw (c.in_err-read.was, e.1, e.2)

pub returns : goal.returns
unfolding to_record_by
returns c = rw c.in_ok-read.was c.map_address.ensures
