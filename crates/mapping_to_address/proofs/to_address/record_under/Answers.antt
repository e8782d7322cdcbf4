-- `mapping_to_address::to_address::record_under` meets its contract: under the table that was read, or with the number of its first bad line.
-- Assumes nothing.
use Rattle.std.proofs.lemmas.Result.{err_from_is_err_and}
use Rattle.mapping.specs.Answers.{address_bad_line, address_number, told_address}
use Rattle.mapping.specs.Results.{malformed_address}
use Rattle.mapping.specs.ToAddress.{to_address_by}
use Rattle.mapping_to_address.proofs.to_address.record_under.Goals as goal

pub returns-in_err-read : goal.returns-in_err-read
unfolding told_address address_number address_bad_line to_address_by malformed_address
returns-in_err-read c =
    let e = err_from_is_err_and c.from_residual.result c.from_residual.ensures.1 in
    rw (c.in_err-read.was, e.1, e.2)

pub returns : goal.returns
unfolding to_address_by
returns c = rw c.in_ok-read.was c.map_record.ensures
