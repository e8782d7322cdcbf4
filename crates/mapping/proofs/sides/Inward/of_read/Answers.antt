-- `mapping::sides::Inward::of_read` meets its contract.
-- Assumes nothing.
use Rattle.std.proofs.lemmas.Result.{err_from_is_err_and}
use Rattle.mapping.specs.ToRecord.{to_record_by}
use Rattle.mapping.proofs.sides.Inward.of_read.Goals as goal

pub returns-in_err-read : goal.returns-in_err-read
returns-in_err-read c s =
    let e = err_from_is_err_and c.from_residual.result c.from_residual.ensures.1 in
    rw (c.in_err-read.was, e.1, e.2)

pub returns : goal.returns
unfolding to_record_by
returns c s = rw c.in_ok-read.was (c.of.ensures s)
