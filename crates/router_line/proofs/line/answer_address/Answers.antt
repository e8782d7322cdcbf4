-- `router_line::line::answer_address` meets its contract.
-- Assumes nothing.
use Rattle.mapping.specs.Results.{malformed_record}
use Rattle.mapping.specs.ToRecord.{to_record_by}
use Rattle.router_line.specs.Line.{record_line}
use Rattle.router_line.proofs.line.answer_address.Goals as goal

pub returns-in-Ok : goal.returns-in-Ok
unfolding to_record_by
returns-in-Ok c = rw c.in-Ok.is c.map_line.ensures

pub returns-in-Err : goal.returns-in-Err
unfolding to_record_by malformed_record record_line
returns-in-Err c = rw c.in-Err.is c.put_refusal.ensures
