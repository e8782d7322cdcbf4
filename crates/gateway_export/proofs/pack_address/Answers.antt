-- `gateway_export::pack_address` meets its contract.
-- Assumes nothing.
use Rattle.mapping.specs.Answers.{told_address}
use Rattle.gateway_export.proofs.pack_address.Goals as goal

pub returns-in-Ok : goal.returns-in-Ok
unfolding told_address
returns-in-Ok c = rw c.in-Ok.is c.pack.ensures

pub returns-in-Err : goal.returns-in-Err
unfolding told_address
returns-in-Err c = rw c.in-Err.is c.pack_refusal.ensures
