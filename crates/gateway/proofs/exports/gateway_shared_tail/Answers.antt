-- `gateway::exports::gateway_shared_tail` meets its contract.
-- Assumes nothing.
use Rattle.std.proofs.Common.{ap, length}
use Rattle.gateway.proofs.exports.gateway_shared_tail.Goals as goal

pub returns : goal.returns
returns c = ap length c.shared_tail.ensures.tail
