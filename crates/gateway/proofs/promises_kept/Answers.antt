-- `gateway::promises_kept` meets its contract, which is the statement itself.
-- Assumes nothing.
use Rattle.gateway.proofs.Promises as page
use Rattle.gateway.proofs.promises_kept.Goals as goal

pub returns : goal.returns
returns c = page.promises
