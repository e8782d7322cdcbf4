-- `examples::every_case` meets its contract, which is the statement itself.
-- Assumes nothing.
use Rattle.examples.proofs.Every.{every}
use Rattle.examples.proofs.every_case.Goals as goal

pub returns : goal.returns
returns c = every
