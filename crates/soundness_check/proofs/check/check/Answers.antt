-- `soundness_check::check::check` meets its contract: what the text was read as is checked.
-- Assumes nothing.
use Rattle.std.proofs.Common.{subst}
use Rattle.table.specs.Lines.{TableOutcome}
use Rattle.soundness.specs.Check.{Demand3, told_check}
use Rattle.soundness_check.proofs.check.check.Goals as goal

pub returns : goal.returns
returns c = subst (λ (x : TableOutcome). Demand3 x (told_check c.check_under.result)) c.read_table.ensures.answers c.check_under.ensures
