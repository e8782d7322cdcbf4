-- `soundness_judge::candidate::with_surname` meets its contract: the record of the addition is the definition's.
-- Assumes nothing.
use Rattle.std.proofs.Common.{ap}
use Rattle.soundness.specs.Check.{with_surname}
use Rattle.soundness_judge.proofs.candidate.with_surname.Goals as goal

pub returns : goal.returns
unfolding with_surname
returns c = ap (λ o. o.record') c.with_single.ensures
