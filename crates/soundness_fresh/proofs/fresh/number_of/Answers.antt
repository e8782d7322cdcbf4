-- `soundness_fresh::fresh::number_of` meets its contract: its digits are those of `label_number`.
-- Assumes nothing.
use Rattle.std.proofs.Common.{arith}
use Rattle.soundness.specs.Labels.{label_number}
use Rattle.soundness_fresh.proofs.fresh.number_of.Goals as goal

pub returns : goal.returns
unfolding label_number
returns c = omega (arith, c.digit_at.ensures.value, c.digit_at-2.ensures.value, c.digit_at-3.ensures.value)
