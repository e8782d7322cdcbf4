-- `soundness_fresh::fresh::odd_label` meets its contract: its bytes are the digits of `odd_label`, and the `+`.
-- Assumes nothing.
use mathlib.Core.Path.{refl}
use Rattle.soundness.specs.Labels.{label, odd_label}
use Rattle.soundness_fresh.proofs.fresh.odd_label.Goals as goal

pub returns : goal.returns
unfolding odd_label label
returns c = refl
