-- `text_cases::settled::base` meets its contract: no turn adds a DD.
-- Assumes nothing.
use mathlib.Core.Path.{◌≡◌}
use Rattle.text_cases.proofs.settled.base.Given as goal

abbrev pub invariant-loop-k : goal.invariant-loop-k
invariant-loop-k l = l.rec.dds.count ≡ 0
