-- `made` ends: what is left is shorter behind each command.
-- Assumes nothing.
use lib.ListN.{length}
use Rattle.record_cases.proofs.commands.made.Given as goal

abbrev pub decreases-loop-left : goal.decreases-loop-left
decreases-loop-left l = length l.left
