-- `address_cases::commands::print_each_part` is safe and ends: each part starts in front of the last one's start.
-- Assumes nothing.
use Prim.Native.Nat.{◌≤◌}
use lib.ListN.{length}
use Rattle.address_cases.proofs.commands.print_each_part.Given as goal

abbrev pub invariant-loop-end : goal.invariant-loop-end
invariant-loop-end l = l.end ≤ length l.s

abbrev pub decreases-loop-end : goal.decreases-loop-end
decreases-loop-end l = l.end
