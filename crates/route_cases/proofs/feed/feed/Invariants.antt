-- `route_cases::feed::feed` meets its contract.
-- Assumes nothing.
use mathlib.Core.Path.{◌≡◌}
use Prim.Native.Nat.{◌-◌, ◌≤◌}
use lib.ListN.{length}
use Rattle.router_line.specs.Line.{answer_room}
use Rattle.route_cases.proofs.feed.feed.Given as goal

abbrev pub invariant-loop-end : goal.invariant-loop-end
invariant-loop-end l = (length l.out ≡ answer_room) × (l.at ≤ l.end) × (l.end ≤ length l.input) × (l.turn ≤ l.end)

abbrev pub decreases-loop-end : goal.decreases-loop-end
decreases-loop-end l = length l.input - l.end
