-- `list_cases::entries::read_entries` ends, since each line leaves less of the input, and keeps what was laid out within the room.
-- Assumes nothing.
use mathlib.Core.Path.{◌≡◌}
use Prim.Native.Nat.{◌*◌, ◌-◌, ◌≤◌}
use lib.ListN.{length}
use Rattle.list_cases.proofs.entries.read_entries.Given as goal

abbrev pub invariant-loop-from : goal.invariant-loop-from
invariant-loop-from l = (l.at ≤ l.from) × (l.n * 5 ≤ length l.numbers) × (length l.numbers ≡ length l.initial.numbers)

abbrev pub decreases-loop-from : goal.decreases-loop-from
decreases-loop-from l = length l.s - l.from
