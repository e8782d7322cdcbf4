-- `restricted::parse::measure_parsed` meets its contract. The loop's invariant: n characters are what the text up to place i stands for,
-- which has no byte over 127.
-- Assumes nothing.
use Prim.Native.Nat.{◌-◌, ◌≤◌}
use lib.ListN.{length}
use Rattle.restricted.proofs.Laws.Parse.{ParsedTo}
use Rattle.restricted.proofs.parse.measure_parsed.Given as goal

abbrev pub invariant-loop-i : goal.invariant-loop-i
invariant-loop-i l = (l.n ≤ l.i) × (ParsedTo l.s l.i l.n)

abbrev pub decreases-loop-i : goal.decreases-loop-i
decreases-loop-i l = length l.s - l.i
