-- `ortext_segments::scan::text_end` meets its contract. The loop's invariant: what starts at `i` stops where what starts at `from` does.
-- Assumes nothing.
use mathlib.Core.Path.{◌≡◌}
use Prim.Native.Nat.{◌-◌}
use lib.ListN.{length, drop}
use Rattle.ortext_segments.specs.Scan.{further, stop_run}
use Rattle.ortext_segments.proofs.scan.text_end.Given as goal

abbrev pub invariant-loop-i : goal.invariant-loop-i
invariant-loop-i l = further l.from (stop_run (drop l.from l.s)) ≡ further l.i (stop_run (drop l.i l.s))

abbrev pub decreases-loop-i : goal.decreases-loop-i
decreases-loop-i l = length l.s - l.i
