-- `mailaddr::shape::closing_quote` meets its contract. The loop's invariant: a string that is open at `i` closes where one open at `from` does.
-- Assumes nothing.
use mathlib.Core.Path.{◌≡◌}
use Prim.Native.Nat.{◌-◌}
use lib.ListN.{length, drop}
use Rattle.mailaddr.specs.Shape.{closing, more}
use Rattle.mailaddr.proofs.shape.closing_quote.Given as goal

abbrev pub invariant-loop-i : goal.invariant-loop-i
invariant-loop-i l = more l.from (closing (drop l.from l.s)) ≡ more l.i (closing (drop l.i l.s))

abbrev pub decreases-loop-i : goal.decreases-loop-i
decreases-loop-i l = length l.s - l.i
