-- `mailaddr::tail::tail_start` meets its contract. The loop's invariant: what the shared parts take is what stands behind `i`
-- and what is shared of the parts that end at `i` and `j`; `start` is behind the dot at `i`, or at the end.
-- Assumes nothing.
use Prim.Native.Nat.{◌≤◌, ◌+◌, ◌-◌}
use mathlib.Core.Path.{◌≡◌}
use lib.ListN.{length, take}
use Rattle.mailaddr.specs.Domain.{parts_of}
use Rattle.mailaddr.proofs.Laws.Tail.{spread}
use Rattle.mailaddr.proofs.tail.tail_start.Given as goal

abbrev pub invariant-loop-start : goal.invariant-loop-start
invariant-loop-start l =
    (l.i ≤ length l.a)
    × (l.j ≤ length l.b)
    × (l.start ≡ length l.a - (length l.a - l.i - 1))
    × (spread (parts_of l.a) (parts_of l.b) + l.i ≡ length l.a + spread (parts_of (take l.i l.a)) (parts_of (take l.j l.b)))

abbrev pub decreases-loop-start : goal.decreases-loop-start
decreases-loop-start l = l.i
