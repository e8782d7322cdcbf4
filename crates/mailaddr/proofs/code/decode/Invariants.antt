-- `mailaddr::code::decode` meets its contract. The loop's invariant: what is written is what the text decodes to up to place i, and
-- is no longer than that.
-- Assumes nothing.
use mathlib.Core.Path.{◌≡◌}
use Prim.Native.Nat.{◌-◌, ◌≤◌}
use lib.ListN.{length}
use Rattle.mailaddr.proofs.Laws.Code.{DecodedTo}
use Rattle.mailaddr.proofs.code.decode.Given as goal

abbrev pub invariant-loop-i : goal.invariant-loop-i
invariant-loop-i l = (l.n ≤ l.i) × (l.n ≤ length l.s) × (length l.dst ≡ length l.initial.dst) × (DecodedTo l.s l.initial.dst l.i l.n l.dst)

abbrev pub decreases-loop-i : goal.decreases-loop-i
decreases-loop-i l = length l.s - l.i
