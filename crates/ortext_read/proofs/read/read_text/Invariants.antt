-- `ortext_read::read::read_text` meets its contract. The loop's invariant: the segments so far and what is left are all, and the places held are
-- those of the segments so far.
-- Assumes nothing.
use Prim.Native.Nat.{◌-◌}
use lib.ListN.{length}
use Rattle.ortext_read.proofs.Laws.Scanned.{Scanned}
use Rattle.ortext_read.proofs.read.read_text.Given as goal

abbrev pub invariant-loop-at : goal.invariant-loop-at
invariant-loop-at l = Scanned l.s l.n l.at l.named

abbrev pub decreases-loop-at : goal.decreases-loop-at
decreases-loop-at l = length l.s - l.at
