-- `ortext_write::write::is_own_empty` meets its contract. The loop's invariant: what is left to test.
-- Assumes nothing.
use mathlib.Core.Path.{◌≡◌}
use Prim.Native.Nat.{◌≤◌}
use Rattle.oraddr.specs.View.{view}
use Rattle.ortext_write.proofs.Laws.Write.{own_from}
use Rattle.ortext_write.proofs.write.is_own_empty.Given as goal

abbrev pub invariant-loop-k : goal.invariant-loop-k
invariant-loop-k l = (l.from ≤ l.k) × (own_from l.from (view l.rec) 0 ≡ own_from l.from (view l.rec) l.k)
