-- `table_settle::settle::add_parts` meets its contract. The loop's invariant: what is left, added to the record so far, is all of it added.
-- Assumes nothing.
use mathlib.Core.Path.{◌≡◌}
use Prim.Native.Nat.{◌+◌, ◌≤◌}
use lib.ListN.{length}
use Rattle.oraddr.specs.Add.{told}
use Rattle.table_settle.specs.Settle.{add_levels, left_parts}
use Rattle.table_settle.proofs.settle.add_parts.Given as goal

abbrev pub invariant-loop-from : goal.invariant-loop-from
invariant-loop-from l =
    (l.from ≤ length l.domain) × (l.i + length (left_parts l.domain l.from) ≤ 8)
    × (add_levels l.k (left_parts l.domain l.start) (told l.initial.done) ≡ add_levels l.i (left_parts l.domain l.from) (told l.done))

abbrev pub decreases-loop-from : goal.decreases-loop-from
decreases-loop-from l = l.from
