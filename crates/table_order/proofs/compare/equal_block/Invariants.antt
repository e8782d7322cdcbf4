-- `table_order::compare::equal_block` meets its contract. The loop's invariant: while none differs, the bytes passed are equal.
-- Assumes nothing.
use mathlib.Core.Path.{◌≡◌}
use mathlib.Core.Bool.{true}
use Prim.Native.Nat.{ℕ, ◌<◌}
use lib.ListN.{get_or}
use Rattle.table_order.proofs.compare.equal_block.Given as goal

abbrev pub invariant-loop-i : goal.invariant-loop-i
invariant-loop-i l = l.same ≡ true → (j : ℕ) → j < l.i → get_or l.a j 0 ≡ get_or l.b j 0
