-- `table_lookup::search::whole_front` meets its contract. The loop's invariant: no token ends at a place passed.
-- Assumes nothing.
use mathlib.Core.Path.{◌≡◌}
use Prim.Native.Nat.{ℕ, ◌≤◌}
use lib.ListN.{get_or}
use Rattle.table_order.specs.Order.{spell_by}
use Rattle.table_lookup.proofs.search.whole_front.Given as goal

abbrev pub invariant-loop-k : goal.invariant-loop-k
invariant-loop-k l = (j : ℕ) → l.k ≤ j → j ≤ l.n → get_or (spell_by l.key l.query) j 0 ≡ 0 → ⊥
