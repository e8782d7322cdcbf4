-- `table_order::place::place_key` meets its contract. The loop's invariant: the search is in the range.
-- Assumes nothing.
use Prim.Native.Nat.{◌-◌}
use Rattle.table_order.specs.Place.{Within}
use Rattle.table_order.specs.Ranks.{query_of, ranks_of}
use Rattle.table_order.proofs.place.place_key.Given as goal

abbrev pub invariant-loop-range : goal.invariant-loop-range
invariant-loop-range l = Within (ranks_of l.rows) l.rows.n (query_of l.rows l.query) l.range

abbrev pub decreases-loop-range : goal.decreases-loop-range
decreases-loop-range l = l.range.hi - l.range.lo
