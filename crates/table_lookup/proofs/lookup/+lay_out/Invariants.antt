-- `table_lookup::lookup::lay_out` meets its contract. The levels that are left fall.
-- Assumes nothing.
use Rattle.table_lookup.proofs.lookup.+lay_out.Given as goal

abbrev pub decreases-lay_out : goal.decreases-lay_out
decreases-lay_out l = l.left
