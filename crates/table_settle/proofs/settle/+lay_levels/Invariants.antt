-- `table_settle::settle::lay_levels` meets its contract. The levels that are left fall.
-- Assumes nothing.
use Rattle.table_settle.proofs.settle.+lay_levels.Given as goal

abbrev pub decreases-lay_levels : goal.decreases-lay_levels
decreases-lay_levels l = l.left
