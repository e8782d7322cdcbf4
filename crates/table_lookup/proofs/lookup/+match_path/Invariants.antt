-- `match_path` meets its contract. The measure is the number of levels that are left.
-- Assumes nothing.
use Rattle.table_lookup.proofs.lookup.+match_path.Given as goal

abbrev pub decreases-match_path : goal.decreases-match_path
decreases-match_path l = l.left
