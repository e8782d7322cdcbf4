-- `table_lookup::search::search` meets its contract. How many keys are left falls.
-- Assumes nothing.
use Rattle.table_lookup.proofs.search.+search.Given as goal

abbrev pub decreases-search : goal.decreases-search
decreases-search l = l.rows.now.n
