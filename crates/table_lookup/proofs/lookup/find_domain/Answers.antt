-- `table_lookup::lookup::find_domain` meets its contract.
-- Assumes nothing.
use Rattle.table_lookup.specs.Search.{tokens_by}
use Rattle.table_lookup.proofs.lookup.find_domain.Goals as goal

pub returns : goal.returns
unfolding tokens_by
returns c = c.find.ensures
