-- `gateway_list::lists::list_to_address` meets its contract: the rows are laid out as numbers, and the function over those is called.
-- Assumes nothing.
use Rattle.gateway_list.proofs.Laid.{listed_laid}
use Rattle.gateway_list.proofs.lists.list_to_address.Goals as goal

pub returns : goal.returns
returns c =
    rw (listed_laid c.args.text.now c.args.rows.now c.spread-n.result c.spread-n.new.numbers c.spread-n.type_inv c.spread-n.ensures)
    at c.numbers_to_address.ensures
