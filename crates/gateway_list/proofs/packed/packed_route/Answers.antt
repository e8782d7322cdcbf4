-- `gateway_list::packed::packed_route` meets its contract: what numbers_route says of its result is said of what is stored.
-- Assumes nothing.
use Rattle.gateway_list.proofs.packed.packed_route.Goals as goal

pub returns : goal.returns
returns c = c.numbers_route-done.ensures
