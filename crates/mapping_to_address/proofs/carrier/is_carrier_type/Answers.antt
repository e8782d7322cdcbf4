-- `mapping_to_address::carrier::is_carrier_type` meets its contract.
-- Assumes nothing.
use Rattle.chars.specs.Lists.{bytes}
use Rattle.mapping_to_address.proofs.carrier.is_carrier_type.Goals as goal

pub returns : goal.returns
unfolding bytes
returns c = rw c.text.ensures at c.same_text.ensures
