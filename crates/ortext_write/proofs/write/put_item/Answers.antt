-- `ortext_write::write::put_item` meets its contract.
-- Assumes nothing.
use Rattle.oraddr.specs.View.{dd_view}
use Rattle.ortext_write.proofs.write.put_item.Goals as goal

pub put_dd-requires : goal.put_dd-requires
unfolding dd_view
put_dd-requires c = rw (c.text.ensures, c.text-2.ensures) c.requires

pub returns : goal.returns
unfolding dd_view
returns c = rw (c.text.ensures, c.text-2.ensures) at c.put_dd.ensures
