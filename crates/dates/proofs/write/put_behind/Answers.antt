-- `dates::write::put_behind` meets its contract.
-- Assumes nothing.
use Rattle.chars.proofs.Laws.Write.{wrote_then}
use Rattle.dates.proofs.write.put_behind.Goals as goal

pub returns : goal.returns
returns c = wrote_then c.put-next.ensures c.put_two.ensures
