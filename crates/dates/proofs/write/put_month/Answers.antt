-- `dates::write::put_month` meets its contract.
-- Assumes nothing.
use Rattle.date_read.proofs.Laws.Month.{month_list}
use Rattle.dates.proofs.write.put_month.Goals as goal

pub returns : goal.returns
returns c = rw month_list c.put.ensures
