-- `dates::convert::UtcTimeForm::read` meets its contract.
-- Assumes nothing.
use Rattle.dates.proofs.Laws.Convert.{utc_dated}
use Rattle.dates.proofs.convert.UtcTimeForm.read.Goals as goal

pub returns-clause-dated : goal.returns-clause-dated
returns-clause-dated c = utc_dated c.args.s.now _ c.read_utc.ensures
