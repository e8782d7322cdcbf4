-- `dates::convert::MailTimeForm::read` meets its contract.
-- Assumes nothing.
use Rattle.dates.proofs.Laws.Convert.{date_dated}
use Rattle.dates.proofs.convert.MailTimeForm.read.Goals as goal

pub returns-clause-dated : goal.returns-clause-dated
returns-clause-dated c = date_dated c.args.s.now _ c.read_date.ensures
