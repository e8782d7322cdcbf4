-- `dates::convert::MailTimeForm::write` meets its contract.
-- Assumes nothing.
use native.Mathlib.Omega.{arith}
use Rattle.dates.proofs.Laws.Convert.{date_length}
use Rattle.dates.proofs.convert.MailTimeForm.write.Goals as goal

pub returns-clause-fits : goal.returns-clause-fits
returns-clause-fits c = omega (arith, c.write_date.ensures.moved, date_length c.args.d c.requires.d_value)
