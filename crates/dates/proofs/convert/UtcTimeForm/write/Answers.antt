-- `dates::convert::UtcTimeForm::write` meets its contract.
-- Assumes nothing.
use native.Mathlib.Omega.{arith}
use Rattle.dates.proofs.Laws.Convert.{utc_length}
use Rattle.dates.proofs.convert.UtcTimeForm.write.Goals as goal

pub returns-clause-fits : goal.returns-clause-fits
returns-clause-fits c = omega (arith, c.write_utc.ensures.moved, utc_length c.args.d)
