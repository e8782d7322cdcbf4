-- `dates::write::put_utc_second` meets its contract.
-- Assumes nothing.
use mathlib.Core.Path.{sym, ap}
use Rattle.chars.proofs.Laws.Write.{wrote_as, wrote_nothing}
use Rattle.dates.specs.Write.{utc_second_text, two}
use Rattle.dates.proofs.write.put_utc_second.Goals as goal

pub returns-in-Some : goal.returns-in-Some
unfolding utc_second_text
returns-in-Some c = wrote_as (two c.in-Some.n) (utc_second_text c.args.second) (ap utc_second_text (sym c.in-Some.is)) c.put_two.ensures

pub returns-in-None : goal.returns-in-None
unfolding utc_second_text
returns-in-None c = wrote_as _ (utc_second_text c.args.second) (ap utc_second_text (sym c.in-None.is)) wrote_nothing
