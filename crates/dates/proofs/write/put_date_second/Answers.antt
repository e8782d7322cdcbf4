-- `dates::write::put_date_second` meets its contract.
-- Assumes nothing.
use mathlib.Core.List.{◌∷◌}
use mathlib.Core.Path.{sym, ap}
use Rattle.chars.proofs.Laws.Write.{wrote_as, wrote_nothing}
use Rattle.dates.specs.Write.{date_second_text, two}
use Rattle.dates.proofs.write.put_date_second.Goals as goal

pub returns-in-Some : goal.returns-in-Some
unfolding date_second_text
returns-in-Some c = wrote_as (58 ∷ two c.in-Some.n) (date_second_text c.args.second) (ap date_second_text (sym c.in-Some.is)) c.put_behind.ensures

pub returns-in-None : goal.returns-in-None
unfolding date_second_text
returns-in-None c = wrote_as _ (date_second_text c.args.second) (ap date_second_text (sym c.in-None.is)) wrote_nothing
