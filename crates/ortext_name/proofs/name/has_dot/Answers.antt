-- `ortext_name::name::has_dot` meets its contract: a dot stands in a text where the run up to the first one stops short of its end.
-- Assumes nothing.
use mathlib.Core.Path.{sym}
use native.Mathlib.Nat.{zero-add}
use Rattle.ortext_name.proofs.Laws.Name.{member-run}
use Rattle.ortext_name.proofs.name.has_dot.Goals as goal

pub returns : goal.returns
returns c = rw (c.part_end.ensures, zero-add) (sym (member-run c.args.s.now))
