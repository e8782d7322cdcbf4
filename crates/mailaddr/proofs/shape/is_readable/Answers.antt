-- `mailaddr::shape::is_readable` meets its contract: the parts between single spaces are what the definition asks of the whole.
-- Assumes nothing.
use mathlib.Core.Path.{sym, ◌∙◌}
use Rattle.chars.specs.Class.{is_in}
use Rattle.mailaddr.proofs.Laws.Shape.{readable_parted}
use Rattle.mailaddr.proofs.shape.is_readable.Goals as goal

pub returns : goal.returns
unfolding is_in
returns c = c.is_parted.ensures ∙ sym (readable_parted c.args.s.now)
