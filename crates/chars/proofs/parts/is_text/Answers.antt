-- `chars::parts::is_text` meets its contract: a text is printable parts with single spaces between (`text-parted`).
-- Assumes nothing.
use mathlib.Core.Path.{sym, ◌∙◌}
use Rattle.chars.specs.Class.{is_in}
use Rattle.chars.proofs.Laws.Spaces.{text-parted}
use Rattle.chars.proofs.parts.is_text.Goals as goal

pub returns : goal.returns
unfolding is_in
returns c = c.is_parted.ensures ∙ sym (text-parted c.args.s.now)
