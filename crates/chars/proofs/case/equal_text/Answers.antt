-- `chars::case::equal_text` meets its contract.
-- Assumes nothing.
use Rattle.std.proofs.Common.{◌∙◌}
use Rattle.chars.proofs.Laws.Case.{equal-pointwise}
use Rattle.chars.proofs.case.equal_text.Goals as goal

pub returns : goal.returns
returns c = c.eq.ensures ∙ equal-pointwise c.args.a.now c.args.b.now
