-- `ortext_build::build::add_value` meets its contract.
-- Assumes nothing.
use mathlib.Core.Path.{◌∙◌}
use Rattle.chars.specs.Lists.{non_empty}
use Rattle.chars.proofs.Laws.Seq.{some-length}
use Rattle.ortext_name.proofs.Laws.Name.{is_bare, is_full}
use Rattle.ortext_build.specs.Adding.{add_singles, and_then}
use Rattle.ortext_build.proofs.build.add_value.Goals as goal

pub returns-then-is_empty : goal.returns-then-is_empty
unfolding add_singles non_empty
returns-then-is_empty c = rw (is_bare _ c.is_empty.ensures c.if-is_empty.true) c.unchanged.ensures

pub returns : goal.returns
unfolding add_singles and_then
returns c = c.with_single.ensures ∙ rw (some-length c.args.value.now (is_full _ c.is_empty.ensures c.if-is_empty.false))
