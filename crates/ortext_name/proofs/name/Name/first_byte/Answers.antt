-- `ortext_name::name::Name::first_byte` meets its contract: the first piece that is not empty has the text's first byte.
-- Assumes nothing.
use mathlib.Core.Path.{◌∙◌}
use Rattle.ortext_name.proofs.Laws.Name.{first-given, first_initial, first-surname, is_bare, is_full}
use Rattle.ortext_name.proofs.name.Name.first_byte.Goals as goal

pub returns-then-not-is_empty : goal.returns-then-not-is_empty
returns-then-not-is_empty c = first-given _ _ _ (is_full _ c.is_empty.ensures c.if-not-is_empty.true)

pub returns-then-not-is_empty-2 : goal.returns-then-not-is_empty-2
returns-then-not-is_empty-2 c =
    rw (is_bare _ c.is_empty.ensures c.if-not-is_empty.false)
    (first_initial _ _ (is_full _ c.is_empty-else-not-is_empty.ensures c.if-not-is_empty-2.true))

pub returns-else-not-is_empty-2 : goal.returns-else-not-is_empty-2
returns-else-not-is_empty-2 c =
    rw (is_bare _ c.is_empty.ensures c.if-not-is_empty.false, is_bare _ c.is_empty-else-not-is_empty.ensures c.if-not-is_empty-2.false)
    (c.byte_at.ensures ∙ first-surname _)
