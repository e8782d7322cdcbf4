-- `table_order::insert::key_size` meets its contract.
-- Assumes nothing.
use mathlib.Core.Path.{ap, ◌∙◌}
use Rattle.table.specs.Keys.{key_place}
use Rattle.table_order.proofs.insert.key_size.Goals as goal

pub overflow_sub-result : goal.overflow_sub-result
overflow_sub-result c = rw (c.key_of-place.ensures ∙ ap (key_place c.args.key) c.row_in.ensures) c.requires.ends

pub returns : goal.returns
returns c = rw (c.key_of-place.ensures ∙ ap (key_place c.args.key) c.row_in.ensures)
