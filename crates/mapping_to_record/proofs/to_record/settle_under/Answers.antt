-- `mapping_to_record::to_record::settle_under` meets its contract.
-- Assumes nothing.
use mathlib.Core.Path.{◌∙◌, sym}
use Rattle.table.specs.Rows.{between, row_at, table_at}
use Rattle.mapping.specs.Carried.{is_gateway, settled_under}
use Rattle.mapping_to_record.proofs.to_record.settle_under.Goals as goal

pub returns-then-same_text : goal.returns-then-same_text
unfolding settled_under is_gateway row_at between table_at
returns-then-same_text c = rw (sym c.same_text.ensures ∙ c.if-same_text.true, c.empty.ensures)

pub returns : goal.returns
unfolding settled_under is_gateway row_at between table_at
returns c = rw (sym c.same_text.ensures ∙ c.if-same_text.false) c.settle.ensures
