-- `table_order::place::row_in` meets its contract.
-- Assumes nothing.
use borrow.Author.Rules.{rules}
use Rattle.table_order.specs.Place.{number_in}
use Rattle.table_order.proofs.place.row_in.Goals as goal

pub row_at-requires : goal.row_at-requires
unfolding number_in
row_at-requires c = search rules

pub returns : goal.returns
unfolding number_in
returns c = search rules
