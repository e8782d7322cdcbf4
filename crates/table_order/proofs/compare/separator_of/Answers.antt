-- `table_order::compare::separator_of` meets its contract.
-- Assumes nothing.
use Rattle.table_order.specs.Order.{separator}
use Rattle.table_order.proofs.compare.separator_of.Goals as goal

pub returns-in-Domain : goal.returns-in-Domain
unfolding separator
returns-in-Domain c = rw c.in-Domain.is

pub returns-in-Path : goal.returns-in-Path
unfolding separator
returns-in-Path c = rw c.in-Path.is
