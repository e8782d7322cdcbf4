-- `table_order::compare::rank_of` meets its contract.
-- Assumes nothing.
use native.Mathlib.Numerals.{add-one}
use borrow.Author.Tests.{eq-eqb, ne_eqb}
use Rattle.table_order.specs.Order.{rank}
use Rattle.table_order.proofs.compare.rank_of.Goals as goal

pub returns-then-b-sep : goal.returns-then-b-sep
unfolding rank
returns-then-b-sep c = rw (eq-eqb _ _ c.if-b-sep.true)

pub returns : goal.returns
unfolding rank
returns c =
    rw (add-one, c.fold_case.ensures, ne_eqb _ _ c.if-b-sep.false)
