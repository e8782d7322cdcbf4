-- `table_order::compare::pass_equal` meets its contract: equal bytes have equal ranks.
-- Assumes nothing.
use Rattle.table_order.proofs.Laws.Compare.{shared-on}
use Rattle.table_order.proofs.compare.pass_equal.Goals as goal

pub returns-in-Domain : goal.returns-in-Domain
returns-in-Domain c = c.requires.from_le_end

pub returns-in-Path : goal.returns-in-Path
returns-in-Path c =
    let a = c.args in
    let p = c.requires in
    let e = c.equal_blocks.ensures in (
      e.within,
      rw c.in-Path.is
          (shared-on a.a.now a.b.now a.from a.end c.equal_blocks.result (rw c.in-Path.is at p.from_le_end.1) p.end_in_bounds.0 p.end_in_bounds.1 e),
    )
