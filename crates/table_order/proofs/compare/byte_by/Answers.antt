-- `table_order::compare::byte_by` meets its contract.
-- Assumes nothing.
use mathlib.Core.Path.{sym}
use Prim.Native.Nat.{◌-◌}
use native.Mathlib.Omega.{arith}
use lib.ListN.{length}
use Rattle.table_order.specs.Order.{read_by}
use Rattle.table_order.proofs.Laws.Compare.{reverse-at}
use Rattle.table_order.proofs.compare.byte_by.Goals as goal

pub returns-in-Domain : goal.returns-in-Domain
unfolding read_by
returns-in-Domain c =
    let a = c.args in
    rw c.in-Domain.is (sym (reverse-at a.s.now a.i (length a.s.now - 1 - a.i) (omega arith)))

pub returns-in-Path : goal.returns-in-Path
unfolding read_by
returns-in-Path c = rw c.in-Path.is
