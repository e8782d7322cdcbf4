-- `table_settle::settle::count_left` meets its contract.
-- Assumes nothing.
use mathlib.Core.Path.{sym, ap, ◌∙◌}
use Prim.Native.Nat.{◌-◌}
use native.Mathlib.Omega.{arith}
use lib.ListN.{length}
use lib.Seq.{length-take-le}
use Rattle.table_settle.proofs.Laws.Settle.{left_count, left_none}
use Rattle.table_settle.proofs.settle.count_left.Goals as goal

pub returns-then-start-eq0 : goal.returns-then-start-eq0
returns-then-start-eq0 c =
    let a = c.args in
    sym (ap length (left_none a.domain.now a.start c.if-start-eq0.true))

pub slice_bounds-count_parts-length : goal.slice_bounds-count_parts-length
slice_bounds-count_parts-length c =
    let a = c.args in
    sym (length-take-le (a.start - 1) a.domain.now (omega arith))

pub returns : goal.returns
returns c =
    let a = c.args in
    c.count_parts.ensures ∙ sym (left_count a.domain.now a.start (omega arith))
