-- `table_order::compare::compare_bytes` meets its contract. Assumes nothing.
use mathlib.Core.Path.{ap, ap₂, ◌∙◌}
use Rattle.std.specs.Ordering.{nat_cmp}
use Rattle.std.specs.Cmp.{nat_cmp_is}
use Rattle.std.proofs.Common.{Equal}
use Rattle.table_order.specs.Order.{rank}
use Rattle.table_order.proofs.compare.compare_bytes.Goals as goal

pub returns-then-x-y : goal.returns-then-x-y
returns-then-x-y c = nat_cmp_is (rank c.args.sep c.args.x) (rank c.args.sep c.args.y) Equal (ap (rank c.args.sep) c.if-x-y.true)

pub returns : goal.returns
returns c = c.cmp.ensures ∙ ap₂ nat_cmp c.rank_of.ensures c.rank_of-2.ensures
