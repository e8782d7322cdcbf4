-- `date_read::read::signed_minutes` meets its contract.
-- Assumes nothing.
use mathlib.Core.Path.{◌∙◌}
use native.Mathlib.Omega.{arith}
use mir.Syntax.{w32}
use mir.ValLaws.{to_z-of_z}
use Rattle.date_read.specs.Read.{signed}
use Rattle.date_read.proofs.Laws.Read.{negated, negated_fits, number_read}
use Rattle.date_read.proofs.read.signed_minutes.Goals as goal

pub overflow_sub-result : goal.overflow_sub-result
overflow_sub-result c = negated_fits c.args.n (omega arith)

pub returns-then-minus : goal.returns-then-minus
unfolding signed
returns-then-minus c =
    let n = c.args.n in
    rw c.if-minus.true (to_z-of_z w32 _ (negated_fits n (omega arith)) ∙ negated n (omega arith))

pub returns-else-minus : goal.returns-else-minus
unfolding signed
returns-else-minus c = rw c.if-minus.false (number_read c.args.n (omega arith))
