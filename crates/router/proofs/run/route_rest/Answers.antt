-- `router::run::route_rest` meets its contract.
-- Assumes nothing.
use Rattle.std.proofs.Common.{◌-◌, length, arith}
use borrow.Author.Tests.{ltb-false}
use Rattle.router.proofs.run.route_rest.Goals.{then-over-via-then-over, then-over-via-else-over+then-last}
use Rattle.router.proofs.run.route_rest.Goals as goal

pub returns-then-over : goal.returns-then-over
returns-then-over c =
    c.answer_rest.ensures c.args.last
    (elim c.then-over.branch [
      | then-over-via-then-over w ↦ λ e. absurd (omega (arith, ltb-false 4096 (length c.args.input.now - c.args.at) e, w.if-over.true))
      | then-over-via-else-over+then-last w ↦ λ e. w.if-last.true
    ])
