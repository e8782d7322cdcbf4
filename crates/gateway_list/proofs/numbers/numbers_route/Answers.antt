-- `gateway_list::numbers::numbers_route` meets its contract: the lines are answered under what the rows were read as.
-- Assumes nothing.
use Rattle.std.proofs.Common.{subst}
use Rattle.table.specs.Lines.{TableOutcome}
use Rattle.router.specs.Run.{Routing}
use Rattle.gateway_list.proofs.numbers.numbers_route.Goals as goal

pub returns : goal.returns
returns c =
    subst (λ (x : TableOutcome). Routing x c.args.over c.args.input.now c.args.last c.args.out.now c.route.result c.route.new.out)
    c.read_list-read.ensures.answers c.route.ensures
