-- `gateway_route::route` meets its contract.
-- Assumes nothing.
use mathlib.Core.Path.{subst, ◌∙◌}
use Rattle.table.specs.Lines.{TableOutcome}
use Rattle.table_load.proofs.Laws.Ready.{tabled_answer}
use Rattle.router.specs.Run.{Routing}
use Rattle.gateway_route.proofs.route.Goals as goal

pub returns : goal.returns
returns c =
    let a = c.args in
    let r = c.route in
    let read = c.loaded_table-read in
    let told = tabled_answer _ _ _ c.open-loaded.result read.result read.ensures ∙ c.open-loaded.ensures.answers in
    subst (λ (l : TableOutcome). Routing l a.over a.input.now a.last a.out.now r.result r.new.out) told r.ensures
