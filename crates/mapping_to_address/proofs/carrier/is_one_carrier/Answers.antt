-- `mapping_to_address::carrier::is_one_carrier` meets its contract: the first DD is the only one.
-- Assumes nothing.
use mathlib.Core.Path.{sym, ap, ◌∙◌}
use Rattle.std.proofs.lemmas.Bool.{ne_eqb}
use Rattle.chars.specs.Case.{same_text}
use Rattle.oraddr.specs.View.{dd_view, dds_view}
use Rattle.mapping.specs.Carried.{carrier_type}
use Rattle.mapping.proofs.Laws.Carrier.{not-one, only_one}
use Rattle.mapping_to_address.proofs.carrier.is_one_carrier.Goals as goal

pub returns-else-size-eq1 : goal.returns-else-size-eq1
returns-else-size-eq1 c = ne_eqb c.size.result 1 c.if-size-eq1.false ∙ not-one (dds_view c.args.dds) (λ e. c.if-size-eq1.false (c.size.ensures ∙ e))

pub returns-then-size-eq1 : goal.returns-then-size-eq1
unfolding dd_view
returns-then-size-eq1 c =
    let ds = dds_view c.args.dds in
    c.is_carrier_type.ensures
    ∙ ap (λ d. same_text carrier_type d.kind) c.item.ensures
    ∙ only_one ds (sym c.size.ensures ∙ c.if-size-eq1.true)
