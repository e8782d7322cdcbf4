-- `mapping_to_address::carrier::write_carried` meets its contract: the value is that of the first DD.
-- Assumes nothing.
use mathlib.Core.Path.{◌≡◌, ap, ◌∙◌}
use Rattle.oraddr.specs.View.{dd_value_view, dd_view, dds_view}
use Rattle.mapping.specs.ToAddress.{carried_address, carried_value}
use Rattle.mapping.proofs.Laws.Carrier.{first-value}
use Rattle.mapping_to_address.proofs.carrier.write_carried.Goals as goal

pub returns : goal.returns
unfolding carried_address dd_view
returns c =
    let e : dd_value_view c.item.result.value ≡ carried_value (dds_view c.args.dds) = ap (λ d. d.value) c.item.ensures
    ∙ first-value (dds_view c.args.dds) in
    rw e at c.write_value.ensures
