-- `gateway_dates::packed_date_to_x400` meets its contract.
-- Assumes nothing.
use mathlib.Core.Path.{refl}
use Rattle.dates.specs.Answers.{date_number, told}
use Rattle.dates.specs.Convert.{date_to_utc}
use Rattle.gateway_pack.proofs.Laws.Packed.{exported_result}
use Rattle.gateway_dates.proofs.Laws.Numbers.{date_small}
use Rattle.gateway_dates.proofs.packed_date_to_x400.Goals as goal

pub pack_result-requires : goal.pack_result-requires
pack_result-requires c = date_small c.date_to_x400.result

pub returns : goal.returns
returns c =
    let a = c.args in
    let d = c.date_to_x400 in
    exported_result date_number told (date_to_utc a.date.now a.out.now) d.result c.pack_result.result d.new.out (λ n. refl) (λ e. refl)
    d.ensures c.pack_result.ensures
