-- `gateway_restricted::packed_restrict` meets its contract.
-- Assumes nothing.
use mathlib.Core.Path.{refl}
use Rattle.restricted.specs.Answers.{restricted_number, told}
use Rattle.restricted.specs.Convert.{restrict_text}
use Rattle.gateway_pack.proofs.Laws.Packed.{exported_result}
use Rattle.gateway_restricted.proofs.Laws.Numbers.{restricted_small}
use Rattle.gateway_restricted.proofs.packed_restrict.Goals as goal

pub pack_result-requires : goal.pack_result-requires
pack_result-requires c = restricted_small c.restrict.result

pub returns : goal.returns
returns c =
    let a = c.args in
    let d = c.restrict in
    exported_result restricted_number told (restrict_text a.text.now a.out.now) d.result c.pack_result.result d.new.out (λ n. refl) (λ e. refl)
    d.ensures c.pack_result.ensures
