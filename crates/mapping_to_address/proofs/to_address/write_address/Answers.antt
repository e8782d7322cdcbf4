-- `mapping_to_address::to_address::write_address` meets its contract: a carrier's address is what it carries, any other record's goes by its route.
-- Assumes nothing.
use mathlib.Core.Path.{sym, ap, ◌∙◌}
use mathlib.Core.Option.{some}
use Rattle.oraddr.specs.View.{view}
use mathlib.Core.List.{[]}
use Rattle.table.specs.Rows.{table_at}
use Rattle.mapping.specs.Answers.{outward}
use Rattle.mapping.specs.ToAddress.{is_carrier}
use Rattle.mapping.proofs.Laws.Laid.{flat-laid}
use Rattle.mapping.proofs.Laws.Route.{address-carried, address-planned, carrier_test, length_routed, length-tokens, planned-route, wrote_fronted}
use Rattle.mapping_to_address.proofs.to_address.write_address.Goals as goal

pub find_route-requires : goal.find_route-requires
find_route-requires c =
    let f = c.flatten in
    flat-laid c.args.rec f.new.flat f.new.ends c.requires.canonical f.ensures

pub returns-then-is_carrier : goal.returns-then-is_carrier
unfolding view is_carrier table_at
returns-then-is_carrier c =
    let a = c.args in
    let t = a.table.now in
    let test = c.is_carrier.ensures ∙ carrier_test t.text.now [] t.to_domain.now t.loaded (view a.rec) _ c.flatten.ensures.holds in
    rw (address-carried (outward t.text.now t.to_domain.now t.loaded) (view a.rec) (sym test ∙ c.if-is_carrier.true)) c.write_carried.ensures

pub write_routed-requires : goal.write_routed-requires
write_routed-requires c =
    record {
      dst_len = c.requires.dst_len;
      canonical = c.requires.canonical;
      same_levels = c.flatten.ensures.holds;
    }

pub returns : goal.returns
unfolding is_carrier table_at
returns c =
    let a = c.args in
    let t = a.table.now in
    let f = c.flatten in
    let test = c.is_carrier.ensures ∙ carrier_test t.text.now [] t.to_domain.now t.loaded (view a.rec) _ f.ensures.holds in
    let routed = rw f.ensures.holds at c.find_route.ensures in
    rw (address-planned (outward t.text.now t.to_domain.now t.loaded) (view a.rec) (sym test ∙ c.if-is_carrier.false) ∙ ap some (planned-route (view a.rec) routed))
    (wrote_fronted c.write_routed.ensures
    (rw c.requires.dst_len
    (length_routed a.rec c.find_route.result c.requires.canonical (rw f.ensures.holds at (length-tokens f.new.flat f.new.ends)) c.find_route.result.short c.find_route.result.few)))
