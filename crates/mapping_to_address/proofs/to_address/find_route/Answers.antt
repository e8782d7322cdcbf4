-- `mapping_to_address::to_address::find_route` meets its contract: the row that was found begins the levels, and with none the gateway's is taken.
-- Assumes nothing.
use mathlib.Core.List.{[]}
use Rattle.std.proofs.Common.{refl}
use Rattle.table.specs.Rows.{between}
use Rattle.table_lookup.specs.Lookup.{by_path}
use Rattle.table_lookup.specs.Tokens.{tokens_of}
use Rattle.table_lookup.proofs.Laws.Lookup.{found-begins}
use Rattle.mapping.proofs.Laws.Route.{routed_found, routed_nowhere}
use Rattle.mapping.proofs.Laws.Sides.{outward-plan}
use Rattle.mapping_to_address.proofs.to_address.find_route.Goals as goal

pub route_under-requires-clause-begins : goal.route_under-requires-clause-begins
route_under-requires-clause-begins c =
    let t = c.args.table.now in
    rw c.row_at.ensures
    (found-begins by_path t.text.now t.to_domain.now (tokens_of c.args.levels.now) t.loaded.to_domain c.in-Some.i c.in-Some.ensures)

pub returns : goal.returns
returns c =
    let t = c.args.table.now in
    let ls = tokens_of c.args.levels.now in
    rw (outward-plan t.text.now [] t.to_domain.now t.loaded ls)
    (routed_found t.text.now [] t.to_domain.now t.loaded ls c.route_under.result c.in-Some.i
    c.in-Some.ensures (rw c.row_at.ensures at c.route_under.ensures))

pub returns-in_default : goal.returns-in_default
unfolding between
returns-in_default c =
    let t = c.args.table.now in
    let ls = tokens_of c.args.levels.now in
    rw (outward-plan t.text.now [] t.to_domain.now t.loaded ls)
    (routed_nowhere t.text.now [] t.to_domain.now t.loaded ls _ c.in_default.ensures refl refl refl)
