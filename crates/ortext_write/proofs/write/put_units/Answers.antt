-- `ortext_write::write::put_units` meets its contract. The loop's invariant: what is left to write, from the end down.
-- Assumes nothing.
use mathlib.Core.Path.{◌≡◌, sym, ap, ◌∙◌}
use mathlib.Core.List.{List, [], ◌++◌, reverse}
use Prim.Native.Nat.{ℕ, ◌-◌, ◌<◌, ◌≤◌}
use native.Mathlib.Omega.{arith}
use lib.ListN.{length, drop, take, get_or}
use lib.Seq.{take_all}
use Rattle.oraddr.specs.View.{unit_view, units_view}
use Rattle.ortext_segments.specs.Keys.{keys, ou_key}
use Rattle.ortext_write.specs.Write.{plain_segment}
use Rattle.ortext_write.proofs.Laws.Left.{flat, flat_back, flat-back-end, left_all, left_more, left_none, left_room}
use Rattle.ortext_write.proofs.Laws.Write.{unit_text, joined-map}
use Rattle.ortext_write.proofs.write.put_units.Goals as goal

-- the unit before i, and then those before it
step : (u : List (List ℕ)) (from i : ℕ) (v : List ℕ) → from < i → i ≤ length u → v ≡ get_or u (i - 1) []
    → flat unit_text (reverse (drop from (take i u))) ≡ unit_text v ++ flat unit_text (reverse (drop from (take (i - 1) u)))
step u from i v h l e =
    flat_back unit_text from u i [] h l ∙ ap (λ t. unit_text t ++ flat unit_text (reverse (drop from (take (i - 1) u)))) (sym e)

pub loop-i-init : goal.loop-i-init
loop-i-init c =
    let from = c.args.from in
    let u = units_view c.args.units in (
      omega arith,
      left_all (joined-map keys (plain_segment ou_key) (reverse (drop from u))
          ∙ ap (λ l. flat unit_text (reverse (drop from l))) (sym (take_all c.size-i.result u (omega arith)))),
    )

pub put_unit-next-requires : goal.put_unit-next-requires
put_unit-next-requires c =
    let l = c.loop-i in
    let from = c.args.from in
    let u = units_view c.args.units in
    let v = unit_view c.name.result in
    left_room (unit_text v) (flat unit_text (reverse (drop from (take (l.i - 1) u)))) l.invariant.1
    (step u from l.i v (omega arith) (omega arith) c.name.ensures) c.requires

pub loop-i-preserved : goal.loop-i-preserved
loop-i-preserved c =
    let l = c.loop-i in
    let u = units_view c.args.units in
    let v = unit_view c.name.result in
    (omega arith, left_more l.invariant.1 (step u c.args.from l.i v (omega arith) (omega arith) c.name.ensures) c.put_unit-next.ensures)

pub returns : goal.returns
returns c = left_none c.loop-i.invariant.1 (flat-back-end unit_text c.args.from (units_view c.args.units) c.loop-i.i (omega arith))
