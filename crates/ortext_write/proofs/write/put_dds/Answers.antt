-- `ortext_write::write::put_dds` meets its contract. The loop's invariant: what is left to write.
-- Assumes nothing.
use mathlib.Core.Path.{◌≡◌, sym, ap, ◌∙◌}
use mathlib.Core.List.{List, ◌++◌}
use Prim.Native.Nat.{ℕ, ◌+◌, ◌<◌}
use native.Mathlib.Omega.{arith}
use lib.ListN.{length, drop, get_or}
use Rattle.oraddr.specs.Attributes.{Dd, no_dd}
use Rattle.oraddr.specs.View.{dd_view, dds_view}
use Rattle.ortext_segments.specs.Keys.{keys}
use Rattle.ortext_write.specs.Write.{dd_segment}
use Rattle.ortext_write.proofs.Laws.Left.{flat, flat-end, flat_step, left_all, left_more, left_none, left_room}
use Rattle.ortext_write.proofs.Laws.Write.{dd_text, joined-map}
use Rattle.ortext_write.proofs.write.put_dds.Goals as goal

-- the DD at i, and then those behind it
step : (d : List Dd) (i : ℕ) (v : Dd) → i < length d → v ≡ get_or d i no_dd → flat dd_text (drop i d) ≡ dd_text v ++ flat dd_text (drop (i + 1) d)
step d i v h e = flat_step dd_text d i no_dd h ∙ ap (λ t. dd_text t ++ flat dd_text (drop (i + 1) d)) (sym e)

pub loop-i-init : goal.loop-i-init
loop-i-init c = left_all (joined-map keys dd_segment (dds_view c.args.dds))

pub put_item-next-requires : goal.put_item-next-requires
put_item-next-requires c =
    let l = c.loop-i in
    let d = dds_view c.args.dds in
    let v = dd_view c.item.result in
    left_room (dd_text v) (flat dd_text (drop (l.i + 1) d)) l.invariant (step d l.i v (omega arith) c.item.ensures) c.requires

pub loop-i-preserved : goal.loop-i-preserved
loop-i-preserved c =
    let l = c.loop-i in
    let d = dds_view c.args.dds in
    left_more l.invariant (step d l.i (dd_view c.item.result) (omega arith) c.item.ensures) c.put_item-next.ensures

pub returns : goal.returns
returns c = left_none c.loop-i.invariant (flat-end dd_text (dds_view c.args.dds) c.loop-i.i (omega arith))
