-- `ortext_build::build::add_dds` meets its contract. The loop's invariant: what is left, added to what there is so far, is all of it added.
-- Assumes nothing.
use mathlib.Core.Path.{sym, ap, ◌∙◌}
use mathlib.Core.List.{map}
use Prim.Native.Nat.{◌+◌, ◌≤◌}
use native.Mathlib.Omega.{arith}
use lib.ListN.{length, take, drop, get_or, drop_of_length-le, length-take}
use lib.Seq.{get_or-take}
use Rattle.oraddr.specs.Add.{add_dd, told}
use Rattle.ortext_build.specs.Adding.{add_dds, and_then, dd_at}
use Rattle.ortext_named.specs.Named.{no_span}
use Rattle.ortext_named.specs.declared.named.DdPlaces.{DdPlaces}
use Rattle.ortext_build.proofs.Laws.Adding.{dds_next, dds_stop, told-done, told-refused}
use Rattle.ortext_build.proofs.build.add_dds.Goals as goal

pub returns-in_default : goal.returns-in_default
returns-in_default c =
    let l = c.loop-i in
    sym (l.invariant ∙ dds_stop _ (told l.done) (told-refused l.done c.in_default.is))

pub add_dd-done-requires : goal.add_dd-done-requires
add_dd-done-requires c =
    record { kind = c.requires.kinds c.loop-i.i; value = c.requires.values c.loop-i.i }

pub loop-i-preserved : goal.loop-i-preserved
unfolding and_then
loop-i-preserved c =
    let l = c.loop-i in
    let t = c in
    let n = t.args.named.dd_count in
    let dds = t.args.named.dds in
    let f = dd_at t.args.s.now in
    let none : DdPlaces = record { kind = no_span; value = no_span } in
    let d = f (get_or (take n dds) l.i none) in
    l.invariant ∙ dds_next f none l.i (take n dds) (told l.done) (omega (arith, length-take n dds, t.requires.dds-room, t.requires.few-dds))
    ∙ ap (λ o. add_dds (map f (drop (l.i + 1) (take n dds))) (and_then o (λ r. add_dd r d.kind d.value))) (told-done l.done c.in-Done.is)
    ∙ ap (add_dds (map f (drop (l.i + 1) (take n dds)))) (ap (λ p. add_dd l.done.«record» (f p).kind (f p).value) (get_or-take n dds l.i none (omega arith)) ∙ sym c.add_dd-done.ensures)

pub returns : goal.returns
unfolding add_dds
returns c =
    let l = c.loop-i in
    let t = c in
    let n = t.args.named.dd_count in
    let dds = t.args.named.dds in
    let h : length (take n dds) ≤ l.i = omega (arith, length-take n dds) in
    sym (l.invariant ∙ rw (drop_of_length-le (take n dds) h))
