-- `ortext_build::build::add_units` meets its contract. The loop's invariant: what is left, added to what there is so far, is all of it added.
-- Assumes nothing.
use mathlib.Core.Path.{◌≡◌, refl, sym, ap, ◌∙◌}
use mathlib.Core.List.{map, reverse}
use Prim.Native.Nat.{suc, ◌-◌}
use native.Mathlib.Omega.{arith}
use lib.ListN.{take, get_or}
use Rattle.oraddr.specs.Add.{add_unit, told}
use Rattle.ortext_build.specs.Adding.{add_units, and_then}
use Rattle.ortext_named.specs.Named.{no_span}
use Rattle.ortext_segments.specs.Scan.{span_text}
use Rattle.ortext_build.proofs.Laws.Adding.{told-done, told-refused, units_next, units_stop}
use Rattle.ortext_build.proofs.build.add_units.Goals as goal

pub loop-i-init : goal.loop-i-init
loop-i-init c = (omega arith, refl)

pub returns-in_default : goal.returns-in_default
returns-in_default c =
    let l = c.loop-i in
    sym (l.invariant.1 ∙ units_stop _ (told l.done) (told-refused l.done c.in_default.is))

pub add_unit-done-requires : goal.add_unit-done-requires
add_unit-done-requires c = c.requires.units (c.loop-i.i - 1)

pub loop-i-preserved : goal.loop-i-preserved
unfolding and_then
loop-i-preserved c =
    let l = c.loop-i in
    let t = c in
    let units = t.args.named.units in
    let f = span_text t.args.s.now in
    let e : l.i ≡ suc (l.i - 1) = omega arith in (
      omega arith,
      l.invariant.1 ∙ ap (λ i. add_units (reverse (map f (take i units))) (told l.done)) e
          ∙ units_next f no_span (l.i - 1) units (told l.done) (omega (arith, t.requires.units-room, t.requires.few-units))
          ∙ ap (λ o. add_units (reverse (map f (take (l.i - 1) units))) (and_then o (λ r. add_unit r (f (get_or units (l.i - 1) no_span))))) (told-done l.done c.in-Done.is)
          ∙ ap (add_units (reverse (map f (take (l.i - 1) units)))) (sym c.add_unit-done.ensures),
    )

pub returns : goal.returns
unfolding add_units
returns c = let l = c.loop-i in let e : l.i ≡ 0 = omega arith in sym (l.invariant.1 ∙ rw e)
