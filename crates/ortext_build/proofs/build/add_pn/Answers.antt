-- `ortext_build::build::add_pn` meets its contract.
-- Assumes nothing.
use mathlib.Core.Path.{sym, ap, ◌∙◌}
use native.Mathlib.Omega.{arith}
use borrow.Author.Tests.{eq-eqb, ne_eqb}
use Rattle.ortext_name.specs.Name.{read_name}
use Rattle.ortext_build.specs.Adding.{add_name, add_pn, done}
use Rattle.ortext_name.specs.Places.{NameReading}
use Rattle.ortext_segments.specs.Scan.{span_text}
use Rattle.ortext_build.proofs.Laws.Adding.{name_long}
use Rattle.ortext_build.proofs.Laws.Spans.{fronted_length}
use Rattle.ortext_build.proofs.build.add_pn.Goals as goal

pub returns-then-span-eq0 : goal.returns-then-span-eq0
unfolding add_pn
returns-then-span-eq0 c = rw (eq-eqb _ 0 c.if-span-eq0.true) (ap done c.unchanged.ensures)

pub returns-in_default : goal.returns-in_default
unfolding add_pn done
returns-in_default c =
    let a = c.args in
    rw (ne_eqb _ 0 c.if-span-eq0.false) (ap done c.refused.ensures ∙ name_long a.rec (span_text a.s.now a.span) (omega (arith, c.requires.half, c.in_default.ensures)))

pub slice_bounds-text-end : goal.slice_bounds-text-end
slice_bounds-text-end c = c.in-Some.ensures.fits

pub slice_bounds-part-end : goal.slice_bounds-part-end
slice_bounds-part-end c = fronted_length c.in-Some.ensures

pub add_name-requires : goal.add_name-requires
unfolding NameReading
add_name-requires c = c.in-Some-read_name.ensures

pub returns-in-Some-read_name : goal.returns-in-Some-read_name
unfolding add_pn NameReading
returns-in-Some-read_name c =
    let a = c.args in
    let p = c.in-Some-read_name.ensures in
    rw (ne_eqb _ 0 c.if-span-eq0.false) (ap done (c.add_name.ensures ∙ ap (add_name a.rec) (sym p.reads ∙ ap read_name c.in-Some.ensures.holds)))

pub returns-in-None : goal.returns-in-None
unfolding add_pn add_name NameReading
returns-in-None c =
    let a = c.args in
    rw (ne_eqb _ 0 c.if-span-eq0.false) (ap done c.refused-in-None.ensures ∙ ap (λ o. done (add_name a.rec o)) (sym c.in-None.ensures ∙ ap read_name c.in-Some.ensures.holds))
