-- `ortext_build::build::add_dd` meets its contract.
-- Assumes nothing.
use mathlib.Core.Path.{sym, ap, ◌∙◌}
use native.Mathlib.Omega.{arith}
use borrow.Author.Tests.{eq-eqb}
use mathlib.Core.List.{List}
use Prim.Native.Nat.{ℕ}
use lib.ListN.{length}
use Rattle.oraddr.specs.Add.{add_dd}
use Rattle.ortext_build.specs.Adding.{dd_at}
use Rattle.ortext_segments.specs.Scan.{kind_text, span_text}
use Rattle.ortext_build.proofs.Laws.Adding.{kind_long}
use Rattle.ortext_build.proofs.Laws.Spans.{fronted_length, kind_span}
use Rattle.ortext_build.proofs.build.add_dd.Goals as goal

pub returns-then-places-eq0 : goal.returns-then-places-eq0
unfolding kind_text
returns-then-places-eq0 c =
    let a = c.args in
    c.add_typed.ensures
    ∙ ap (λ (t : List ℕ). add_dd a.rec t (span_text a.s.now a.places.value)) c.key_name.ensures
    ∙ rw (eq-eqb a.places.kind.start 0 c.if-places-eq0.true)

pub returns-in-None : goal.returns-in-None
returns-in-None c =
    let t = c in let a = t.args in c.refused.ensures ∙ kind_long a.rec (dd_at a.s.now a.places).kind _ (omega (arith, ap length (kind_span a.s.now a.places.kind c.if-places-eq0.false), t.requires.kind.half, c.in-None.ensures))

pub slice_bounds-text-end : goal.slice_bounds-text-end
slice_bounds-text-end c = c.in-Some.ensures.fits

pub slice_bounds-add_typed-end : goal.slice_bounds-add_typed-end
slice_bounds-add_typed-end c = fronted_length c.in-Some.ensures

pub returns-in-Some : goal.returns-in-Some
returns-in-Some c =
    let a = c.args in c.add_typed-in-Some.ensures ∙ ap (λ t. add_dd a.rec t (span_text a.s.now a.places.value)) (c.in-Some.ensures.holds ∙ sym (kind_span a.s.now a.places.kind c.if-places-eq0.false))
