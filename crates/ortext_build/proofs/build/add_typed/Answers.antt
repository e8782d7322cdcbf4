-- `ortext_build::build::add_typed` meets its contract.
-- Assumes nothing.
use mathlib.Core.Path.{ap, ◌∙◌}
use native.Mathlib.Omega.{arith}
use Rattle.oraddr.specs.Add.{add_dd}
use Rattle.ortext_segments.specs.Scan.{span_text}
use Rattle.ortext_build.proofs.Laws.Adding.{dd_long}
use Rattle.ortext_build.proofs.Laws.Spans.{fronted_length}
use Rattle.ortext_build.proofs.build.add_typed.Goals as goal

pub returns-in-None : goal.returns-in-None
returns-in-None c =
    let t = c in let a = t.args in c.refused.ensures ∙ dd_long a.rec a.kind.now (span_text a.s.now a.value) (omega (arith, t.requires.half, c.in-None.ensures))

pub slice_bounds-text-end : goal.slice_bounds-text-end
slice_bounds-text-end c = c.in-Some.ensures.fits

pub slice_bounds-with_dd-end : goal.slice_bounds-with_dd-end
slice_bounds-with_dd-end c = fronted_length c.in-Some.ensures

pub returns-in-Some : goal.returns-in-Some
returns-in-Some c = let a = c.args in c.with_dd.ensures ∙ ap (add_dd a.rec a.kind.now) c.in-Some.ensures.holds
