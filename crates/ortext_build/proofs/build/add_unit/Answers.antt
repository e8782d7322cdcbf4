-- `ortext_build::build::add_unit` meets its contract.
-- Assumes nothing.
use mathlib.Core.Path.{ap, ◌∙◌}
use native.Mathlib.Omega.{arith}
use Rattle.oraddr.specs.Add.{add_unit}
use Rattle.ortext_segments.specs.Scan.{span_text}
use Rattle.ortext_build.proofs.Laws.Adding.{unit_long}
use Rattle.ortext_build.proofs.Laws.Spans.{fronted_length}
use Rattle.ortext_build.proofs.build.add_unit.Goals as goal

pub returns-in-None : goal.returns-in-None
returns-in-None c = let t = c in let a = t.args in c.refused.ensures ∙ unit_long a.rec (span_text a.s.now a.span) (omega (arith, t.requires.half, c.in-None.ensures))

pub slice_bounds-text-end : goal.slice_bounds-text-end
slice_bounds-text-end c = c.in-Some.ensures.fits

pub slice_bounds-with_unit-end : goal.slice_bounds-with_unit-end
slice_bounds-with_unit-end c = fronted_length c.in-Some.ensures

pub returns-in-Some : goal.returns-in-Some
returns-in-Some c = let a = c.args in c.with_unit.ensures ∙ ap (add_unit a.rec) c.in-Some.ensures.holds
