-- `ortext_build::build::add_single` meets its contract.
-- Assumes nothing.
use mathlib.Core.Path.{ap, ◌∙◌}
use mathlib.Core.List.{[], ◌∷◌}
use native.Mathlib.Omega.{arith}
use Rattle.ortext_build.specs.Adding.{add_singles, start}
use Rattle.ortext_segments.specs.Scan.{span_text}
use Rattle.ortext_build.proofs.Laws.Adding.{single_long}
use Rattle.ortext_build.proofs.Laws.Spans.{fronted_length}
use Rattle.ortext_build.proofs.build.add_single.Goals as goal

pub slice_bounds-text-end : goal.slice_bounds-text-end
slice_bounds-text-end c = c.in-Some.ensures.fits

pub returns-in-None : goal.returns-in-None
returns-in-None c =
    let t = c in let a = t.args in c.refused.ensures ∙ single_long a.rec a.k (span_text a.s.now a.span) t.requires.key (omega (arith, t.requires.sound.half, c.in-None.ensures))

pub slice_bounds-add_value-end : goal.slice_bounds-add_value-end
slice_bounds-add_value-end c = fronted_length c.in-Some.ensures

pub returns-in-Some : goal.returns-in-Some
returns-in-Some c = let a = c.args in c.add_value.ensures ∙ ap (λ t. add_singles a.k (t ∷ []) (start a.rec)) c.in-Some.ensures.holds
