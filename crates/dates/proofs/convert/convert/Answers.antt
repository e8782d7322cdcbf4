-- `dates::convert::convert` meets its contract.
-- Assumes nothing.
use mathlib.Core.Path.{sym, ap, ◌∙◌}
use native.Mathlib.Omega.{arith}
use Rattle.chars.proofs.Laws.Write.{wrote_taken}
use Rattle.dates.specs.Answers.{told}
use Rattle.dates.specs.Convert.{converted}
use Rattle.dates.proofs.Laws.Convert.{told_none, told_placed}
use Rattle.dates.proofs.convert.convert.Goals as goal

pub returns-in_err-d : goal.returns-in_err-d
returns-in_err-d g c =
    let old = c.args.out.now in
    let text = g.B.Form.text_of in
    told_none text old c.read.result c.from_residual.result c.in_err-d.field-0.0 c.in_err-d.ensures.value c.from_residual.ensures.1
    ∙ ap (λ o. converted text o old) c.read.ensures.value

pub returns : goal.returns
returns g c =
    let old = c.args.out.now in
    ap (λ r. told r c.place.new.out) c.ok_or-2.ensures.value
    ∙ told_placed g.B.Form.text_of old _ c.in_ok-d.d c.place.result _ c.place.new.out (sym c.read.ensures.value ∙ c.in_ok-d.ensures.ok_part)
    (wrote_taken c.write-n.ensures.written (omega (arith, c.write-n.ensures.fits))) c.place.ensures.size c.place.ensures.buffer
