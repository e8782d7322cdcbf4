-- `text_cases::print::print_places` is safe: the pieces of a name stand in its text.
-- Assumes nothing.
use mathlib.Core.Path.{sym}
use lib.Seq.{length-take-le}
use Rattle.text_cases.proofs.print.print_places.Goals as goal

pub slice_bounds-say-end : goal.slice_bounds-say-end
slice_bounds-say-end c =
    let a = c.args in
    sym (length-take-le a.p.given a.s.now c.requires.given)
