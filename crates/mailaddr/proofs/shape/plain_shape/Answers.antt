-- `mailaddr::shape::plain_shape` meets its contract: the local part goes up to the first `@`.
-- Assumes nothing.
use mathlib.Core.Path.{sym, ap, ◌∙◌}
use native.Mathlib.Omega.{arith}
use lib.Seq.{length-take-le}
use Rattle.chars.proofs.Laws.Parts.{run_le}
use Rattle.mailaddr.specs.Answers.{from_shape, shape_answer}
use Rattle.mailaddr.proofs.Laws.Shape.{plain_at}
use Rattle.mailaddr.proofs.shape.plain_shape.Goals as goal

pub slice_bounds-is_atoms-end : goal.slice_bounds-is_atoms-end
slice_bounds-is_atoms-end c =
    let s = c.args.s.now in
    sym (length-take-le c.part_end-at.result s (omega (arith, c.part_end-at.ensures, run_le 64 s)))

pub returns-then-not-is_atoms : goal.returns-then-not-is_atoms
unfolding shape_answer from_shape
returns-then-not-is_atoms c =
    let at = c in
    rw (plain_at at.args.s.now at.part_end-at.result at.part_end-at.ensures, sym c.is_atoms.ensures ∙ c.if-not-is_atoms.true)

pub returns : goal.returns
returns c =
    let at = c in
    c.with_local.ensures
    ∙ ap from_shape (sym (plain_at at.args.s.now at.part_end-at.result at.part_end-at.ensures ∙ rw (sym c.is_atoms.ensures ∙ c.if-not-is_atoms.false)))
