-- `mapping_to_record::to_record::read_under` meets its contract: a local part without quotes is what stands before the `@`.
-- Assumes nothing.
use mathlib.Core.Path.{sym, ap, ◌∙◌}
use mathlib.Core.List.{List}
use Prim.Native.Nat.{ℕ}
use lib.Seq.{length-take-le}
use Rattle.ortext_read.specs.Answers.{reading_result}
use Rattle.mapping.specs.Answers.{read_settled}
use Rattle.mailaddr.proofs.Laws.Shape.{local-plain}
use Rattle.mapping_to_record.proofs.to_record.read_under.Goals as goal

pub slice_bounds-read_over-end : goal.slice_bounds-read_over-end
slice_bounds-read_over-end c =
    sym (length-take-le c.args.parted.at c.args.s.now c.requires.at_in_bounds)

pub returns-else-parted : goal.returns-else-parted
returns-else-parted c =
    let a = c.args in
    c.read_over.ensures
    ∙ ap (λ (s : List ℕ). reading_result (read_settled a.settled.now.levels a.settled.now.«record» s)) (sym (local-plain a.s.now a.parted c.if-parted.false))
