-- `mapping_to_record::to_record::read_unquoted` meets its contract: the unquoted local part stands at the front of the buffer.
-- Assumes nothing.
use mathlib.Core.Path.{ap, ◌∙◌}
use mathlib.Core.List.{List}
use Prim.Native.Nat.{ℕ}
use native.Mathlib.Omega.{arith}
use lib.ListN.{length-take}
use Rattle.ortext_read.specs.Answers.{reading_result}
use Rattle.mapping.specs.Answers.{read_settled}
use Rattle.chars.proofs.Laws.Write.{wrote_taken}
use Rattle.mailaddr.proofs.Laws.Shaped.{local-length}
use Rattle.mapping_to_record.proofs.to_record.read_unquoted.Goals as goal

pub slice_bounds-local-end : goal.slice_bounds-local-end
slice_bounds-local-end c =
    omega (arith, c.unquote_local-m.ensures.moved, local-length c.args.s.now c.args.parted)

pub slice_bounds-read_over-end : goal.slice_bounds-read_over-end
slice_bounds-read_over-end c =
    let u = c.unquote_local-m in
    omega (arith, u.ensures.moved, local-length c.args.s.now c.args.parted, length-take u.result u.new.dst)

pub returns : goal.returns
returns c =
    let a = c.args in
    c.read_over.ensures
    ∙ ap (λ (s : List ℕ). reading_result (read_settled a.settled.now.levels a.settled.now.«record» s))
    (wrote_taken c.unquote_local-m.ensures (omega (arith, local-length a.s.now a.parted)))
