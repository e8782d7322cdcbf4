-- `mailaddr::code::decode` meets its contract. The loop's invariant: what is written is what the text decodes to up to place i, and
-- is no longer than that.
-- Assumes nothing.
use mathlib.Core.Path.{refl, ◌∙◌}
use native.Mathlib.Omega.{arith}
use lib.ListN.{length-set}
use Rattle.mailaddr.specs.Answers.{Decoding}
use Rattle.mailaddr.proofs.Laws.Code.{decoding-end, decoding-none, decoding-start, decoding_step}
use Rattle.mailaddr.proofs.code.decode.Goals as goal

pub loop-i-init : goal.loop-i-init
loop-i-init c =
    let a = c.args in
    (omega arith, omega arith, refl, decoding-start a.s.now a.dst.now)

pub overflow_add-i : goal.overflow_add-i
overflow_add-i c = omega (arith, c.in_ok-group.ensures.spans)

pub loop-i-smaller : goal.loop-i-smaller
loop-i-smaller c = omega (arith, c.in_ok-group.ensures.spans)

pub loop-i-preserved : goal.loop-i-preserved
loop-i-preserved c =
    let l = c.loop-i in
    (omega (arith, c.in_ok-group.ensures.spans), omega arith, length-set l.dst l.n _ ∙ l.invariant.2, decoding_step l.invariant.3 c.in_ok-group.ensures)

pub shape_of-dst : goal.shape_of-dst
shape_of-dst c = c.loop-i.invariant.2

pub returns : goal.returns
unfolding Decoding
returns c = decoding-end c.loop-i.invariant.3 (omega arith) (omega arith)

pub returns-in_err-group : goal.returns-in_err-group
unfolding Decoding
returns-in_err-group c = rw c.from_residual.ensures (decoding-none c.loop-i.invariant.3 c.in_err-group.ensures)
