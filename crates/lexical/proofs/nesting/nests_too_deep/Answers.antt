-- `lexical::nesting::nests_too_deep` meets its contract. The loop's invariant: comments nest too deep in the whole text where they do from there on,
-- and not too many are open there.
-- Assumes nothing.
use Rattle.std.proofs.Common.{◌∙◌, arith, refl, sym}
use Rattle.lexical.specs.Nesting.{nests_too_deep}
use Rattle.lexical.proofs.Laws.Nesting.{nest-end, nest_over, nest_turn}
use Rattle.lexical.proofs.nesting.nests_too_deep.Goals as goal

pub loop-b-init : goal.loop-b-init
unfolding nests_too_deep
loop-b-init c = rw c.new-n.ensures (refl, omega arith)

pub returns-then-n-gt-DEEPEST_COMMENT : goal.returns-then-n-gt-DEEPEST_COMMENT
returns-then-n-gt-DEEPEST_COMMENT c =
    let l = c.loop-b in
    let n = c.nest_behind-n in
    sym (l.invariant.0 ∙ nest_over c.args.s.now l.b-index l.n l.invariant.1 (omega arith) n.result n.ensures (omega arith))

pub loop-b-preserved : goal.loop-b-preserved
loop-b-preserved c =
    let l = c.loop-b in
    let n = c.nest_behind-n in
    (l.invariant.0 ∙ nest_turn c.args.s.now l.b-index l.n l.invariant.1 (omega arith) n.result n.ensures, omega arith)

pub returns : goal.returns
returns c =
    let l = c.loop-b in
    sym (l.invariant.0 ∙ nest-end c.args.s.now l.b-index l.n l.invariant.1 (omega arith))
