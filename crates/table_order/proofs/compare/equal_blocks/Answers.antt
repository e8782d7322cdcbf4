-- `table_order::compare::equal_blocks` meets its contract. The loop's invariant: the two are equal up to the place i.
-- Assumes nothing.
use native.Mathlib.Omega.{arith}
use Rattle.table_order.proofs.Laws.Compare.{block_more, blocks}
use Rattle.table_order.proofs.compare.equal_blocks.Goals as goal

pub loop-i-init : goal.loop-i-init
loop-i-init c = record { onward = omega arith; within = c.requires.0; equal = λ j m h. absurd (omega arith) }

pub overflow_sub-end : goal.overflow_sub-end
overflow_sub-end c = c.loop-i.invariant.within

pub overflow_add-next : goal.overflow_add-next
overflow_add-next c = omega (arith, c.loop-i.invariant.within)

pub slice_bounds-equal_block-start : goal.slice_bounds-equal_block-start
slice_bounds-equal_block-start c = omega (arith, c.loop-i.invariant.within)

pub slice_bounds-equal_block-end : goal.slice_bounds-equal_block-end
slice_bounds-equal_block-end c = omega (arith, c.loop-i.invariant.within)

pub slice_bounds-equal_block-start-in-loop-i : goal.slice_bounds-equal_block-start-in-loop-i
slice_bounds-equal_block-start-in-loop-i c = omega (arith, c.loop-i.invariant.within)

pub slice_bounds-equal_block-end-in-loop-i : goal.slice_bounds-equal_block-end-in-loop-i
slice_bounds-equal_block-end-in-loop-i c = omega (arith, c.loop-i.invariant.within)

pub equal_block-requires : goal.equal_block-requires
equal_block-requires c =
    let a = c.args in
    let l = c.loop-i in
    blocks a.a.now a.b.now l.i a.end (omega (arith, l.invariant.within)) c.requires.1 c.requires.2

pub returns-then-not-equal_block : goal.returns-then-not-equal_block
returns-then-not-equal_block c = c.loop-i.invariant

pub loop-i-smaller : goal.loop-i-smaller
loop-i-smaller c = omega (arith, c.loop-i.invariant.within)

pub loop-i-preserved : goal.loop-i-preserved
loop-i-preserved c =
    let a = c.args in
    let l = c.loop-i in
    block_more a.a.now a.b.now l.i a.end (omega (arith, l.invariant.within)) c.requires.1 c.requires.2
    a.from l.invariant
    (c.equal_block.ensures c.if-not-equal_block.false)

pub returns : goal.returns
returns c = c.loop-i.invariant
