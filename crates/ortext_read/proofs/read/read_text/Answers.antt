-- `ortext_read::read::read_text` meets its contract. The loop's invariant: the segments so far and what is left are all, and the places held are
-- those of the segments so far.
-- Assumes nothing.
use mathlib.Core.Path.{ap, ◌∙◌}
use native.Mathlib.Omega.{arith}
use Rattle.ortext_segments.specs.Keys.{keys}
use Rattle.ortext_segments.specs.Scan.{Segmented, Segmenting}
use Rattle.ortext_read.specs.Answers.{reading_result}
use Rattle.ortext_read.proofs.Laws.Answers.{answer-unread}
use Rattle.ortext_read.proofs.Laws.Scanned.{scanned_bad, scanned_first, scanned_last, scanned_more, unread_other}
use Rattle.ortext_segments.proofs.Laws.Segments.{read_other, read_short}
use Rattle.ortext_read.proofs.read.read_text.Goals as goal
use Rattle.ortext_read.proofs.read.read_text.Goals.{then-s-lt2-via-then-s-lt2, then-s-lt2-via-else-s-lt2+then-s-ne47}

pub returns-then-s-lt2 : goal.returns-then-s-lt2
returns-then-s-lt2 c =
    let a = c.args in
    elim c.then-s-lt2.branch [
      | then-s-lt2-via-then-s-lt2 w ↦ answer-unread (unread_other a.s.now a.n a.rec (read_short keys a.s.now (omega arith)))
      | then-s-lt2-via-else-s-lt2+then-s-ne47 w ↦ answer-unread (unread_other a.s.now a.n a.rec (read_other keys a.s.now w.if-s-ne47.true))
    ]

pub loop-at-init : goal.loop-at-init
loop-at-init c = let a = c.args in rw c.nothing-named.ensures (scanned_first a.s.now a.n c.if-s-ne47.false (omega arith))

pub loop-at-smaller : goal.loop-at-smaller
unfolding Segmenting
loop-at-smaller c =
    let the_found : Segmented c.args.s.now c.loop-at.at c.in-Some.f = rw c.in-Some.is at c.read_segment.ensures in
    let g = the_found in omega (arith, g.moves, g.inside)

pub loop-at-preserved : goal.loop-at-preserved
unfolding Segmenting
loop-at-preserved c =
    let the_found : Segmented c.args.s.now c.loop-at.at c.in-Some.f = rw c.in-Some.is at c.read_segment.ensures in
    let a = c.args in let l = c.loop-at in rw c.with-named.ensures (scanned_more a.s.now a.n l.at l.named _ l.invariant (the_found))

pub returns-in_default : goal.returns-in_default
unfolding Segmenting
returns-in_default c =
    let a = c.args in let l = c.loop-at in
    answer-unread (scanned_bad a.s.now a.n l.at l.named a.rec l.invariant (rw c.in_default.is at c.read_segment.ensures))

pub applied-requires : goal.applied-requires
applied-requires c = c.loop-at.invariant.held.sound

pub returns : goal.returns
returns c =
    let a = c.args in let l = c.loop-at in c.applied.ensures ∙ ap reading_result (scanned_last a.s.now a.n l.at l.named a.rec l.invariant (omega arith))
