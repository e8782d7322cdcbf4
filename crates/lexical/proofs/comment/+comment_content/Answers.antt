-- The proof of the cycle of calls {comment, content}. `comment` calls `content` with a level less, and `content` `comment` with the levels that it
-- has, so `content`'s measure lies between: twice the levels for `comment`, and one more for `content`. The invariant of `content`'s loop: the content
-- from `from` on ends where the content from `i` on does.
-- Assumes nothing.
use mathlib.Core.Path.{sym, ◌∙◌}
use native.Mathlib.Omega.{arith}
use Rattle.mailaddr.specs.Shape.{more}
use Rattle.lexical.specs.Comment.{comment as comment_of}
use Rattle.lexical.proofs.Laws.Comment.{at_break, at_close, at-end, at-fold, at_open, at_open_never, at_pair, at-text, comment-inside, comment_other}
use Rattle.lexical.proofs.comment.+comment_content.Goals as goal

pub comment-returns-then-levels-eq0 : goal.comment-returns-then-levels-eq0
unfolding more comment_of
comment-returns-then-levels-eq0 t c = rw c.if-levels-eq0.true

pub comment-returns-then-s-i-ne40 : goal.comment-returns-then-s-i-ne40
comment-returns-then-s-i-ne40 t c =
    let a = c.args in
    sym (comment_other a.s.now a.i (omega arith) a.levels c.if-s-i-ne40.true)

pub comment-returns : goal.comment-returns
comment-returns t c =
    let a = c.args in
    c.content.ensures ∙ sym (comment-inside a.s.now a.i (omega arith) a.levels (omega arith) c.if-s-i-ne40.false)

pub content-returns-in-Close : goal.content-returns-in-Close
content-returns-in-Close t c =
    let l = c.loop-i in
    sym (l.invariant ∙ at_close c.args.s.now l.i c.args.levels (omega arith) (sym c.in-Close.ensures))

pub content-returns-in_err-i-in-Open : goal.content-returns-in_err-i-in-Open
content-returns-in_err-i-in-Open t c =
    let l = c.loop-i in
    c.from_residual.ensures
    ∙ sym (l.invariant ∙ at_open_never c.args.s.now l.i c.args.levels (omega arith) (sym c.in-Open.ensures) c.in_err-i-in-Open.ensures)

pub content-loop-i-smaller-in-Open : goal.content-loop-i-smaller-in-Open
content-loop-i-smaller-in-Open t c =
    let l = c.loop-i in
    omega (arith, (at_open c.args.s.now l.i c.args.levels (omega arith) (sym c.in-Open.ensures) c.in_ok-i-in-Open.i c.in_ok-i-in-Open.ensures).0)

pub content-loop-i-preserved-in-Open : goal.content-loop-i-preserved-in-Open
content-loop-i-preserved-in-Open t c =
    let l = c.loop-i in
    l.invariant ∙ (at_open c.args.s.now l.i c.args.levels (omega arith) (sym c.in-Open.ensures) c.in_ok-i-in-Open.i c.in_ok-i-in-Open.ensures).1

pub content-loop-i-preserved-in-Pair : goal.content-loop-i-preserved-in-Pair
content-loop-i-preserved-in-Pair t c =
    let l = c.loop-i in
    l.invariant ∙ at_pair c.args.s.now l.i c.args.levels (omega arith) (sym c.in-Pair.ensures)

pub content-loop-i-preserved-in-Fold : goal.content-loop-i-preserved-in-Fold
content-loop-i-preserved-in-Fold t c =
    let l = c.loop-i in
    l.invariant ∙ at-fold c.args.s.now l.i c.args.levels (omega arith) (sym c.in-Fold.ensures)

pub content-loop-i-preserved : goal.content-loop-i-preserved
content-loop-i-preserved t c =
    let l = c.loop-i in
    l.invariant ∙ at-text c.args.s.now l.i c.args.levels (omega arith) (sym c.in-Text.ensures)

pub content-returns-in-Break : goal.content-returns-in-Break
content-returns-in-Break t c =
    let l = c.loop-i in
    sym (l.invariant ∙ at_break c.args.s.now l.i c.args.levels (omega arith) (sym c.in-Break.ensures))

pub content-returns : goal.content-returns
content-returns t c = sym (c.loop-i.invariant ∙ at-end c.args.s.now c.loop-i.i c.args.levels (omega arith))
