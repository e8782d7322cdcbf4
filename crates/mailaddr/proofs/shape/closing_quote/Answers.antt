-- `mailaddr::shape::closing_quote` meets its contract. The loop's invariant: a string that is open at `i` closes where one open at `from` does.
-- Assumes nothing.
use Rattle.std.proofs.Common.{◌∙◌, arith, sym}
use borrow.Author.Tests.{eq-eqb, ne_eqb}
use Rattle.mailaddr.proofs.Laws.Closing.{at_char, at_char_broken, at-end, at_quote}
use Rattle.mailaddr.proofs.shape.closing_quote.Goals as goal

pub returns-then-s-i-eq34 : goal.returns-then-s-i-eq34
returns-then-s-i-eq34 c = sym (c.loop-i.invariant ∙ at_quote c.args.s.now c.loop-i.i (omega arith) (eq-eqb _ _ c.if-s-i-eq34.true))

pub returns-then-not-is_quoted_byte : goal.returns-then-not-is_quoted_byte
returns-then-not-is_quoted_byte c =
    let taken = sym c.is_quoted_byte.ensures ∙ c.if-not-is_quoted_byte.true in
    sym
    (c.loop-i.invariant
    ∙ at_char_broken c.args.s.now c.loop-i.i (omega arith) (ne_eqb _ _ c.if-s-i-eq34.false) c.char_at-at.result c.char_at-at.ensures taken)

pub loop-i-preserved : goal.loop-i-preserved
loop-i-preserved c =
    let taken = sym c.is_quoted_byte.ensures ∙ c.if-not-is_quoted_byte.false in
    c.loop-i.invariant
    ∙ at_char c.args.s.now c.loop-i.i (omega arith) (ne_eqb _ _ c.if-s-i-eq34.false) c.char_at-at.result c.char_at-at.ensures taken

pub returns : goal.returns
returns c = sym (c.loop-i.invariant ∙ at-end c.args.s.now c.loop-i.i (omega arith))
