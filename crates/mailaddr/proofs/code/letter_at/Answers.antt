-- `mailaddr::code::letter_at` meets its contract: its tests are those of `letter_group`.
-- Assumes nothing.
use mathlib.Core.Path.{sym, ap, ◌∙◌}
use Prim.Native.Nat.{◌+◌}
use borrow.Author.Tests.{eq-eqb, ne_eqb}
use lib.ListN.{get_or}
use Rattle.mailaddr.specs.Answers.{unless_zero}
use Rattle.mailaddr.specs.Code.{char_of}
use Rattle.mailaddr.proofs.Laws.Code.{letter_there}
use Rattle.mailaddr.proofs.code.letter_at.Goals as goal

pub returns-then-byte_at-ne41 : goal.returns-then-byte_at-ne41
returns-then-byte_at-ne41 c =
    let a = c.args in
    let s = a.s.now in
    rw (letter_there s a.at, ne_eqb (get_or s (a.at + 1) 0) 41 (λ q. c.if-byte_at-ne41.true (c.byte_at.ensures ∙ q)))

pub returns : goal.returns
returns c =
    let a = c.args in
    let s = a.s.now in
    rw (letter_there s a.at, eq-eqb (get_or s (a.at + 1) 0) 41 (sym c.byte_at.ensures ∙ c.if-byte_at-ne41.false))
    (c.char_of.ensures ∙ ap (λ b. unless_zero (char_of b)) c.byte_at-2.ensures)
