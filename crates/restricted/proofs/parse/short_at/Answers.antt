-- `restricted::parse::short_at` meets its contract.
-- Assumes nothing.
use mathlib.Core.Path.{sym, ap, ◌∙◌}
use Prim.Native.Nat.{◌+◌}
use borrow.Author.Tests.{eq-eqb, ne_eqb}
use lib.ListN.{get_or}
use Rattle.restricted.specs.Code.{char_of}
use Rattle.restricted.proofs.Laws.Parse.{short-there}
use Rattle.restricted.proofs.parse.short_at.Goals as goal

pub returns-then-byte_at-ne35-clause-value : goal.returns-then-byte_at-ne35-clause-value
returns-then-byte_at-ne35-clause-value c =
    let a = c.args in
    let s = a.s.now in
    rw (short-there s a.at, ne_eqb (get_or s (a.at + 1) 0) 35 (λ q. c.if-byte_at-ne35.true (c.byte_at.ensures ∙ q)))

pub returns-clause-value : goal.returns-clause-value
returns-clause-value c =
    let a = c.args in
    let s = a.s.now in
    rw (short-there s a.at, eq-eqb (get_or s (a.at + 1) 0) 35 (sym c.byte_at.ensures ∙ c.if-byte_at-ne35.false))
    (c.char_of.ensures.value ∙ ap char_of c.byte_at-2.ensures)
