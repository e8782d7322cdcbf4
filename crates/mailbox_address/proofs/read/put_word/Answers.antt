-- `mailbox_address::read::put_word` meets its contract.
-- Assumes nothing.
use native.Mathlib.Omega.{arith}
use Rattle.chars.proofs.Laws.Write.{wrote_nothing}
use Rattle.mailbox_address.specs.Answers.{meaning_at, meaning_by}
use Rattle.mailbox_address.proofs.Laws.Lexeme.{meaning-length, no_meaning}
use Rattle.mailbox_address.proofs.read.put_word.Goals as goal

pub put_quoted-requires-clause-s_in_bounds : goal.put_quoted-requires-clause-s_in_bounds
unfolding meaning_at meaning_by
put_quoted-requires-clause-s_in_bounds c =
    let a = c.args in
    omega (arith, rw c.in-Quoted.is at (meaning-length a.s.now a.t c.requires.stands))

pub returns-in-Atom : goal.returns-in-Atom
unfolding meaning_at meaning_by
returns-in-Atom c = rw c.in-Atom.is c.put.ensures

pub returns-in-Quoted : goal.returns-in-Quoted
unfolding meaning_at meaning_by
returns-in-Quoted c = rw c.in-Quoted.is c.put_quoted.ensures

pub returns-in_default : goal.returns-in_default
returns-in_default c = rw (no_meaning c.args.s.now c.args.t c.in_default.not-Atom c.in_default.not-Quoted) wrote_nothing
