-- `mailbox::write::local_size` meets its contract: the escaped text and two quotes, or the text as it is.
-- Assumes nothing.
use mathlib.Core.Path.{sym, ap}
use native.Mathlib.Omega.{arith}
use lib.ListN.{length}
use Rattle.mailaddr.proofs.Laws.Closing.{length-escaped}
use Rattle.mailbox.proofs.Laws.Written.{length-quoted, local-plain}
use Rattle.mailbox.proofs.write.local_size.Goals as goal

pub overflow_add-result : goal.overflow_add-result
overflow_add-result c =
    let a = c in
    omega (arith, c.escaped_size.ensures, length-escaped a.args.s.now, a.requires)

pub returns-then-quoted : goal.returns-then-quoted
returns-then-quoted c =
    let a = c.args in
    omega (arith, c.escaped_size.ensures, length-quoted a.quoted a.s.now c.if-quoted.true)

pub returns : goal.returns
returns c =
    let a = c.args in
    sym (ap length (local-plain a.quoted a.s.now c.if-quoted.false))
