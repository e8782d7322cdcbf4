-- `mailbox::write::put_bare` meets its contract: the local part, the `@` and the domain, one after the other.
-- Assumes nothing.
use native.Mathlib.Omega.{arith}
use lib.ListN.{length-set}
use Rattle.chars.proofs.Laws.Write.{wrote-length, wrote_one, wrote_then}
use Rattle.mailbox.specs.Mailbox.{local_text}
use Rattle.mailbox.proofs.Laws.Written.{length-bare}
use Rattle.mailbox.proofs.write.put_bare.Goals as goal

pub put_local-end-requires : goal.put_local-end-requires
put_local-end-requires c =
    let a = c.args in
    omega (arith, length-bare (local_text a.quoted a.local.now) a.domain.now, c.requires)

pub bounds-out-end : goal.bounds-out-end
bounds-out-end c =
    let a = c.args in
    let w = c.put_local-end.ensures in
    omega (arith, length-bare (local_text a.quoted a.local.now) a.domain.now, c.requires, w.moved, wrote-length w)

pub overflow_add-end : goal.overflow_add-end
overflow_add-end c =
    let a = c.args in
    let w = c.put_local-end.ensures in
    omega (arith, length-bare (local_text a.quoted a.local.now) a.domain.now, c.requires, w.moved, wrote-length w)

pub put-requires : goal.put-requires
put-requires c =
    let a = c.args in
    let w = c.put_local-end.ensures in
    simp length-set (omega (arith, length-bare (local_text a.quoted a.local.now) a.domain.now, c.requires, w.moved, wrote-length w))

pub returns : goal.returns
returns c =
    let p = c.put_local-end in
    wrote_then p.ensures (wrote_then (wrote_one 64) c.put.ensures)
