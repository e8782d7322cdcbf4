-- `mailbox::write::put_local` meets its contract: the text as it is, or escaped and between quotes.
-- Assumes nothing.
use mathlib.Core.Path.{refl, ap}
use mathlib.Core.List.{[], ◌∷◌}
use native.Mathlib.Omega.{arith}
use lib.ListN.{length, set, length-set}
use Rattle.chars.specs.Write.{Wrote}
use Rattle.chars.proofs.Laws.Write.{wrote-length, wrote_one, wrote_then}
use Rattle.mailbox.proofs.Laws.Written.{length-quoted, local-plain, local-quoted}
use Rattle.mailbox.proofs.write.put_local.Goals as goal

pub put-requires : goal.put-requires
put-requires c =
    let a = c.args in
    omega (arith, ap length (local-plain a.quoted a.s.now c.if-not-quoted.true), c.requires)

pub returns-then-not-quoted : goal.returns-then-not-quoted
returns-then-not-quoted c =
    let a = c.args in
    rw (local-plain a.quoted a.s.now c.if-not-quoted.true) c.put.ensures

pub bounds-out-0 : goal.bounds-out-0
bounds-out-0 c =
    let a = c.args in
    omega (arith, length-quoted a.quoted a.s.now c.if-not-quoted.false, c.requires)

pub put_escaped-end-requires : goal.put_escaped-end-requires
put_escaped-end-requires c =
    let a = c.args in
    simp length-set (omega (arith, length-quoted a.quoted a.s.now c.if-not-quoted.false, c.requires))

pub bounds-out-end : goal.bounds-out-end
bounds-out-end c =
    let a = c.args in
    let w = c.put_escaped-end.ensures in
    omega (arith, length-quoted a.quoted a.s.now c.if-not-quoted.false, c.requires, w.moved, wrote-length w, length-set a.out.now 0 34)

pub overflow_add-result : goal.overflow_add-result
overflow_add-result c =
    let a = c.args in
    let w = c.put_escaped-end.ensures in
    omega (arith, length-quoted a.quoted a.s.now c.if-not-quoted.false, c.requires, w.moved, wrote-length w, length-set a.out.now 0 34)

pub returns : goal.returns
returns c =
    let a = c.args in
    let quote : Wrote a.out.now 0 (34 ∷ []) 1 (set a.out.now 0 34) = record { moved = refl; holds = refl } in
    rw (local-quoted a.quoted a.s.now c.if-not-quoted.false) (wrote_then (wrote_then quote c.put_escaped-end.ensures) (wrote_one 34))
