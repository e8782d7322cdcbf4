-- `mailaddr::shape::unquote_local` meets its contract: the local part as it is, or what stands between its quotes, unescaped.
-- Assumes nothing.
use mathlib.Core.Path.{sym}
use native.Mathlib.Omega.{arith}
use borrow.Author.Tests.{not-false, not-true}
use lib.Seq.{length-take-le}
use Rattle.chars.proofs.Laws.Write.{wrote_nothing}
use Rattle.mailaddr.proofs.Laws.Shape.{local-none, local-plain, local-quoted}
use Rattle.mailaddr.proofs.shape.unquote_local.Goals as goal

pub slice_bounds-put-end : goal.slice_bounds-put-end
slice_bounds-put-end c =
    let a = c.args in
    sym (length-take-le a.parted.at a.s.now (omega arith))

pub put-requires : goal.put-requires
put-requires c =
    let a = c.args in
    omega (arith, length-take-le a.parted.at a.s.now (omega arith))

pub returns-then-not-parted : goal.returns-then-not-parted
returns-then-not-parted c =
    let at = c in
    let a = at.args in
    rw (local-plain a.s.now a.parted (not-true a.parted.quoted at.if-not-parted.true)) c.put.ensures

pub returns-then-at-lt2 : goal.returns-then-at-lt2
returns-then-at-lt2 c =
    let a = c.args in
    rw (local-none a.s.now a.parted (not-false a.parted.quoted c.if-not-parted.false) (omega arith) (omega arith)) wrote_nothing

pub returns : goal.returns
returns c =
    let at = c in
    let a = at.args in
    rw (local-quoted a.s.now a.parted (not-false a.parted.quoted at.if-not-parted.false) (omega arith) (omega arith)) c.unescape.ensures
