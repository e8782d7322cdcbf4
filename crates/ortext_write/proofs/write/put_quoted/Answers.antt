-- `ortext_write::write::put_quoted` meets its contract. The loop's invariant: what is left to write.
-- Assumes nothing.
use Prim.Native.Nat.{◌+◌}
use native.Mathlib.Omega.{arith}
use lib.ListN.{drop, get_or}
use Rattle.ortext_write.proofs.Laws.Left.{flat, flat-end, flat_step, left_all, left_more, left_none, left_room}
use Rattle.ortext_write.proofs.Laws.Write.{quoted_char, quoted-flat}
use Rattle.ortext_write.proofs.write.put_quoted.Goals as goal

pub loop-b-init : goal.loop-b-init
loop-b-init c = left_all (quoted-flat c.args.text.now)

pub put_char-next-requires : goal.put_char-next-requires
put_char-next-requires c =
    let l = c.loop-b in
    let t = c.args.text.now in
    left_room (quoted_char (get_or t l.b-index 0)) (flat quoted_char (drop (l.b-index + 1) t)) l.invariant (flat_step quoted_char t l.b-index 0 (omega arith)) c.requires

pub loop-b-preserved : goal.loop-b-preserved
loop-b-preserved c =
    let l = c.loop-b in
    let t = c.args.text.now in
    left_more l.invariant (flat_step quoted_char t l.b-index 0 (omega arith)) c.put_char-next.ensures

pub returns : goal.returns
returns c = left_none c.loop-b.invariant (flat-end quoted_char c.args.text.now c.loop-b.b-index (omega arith))
