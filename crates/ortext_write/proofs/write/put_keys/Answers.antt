-- `ortext_write::write::put_keys` meets its contract. The loop's invariant: what is left to write.
-- Assumes nothing.
use mathlib.Core.Path.{refl}
use Prim.Native.Nat.{◌+◌}
use native.Mathlib.Omega.{arith}
use borrow.Author.Tests.{ltb-true}
use lib.Dec.{ltb}
use lib.ListN.{drop, get_or}
use Rattle.chars.specs.Lists.{all}
use Rattle.chars.proofs.Laws.Lists.{all-at}
use Rattle.oraddr.specs.View.{view}
use Rattle.ortext_segments.specs.Keys.{pn_key, keys}
use Rattle.ortext_write.specs.Write.{order, remaining}
use Rattle.ortext_write.proofs.Laws.Left.{flat, flat-end, flat_step, left_all, left_more, left_none, left_room}
use Rattle.ortext_write.proofs.Laws.Write.{key_text, joined_in}
use Rattle.ortext_write.proofs.write.put_keys.Goals as goal

pub loop-k-init : goal.loop-k-init
loop-k-init c = (refl, left_all (joined_in keys (remaining c.args.from (view c.args.rec)) order))

pub put_key-next-requires : goal.put_key-next-requires
unfolding all
put_key-next-requires c =
    let l = c.loop-k in
    let f = key_text (remaining c.args.from (view c.args.rec)) in record {
      key = ltb-true (get_or order l.k-index 0) pn_key (all-at (λ k. ltb k pn_key) order l.k-index 0 refl (omega arith));
      room = left_room (f (get_or order l.k-index 0)) (flat f (drop (l.k-index + 1) order)) l.invariant.1 (flat_step f order l.k-index 0 (omega arith)) c.requires;
    }

pub loop-k-preserved : goal.loop-k-preserved
loop-k-preserved c =
    let l = c.loop-k in
    let a = c.args in
    (l.invariant.0, left_more l.invariant.1 (flat_step (key_text (remaining a.from (view a.rec))) order l.k-index 0 (omega arith)) c.put_key-next.ensures)

pub returns : goal.returns
returns c =
    let a = c.args in
    left_none c.loop-k.invariant.1 (flat-end (key_text (remaining a.from (view a.rec))) order c.loop-k.k-index (omega arith))
