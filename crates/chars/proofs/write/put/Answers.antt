-- `chars::write::put` meets its contract.
-- Assumes nothing.
use Prim.Native.Nat.{◌+◌, ◌-◌}
use native.Mathlib.Omega.{arith}
use lib.ListN.{length}
use Rattle.chars.proofs.Laws.Write.{wrote-part}
use Rattle.chars.proofs.write.put.Goals as goal

pub returns : goal.returns
returns c =
    let a = c.args in
    wrote-part a.dst.now a.at (a.at + length a.text.now - a.at) a.text.now _ c.copy_from_slice.ensures.after (omega arith) c.requires
