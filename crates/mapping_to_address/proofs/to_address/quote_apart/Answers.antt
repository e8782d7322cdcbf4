-- `mapping_to_address::to_address::quote_apart` meets its contract: the copy is the local part.
-- Assumes nothing.
use mathlib.Core.Path.{sym}
use mathlib.Core.List.{List}
use Prim.Native.Nat.{ℕ, ◌≤◌}
use native.Mathlib.Omega.{arith}
use lib.ListN.{length}
use lib.Seq.{length-take-le}
use Rattle.chars.specs.Write.{Wrote}
use Rattle.chars.proofs.Laws.Write.{wrote-length, wrote_taken}
use Rattle.mapping_to_address.proofs.to_address.quote_apart.Goals as goal

-- what is written fits the copy's buffer
within : {o n t : List ℕ} {j : ℕ} → Wrote o 0 t j n → length t ≤ length o → j ≤ length n
within w h = omega (arith, w.moved, wrote-length w)

pub slice_bounds-put-end-3 : goal.slice_bounds-put-end-3
slice_bounds-put-end-3 c =
    sym (length-take-le c.args.n c.args.dst.now c.requires.n_le_local_room.1)

pub put-m-requires : goal.put-m-requires
put-m-requires c =
    let l = length-take-le c.args.n c.args.dst.now c.requires.n_le_local_room.1 in
    omega (arith, c.requires.n_le_local_room.0)

pub slice_bounds-local-end : goal.slice_bounds-local-end
slice_bounds-local-end c =
    let l = length-take-le c.args.n c.args.dst.now c.requires.n_le_local_room.1 in
    within c.put-m.ensures (omega (arith, c.requires.n_le_local_room.0))

pub slice_bounds-put_local-end : goal.slice_bounds-put_local-end
slice_bounds-put_local-end c =
    let l = length-take-le c.args.n c.args.dst.now c.requires.n_le_local_room.1 in
    sym (length-take-le c.put-m.result c.put-m.new.dst (within c.put-m.ensures (omega (arith, c.requires.n_le_local_room.0))))

pub put_local-requires : goal.put_local-requires
put_local-requires c =
    let l = length-take-le c.args.n c.args.dst.now c.requires.n_le_local_room.1 in
    let copied = wrote_taken c.put-m.ensures (omega (arith, c.requires.n_le_local_room.0)) in
    rw copied (omega (arith, c.requires.dst_in_bounds))

pub returns : goal.returns
returns c =
    let l = length-take-le c.args.n c.args.dst.now c.requires.n_le_local_room.1 in
    let copied = wrote_taken c.put-m.ensures (omega (arith, c.requires.n_le_local_room.0)) in
    rw copied at c.put_local.ensures
