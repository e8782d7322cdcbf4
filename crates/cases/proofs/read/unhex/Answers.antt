-- `cases::read::unhex` meets its contract. The loop's invariant: what is left to store, stored, gives all that is to be stored.
-- Assumes nothing.
use Prim.Native.Nat.{◌+◌, ◌*◌, ◌/◌, ◌<◌, ◌≤◌}
use mathlib.Core.Path.{◌≡◌, refl, ◌∙◌}
use native.Mathlib.Omega.{arith}
use lib.ListN.{length, take}
use Rattle.cases.specs.Read.{hex_bytes}
use Rattle.cases.proofs.Laws.{no_more, no_room, room-more, room_step, unhexed}
use Rattle.cases.proofs.read.unhex.Goals as goal

pub loop-n-init : goal.loop-n-init
loop-n-init c = (omega arith, refl)

pub loop-n-preserved : goal.loop-n-preserved
loop-n-preserved c =
    let l = c.loop-n in
    let a = c.args in
    let room = length a.dst.now in
    let m : l.n < room = omega arith in
    let k : 2 * l.n + 1 < length a.s.now = omega arith in
    (omega (arith, room-more room a.s.now l.n m k), l.invariant.1 ∙ room_step room a.s.now l.dst l.n m k ∙ rw c.spelt.ensures)

pub returns : goal.returns
returns c =
    let l = c.loop-n in
    let s = c.args.s.now in
    let room = length c.args.dst.now in
    let past : length (take room (hex_bytes s)) ≤ length s / 2 = no_more room s (length s / 2) (omega arith) in
    let full : length (take room (hex_bytes s)) ≤ room = no_room room s room (omega arith) in
    let e : c.min-size.result ≡ l.n = omega arith in
    rw e (unhexed c.args.dst.now s l.dst l.n l.invariant.0 (omega arith) l.invariant.1)
