-- `ortext_write::write::put_long_dd` meets its contract: six writes, one after the other.
-- Assumes nothing.
use mathlib.Core.Path.{ap}
use native.Mathlib.Omega.{arith}
use Prim.Native.Nat.{ℕ}
use lib.ListN.{length, length-set}
use Rattle.chars.proofs.Laws.Write.{wrote-length, wrote_one, wrote_then}
use Rattle.ortext_write.specs.Write.{key_value, long_dd}
use Rattle.ortext_write.proofs.Laws.Write.{length-dd, length_long}
use Rattle.ortext_write.proofs.write.put_long_dd.Goals as goal

pub bounds-dst-at : goal.bounds-dst-at
bounds-dst-at c = omega (arith, length-dd, length_long c.args.kind.now c.args.value.now)

pub put-a-requires : goal.put-a-requires
put-a-requires c = rw length-set (omega (arith, ap length c.key_name.ensures, length-dd, length_long c.args.kind.now c.args.value.now))

pub bounds-dst-a : goal.bounds-dst-a
bounds-dst-a c =
    omega (arith, ap length c.key_name.ensures, length-dd, length_long c.args.kind.now c.args.value.now, wrote-length c.put-a.ensures, length-set {A = ℕ})

pub overflow_add-a : goal.overflow_add-a
overflow_add-a c =
    omega (arith, ap length c.key_name.ensures, length-dd, length_long c.args.kind.now c.args.value.now, wrote-length c.put-a.ensures, length-set {A = ℕ})

pub put_quoted-b-requires : goal.put_quoted-b-requires
put_quoted-b-requires c =
    rw length-set (omega (arith, ap length c.key_name.ensures, length-dd, length_long c.args.kind.now c.args.value.now, wrote-length c.put-a.ensures, length-set {A = ℕ}))

pub bounds-dst-b : goal.bounds-dst-b
bounds-dst-b c =
    let long = length_long c.args.kind.now c.args.value.now in
    omega (arith, ap length c.key_name.ensures, length-dd, long, wrote-length c.put-a.ensures, wrote-length c.put_quoted-b.ensures, length-set {A = ℕ})

pub overflow_add-b : goal.overflow_add-b
overflow_add-b c =
    let long = length_long c.args.kind.now c.args.value.now in
    omega (arith, ap length c.key_name.ensures, length-dd, long, wrote-length c.put-a.ensures, wrote-length c.put_quoted-b.ensures, length-set {A = ℕ})

pub put_quoted-requires : goal.put_quoted-requires
put_quoted-requires c =
    let long = length_long c.args.kind.now c.args.value.now in
    rw length-set (omega (arith, ap length c.key_name.ensures, length-dd, long, wrote-length c.put-a.ensures, wrote-length c.put_quoted-b.ensures, length-set {A = ℕ}))

pub returns : goal.returns
unfolding key_value long_dd
returns c =
    rw (← c.key_name.ensures)
    (wrote_then (wrote_one 47)
    (wrote_then (wrote_then c.put-a.ensures (wrote_then (wrote_one 46) c.put_quoted-b.ensures))
    (wrote_then (wrote_one 61) c.put_quoted.ensures)))
