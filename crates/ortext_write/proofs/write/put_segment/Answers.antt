-- `ortext_write::write::put_segment` meets its contract: four writes, one after the other.
-- Assumes nothing.
use mathlib.Core.Path.{ap}
use native.Mathlib.Omega.{arith}
use mathlib.Core.List.{[]}
use Prim.Native.Nat.{ℕ}
use lib.ListN.{length, get_or, length-set}
use Rattle.chars.proofs.Laws.Write.{wrote-length, wrote_one, wrote_then}
use Rattle.ortext_segments.specs.Keys.{keys}
use Rattle.ortext_write.specs.Write.{key_value}
use Rattle.ortext_write.proofs.Laws.Write.{length-key-value}
use Rattle.ortext_write.proofs.write.put_segment.Goals as goal

pub bounds-dst-at : goal.bounds-dst-at
bounds-dst-at c = omega (arith, length-key-value (get_or keys c.args.k []) c.args.value.now)

pub put-a-requires : goal.put-a-requires
put-a-requires c = rw length-set (omega (arith, ap length c.key_name.ensures, length-key-value (get_or keys c.args.k []) c.args.value.now))

pub bounds-dst-a : goal.bounds-dst-a
bounds-dst-a c =
    omega (arith, ap length c.key_name.ensures, length-key-value (get_or keys c.args.k []) c.args.value.now, wrote-length c.put-a.ensures, length-set {A = ℕ})

pub overflow_add-a : goal.overflow_add-a
overflow_add-a c =
    omega (arith, ap length c.key_name.ensures, length-key-value (get_or keys c.args.k []) c.args.value.now, wrote-length c.put-a.ensures, length-set {A = ℕ})

pub put_quoted-requires : goal.put_quoted-requires
put_quoted-requires c =
    rw length-set (omega (arith, ap length c.key_name.ensures, length-key-value (get_or keys c.args.k []) c.args.value.now, wrote-length c.put-a.ensures, length-set {A = ℕ}))

pub returns : goal.returns
unfolding key_value
returns c = rw (← c.key_name.ensures)
    (wrote_then (wrote_one 47) (wrote_then c.put-a.ensures (wrote_then (wrote_one 61) c.put_quoted.ensures)))
