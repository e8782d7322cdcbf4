-- `cases::read::unhex` meets its contract. The loop's invariant: what is left to store, stored, gives all that is to be stored.
-- Assumes nothing.
use Prim.Native.Nat.{◌≤◌}
use mathlib.Core.Path.{◌≡◌}
use lib.ListN.{length, take, drop}
use lib.Seq.{sets}
use Rattle.cases.specs.Read.{hex_bytes}
use Rattle.cases.proofs.read.unhex.Given as goal

abbrev pub invariant-loop-n : goal.invariant-loop-n
invariant-loop-n l =
    (l.n ≤ length (take (length l.initial.dst) (hex_bytes l.s)))
    × (sets l.initial.dst 0 (take (length l.initial.dst) (hex_bytes l.s)) ≡ sets l.dst l.n (drop l.n (take (length l.initial.dst) (hex_bytes l.s))))
