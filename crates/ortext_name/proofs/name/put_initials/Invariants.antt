-- `ortext_name::name::put_initials` meets its contract. The loop's invariant: the letters left, stored, give all of them stored.
-- Assumes nothing.
use mathlib.Core.Path.{◌≡◌}
use Prim.Native.Nat.{◌+◌, ◌-◌, ◌*◌}
use lib.ListN.{length, drop}
use lib.Seq.{sets}
use Rattle.ortext_name.specs.Places.{letters_at}
use Rattle.ortext_name.proofs.name.put_initials.Given as goal

abbrev pub invariant-loop-i : goal.invariant-loop-i
invariant-loop-i l =
    (length l.dst ≡ length l.initial.dst) × (sets l.initial.dst 0 (letters_at l.n (drop l.from l.s)) ≡ sets l.dst l.i (letters_at (l.n - l.i) (drop (l.from + 2 * l.i) l.s)))
