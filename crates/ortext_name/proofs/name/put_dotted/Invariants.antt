-- `ortext_name::name::put_dotted` meets its contract. The loop's invariant: what is left to store, stored, gives the whole text stored.
-- Assumes nothing.
use mathlib.Core.Path.{◌≡◌}
use Prim.Native.Nat.{◌+◌, ◌*◌}
use lib.ListN.{length, drop}
use lib.Seq.{sets}
use Rattle.ortext_name.specs.Name.{dotted}
use Rattle.ortext_name.proofs.name.put_dotted.Given as goal

abbrev pub invariant-loop-i : goal.invariant-loop-i
invariant-loop-i l =
    (length l.dst ≡ length l.initial.dst) × (sets l.initial.dst l.at (dotted l.initials) ≡ sets l.dst (l.at + 2 * l.i) (dotted (drop l.i l.initials)))
