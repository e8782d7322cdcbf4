-- `mailaddr::shape::put_escaped` meets its contract. The loop's invariant: what is left to write, written, gives the whole text written.
-- Assumes nothing.
use mathlib.Core.Path.{◌≡◌}
use Prim.Native.Nat.{◌+◌}
use lib.ListN.{length, drop}
use lib.Seq.{sets}
use Rattle.mailaddr.specs.Shape.{escaped}
use Rattle.mailaddr.proofs.shape.put_escaped.Given as goal

abbrev pub invariant-loop-b : goal.invariant-loop-b
invariant-loop-b l =
    (length l.dst ≡ length l.initial.dst)
    × (l.at + length (escaped l.s) ≡ l.next + length (escaped (drop l.b-index l.s)))
    × (sets l.initial.dst l.at (escaped l.s) ≡ sets l.dst l.next (escaped (drop l.b-index l.s)))
