-- `mailaddr::shape::unescape` meets its contract. The loop's invariant: what is left to write, written, gives the whole text written.
-- Assumes nothing.
use mathlib.Core.Path.{◌≡◌}
use Prim.Native.Nat.{◌+◌, ◌-◌, ◌≤◌}
use lib.ListN.{length, drop}
use lib.Seq.{sets}
use Rattle.mailaddr.specs.Shape.{unescaped}
use Rattle.mailaddr.proofs.shape.unescape.Given as goal

abbrev pub invariant-loop-i : goal.invariant-loop-i
invariant-loop-i l =
    (l.n ≤ l.i)
    × (length l.dst ≡ length l.initial.dst)
    × (length (unescaped l.s) ≡ l.n + length (unescaped (drop l.i l.s)))
    × (sets l.initial.dst 0 (unescaped l.s) ≡ sets l.dst l.n (unescaped (drop l.i l.s)))

abbrev pub decreases-loop-i : goal.decreases-loop-i
decreases-loop-i l = length l.s - l.i
