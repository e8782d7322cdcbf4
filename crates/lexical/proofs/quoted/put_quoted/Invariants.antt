-- `lexical::quoted::put_quoted` meets its contract. The loop's invariant: what is left to write, written, gives the whole text written, and the
-- string still closes.
-- Assumes nothing.
use mathlib.Core.Path.{◌≡◌}
use mathlib.Core.Bool.{false}
use Prim.Native.Nat.{◌+◌, ◌-◌, ◌<◌}
use lib.ListN.{length, drop}
use lib.Seq.{sets}
use Rattle.lexical.specs.Quoted.{meaning_in, quoted, size_in}
use Rattle.lexical.proofs.quoted.put_quoted.Given as goal

abbrev pub invariant-loop-i : goal.invariant-loop-i
invariant-loop-i l =
    (0 < size_in (quoted 0 l.escaped (drop l.i l.s)))
    × (length l.dst ≡ length l.initial.dst)
    × (l.at + length (meaning_in (quoted 0 false (drop l.from l.s))) ≡ l.next + length (meaning_in (quoted 0 l.escaped (drop l.i l.s))))
    × (sets l.initial.dst l.at (meaning_in (quoted 0 false (drop l.from l.s))) ≡ sets l.dst l.next (meaning_in (quoted 0 l.escaped (drop l.i l.s))))

abbrev pub decreases-loop-i : goal.decreases-loop-i
decreases-loop-i l = length l.s - l.i
