-- `lexical::quoted::quoted_end` meets its contract. The loop's invariant: a string that is open at `i` ends where one open at `from` does.
-- Assumes nothing.
use mathlib.Core.Path.{◌≡◌}
use mathlib.Core.Bool.{false}
use Prim.Native.Nat.{◌-◌}
use lib.ListN.{length, drop}
use Rattle.lexical.specs.Quoted.{quoted}
use Rattle.lexical.specs.Answers.{quoted_end}
use Rattle.lexical.proofs.quoted.quoted_end.Given as goal

abbrev pub invariant-loop-i : goal.invariant-loop-i
invariant-loop-i l = quoted_end l.from (quoted 0 false (drop l.from l.s)) ≡ quoted_end l.i (quoted 0 l.escaped (drop l.i l.s))

abbrev pub decreases-loop-i : goal.decreases-loop-i
decreases-loop-i l = length l.s - l.i
