-- `restricted::parse::put_parsed` meets its contract. The loop's invariant: what is written is what the text up to place i stands for.
-- Assumes nothing.
use mathlib.Core.Path.{◌≡◌}
use Prim.Native.Nat.{◌-◌}
use lib.ListN.{length}
use Rattle.restricted.proofs.Laws.Parse.{ParsedInto}
use Rattle.restricted.proofs.parse.put_parsed.Given as goal

abbrev pub invariant-loop-i : goal.invariant-loop-i
invariant-loop-i l = (length l.dst ≡ length l.initial.dst) × (ParsedInto l.s l.initial.dst l.i l.n l.dst)

abbrev pub decreases-loop-i : goal.decreases-loop-i
decreases-loop-i l = length l.s - l.i
