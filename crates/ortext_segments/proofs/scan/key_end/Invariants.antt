-- `ortext_segments::scan::key_end` meets its contract. The loop's invariant: a key from `i` on ends where the key from `from` on does.
-- Assumes nothing.
use mathlib.Core.Path.{◌≡◌}
use Prim.Native.Nat.{max, ◌+◌, ◌≤◌}
use lib.ListN.{drop, length}
use Rattle.ortext_segments.specs.Segments.{key_run}
use Rattle.ortext_segments.proofs.scan.key_end.Given as goal

abbrev pub invariant-loop-i : goal.invariant-loop-i
invariant-loop-i l = record {
  behind : l.from ≤ l.i;
  within : l.i ≤ max l.from (length l.s);
  same : l.from + key_run (drop l.from l.s) ≡ l.i + key_run (drop l.i l.s);
}
