-- `ortext_write::write::put_units` meets its contract. The loop's invariant: what is left to write, from the end down.
-- Assumes nothing.
use mathlib.Core.List.{map, reverse}
use Prim.Native.Nat.{◌≤◌}
use lib.ListN.{length, drop, take}
use Rattle.oraddr.specs.View.{units_view}
use Rattle.ortext_segments.specs.Keys.{keys, ou_key}
use Rattle.ortext_write.specs.Write.{joined, plain_segment}
use Rattle.ortext_write.proofs.Laws.Left.{Left, flat}
use Rattle.ortext_write.proofs.Laws.Write.{unit_text}
use Rattle.ortext_write.proofs.write.put_units.Given as goal

abbrev pub invariant-loop-i : goal.invariant-loop-i
invariant-loop-i l =
    let u = units_view l.units in
    (l.i ≤ length u)
    × Left l.initial.dst l.at (joined keys (map (plain_segment ou_key) (reverse (drop l.from u)))) l.dst l.next
    (flat unit_text (reverse (drop l.from (take l.i u))))
