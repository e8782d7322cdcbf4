-- `ortext_build::build::add_units` meets its contract. The loop's invariant: what is left, added to what there is so far, is all of it added.
-- Assumes nothing.
use mathlib.Core.Path.{◌≡◌}
use mathlib.Core.List.{map, reverse}
use Prim.Native.Nat.{◌≤◌}
use lib.ListN.{take}
use Rattle.oraddr.specs.Add.{told}
use Rattle.ortext_build.specs.Adding.{add_units, held_units}
use Rattle.ortext_segments.specs.Scan.{span_text}
use Rattle.ortext_build.proofs.build.add_units.Given as goal

abbrev pub invariant-loop-i : goal.invariant-loop-i
invariant-loop-i l =
    (l.i ≤ l.named.unit_count) × (add_units (held_units l.s l.named) (told l.initial.done) ≡ add_units (reverse (map (span_text l.s) (take l.i l.named.units))) (told l.done))
