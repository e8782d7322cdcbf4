-- `ortext_build::build::add_dds` meets its contract. The loop's invariant: what is left, added to what there is so far, is all of it added.
-- Assumes nothing.
use mathlib.Core.Path.{◌≡◌}
use mathlib.Core.List.{map}
use lib.ListN.{take, drop}
use Rattle.oraddr.specs.Add.{told}
use Rattle.ortext_build.specs.Adding.{add_dds, dd_at, held_dds}
use Rattle.ortext_build.proofs.build.add_dds.Given as goal

abbrev pub invariant-loop-i : goal.invariant-loop-i
invariant-loop-i l =
    add_dds (held_dds l.s l.named) (told l.initial.done) ≡ add_dds (map (dd_at l.s) (drop l.i (take l.named.dd_count l.named.dds))) (told l.done)
