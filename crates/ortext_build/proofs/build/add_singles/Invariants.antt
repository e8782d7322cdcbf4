-- `ortext_build::build::add_singles` meets its contract. The loop's invariant: what is left, added to the record so far, is all of it added.
-- Assumes nothing.
use mathlib.Core.Path.{◌≡◌}
use mathlib.Core.List.{map}
use lib.ListN.{take, drop}
use Rattle.oraddr.specs.Bounds.{single_count}
use Rattle.ortext_build.specs.Adding.{add_singles, start}
use Rattle.ortext_segments.specs.Scan.{span_text}
use Rattle.ortext_build.proofs.build.add_singles.Given as goal

abbrev pub invariant-loop-k : goal.invariant-loop-k
invariant-loop-k l =
    add_singles 0 (map (span_text l.s) (take single_count l.named.once)) (start l.initial.next) ≡ add_singles l.k (map (span_text l.s) (drop l.k (take single_count l.named.once))) (start l.next)
