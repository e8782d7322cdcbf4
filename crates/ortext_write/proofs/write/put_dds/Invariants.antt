-- `ortext_write::write::put_dds` meets its contract. The loop's invariant: what is left to write.
-- Assumes nothing.
use mathlib.Core.List.{map}
use lib.ListN.{drop}
use Rattle.oraddr.specs.View.{dds_view}
use Rattle.ortext_segments.specs.Keys.{keys}
use Rattle.ortext_write.specs.Write.{dd_segment, joined}
use Rattle.ortext_write.proofs.Laws.Left.{Left, flat}
use Rattle.ortext_write.proofs.Laws.Write.{dd_text}
use Rattle.ortext_write.proofs.write.put_dds.Given as goal

abbrev pub invariant-loop-i : goal.invariant-loop-i
invariant-loop-i l =
    Left l.initial.dst l.at (joined keys (map dd_segment (dds_view l.dds))) l.dst l.next (flat dd_text (drop l.i (dds_view l.dds)))
