-- `ortext_write::write::put_keys` meets its contract. The loop's invariant: what is left to write.
-- Assumes nothing.
use mathlib.Core.Path.{◌≡◌}
use lib.ListN.{drop}
use Rattle.oraddr.specs.View.{view}
use Rattle.ortext_segments.specs.Keys.{keys}
use Rattle.ortext_write.specs.Write.{joined, order, remaining, segments_in}
use Rattle.ortext_write.proofs.Laws.Left.{Left, flat}
use Rattle.ortext_write.proofs.Laws.Write.{key_text}
use Rattle.ortext_write.proofs.write.put_keys.Given as goal

abbrev pub invariant-loop-k : goal.invariant-loop-k
invariant-loop-k l =
    let left = remaining l.from (view l.rec) in
    (l.k-items ≡ order) × Left l.initial.dst l.at (joined keys (segments_in left order)) l.dst l.next (flat (key_text left) (drop l.k-index order))
