-- `level_span` meets its contract: level k is the path's first where k is 0, and else level k - 1 of those behind. The measure is k.
-- Assumes nothing.
use Rattle.soundness_fresh.proofs.fresh.+level_span.Given as goal

abbrev pub decreases-level_span : goal.decreases-level_span
decreases-level_span l = l.k
