-- `mapping_cases::records::filled` is safe and ends: each part leaves less of the text.
-- Assumes nothing.
use lib.ListN.{length}
use Rattle.mapping_cases.proofs.records.filled.Given as goal

abbrev pub decreases-loop-left : goal.decreases-loop-left
decreases-loop-left l = length l.left
