-- `table::line::are_fields` meets its contract. It calls itself for the fields behind the first with one level less left, which is
-- the measure.
-- Assumes nothing.
use Rattle.table.proofs.line.+are_fields.Given as goal

abbrev pub decreases-are_fields : goal.decreases-are_fields
decreases-are_fields l = l.left
