-- `table::rows::row_at` meets its contract: the four numbers are read where the row has them.
-- Assumes nothing.
use mathlib.Core.Path.{refl}
use Rattle.table.specs.Rows.{places_at}
use Rattle.table.proofs.rows.row_at.Goals as goal

pub returns : goal.returns
unfolding places_at
returns c = refl
