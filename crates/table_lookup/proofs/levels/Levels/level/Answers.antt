-- `table_lookup::levels::Levels::level` meets its contract.
-- Assumes nothing.
use mathlib.Core.Path.{refl}
use Rattle.table.specs.Rows.{between}
use Rattle.table_lookup.proofs.levels.Levels.level.Goals as goal

pub returns : goal.returns
unfolding between
returns c = refl
