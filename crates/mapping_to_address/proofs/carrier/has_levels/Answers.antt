-- `mapping_to_address::carrier::has_levels` meets its contract: where a path begins the levels, those behind it are absent exactly where the first of
-- them starts at the last one's end.
-- Assumes nothing.
use native.Mathlib.Omega.{arith}
use Rattle.table.specs.Rows.{fields_at, row_at}
use Rattle.mapping.proofs.Laws.Carrier.{levels-most, levels_other, levels-rest}
use Rattle.mapping_to_address.proofs.carrier.has_levels.Goals as goal

pub returns-in-None : goal.returns-in-None
unfolding row_at
returns-in-None c =
    let a = c.args in
    levels_other a.levels.now.bytes.now a.levels.now.ends.now (fields_at a.text.now a.row.path a.row.path_end) (rw c.in-None.is at c.match_path-matched.ensures)

pub bounds-levels-k : goal.bounds-levels-k
bounds-levels-k c =
    let a = c.args in
    omega (arith, a.levels.now.ended.room, levels-most a.levels.now.bytes.now a.levels.now.ends.now (fields_at a.text.now a.row.path a.row.path_end) c.in-Some.k (rw c.in-Some.is at c.match_path-matched.ensures))

pub returns-in-Some : goal.returns-in-Some
unfolding row_at
returns-in-Some c =
    let a = c.args in
    levels-rest a.levels.now.bytes.now a.levels.now.ends.now (fields_at a.text.now a.row.path a.row.path_end) c.in-Some.k (rw c.in-Some.is at c.match_path-matched.ensures)
    a.levels.now.ended
