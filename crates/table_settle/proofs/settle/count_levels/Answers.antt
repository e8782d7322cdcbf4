-- `table_settle::settle::count_levels` meets its contract.
-- Assumes nothing.
use Rattle.table.specs.Rows.{fields_at}
use Rattle.table_settle.proofs.Laws.Nexts.{noted_count}
use Rattle.table_settle.proofs.settle.count_levels.Goals as goal

pub returns : goal.returns
returns c =
    let a = c.args in
    noted_count a.at (fields_at a.text.now a.at a.end) c.lay_levels.result c.lay_levels.ensures
