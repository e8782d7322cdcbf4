-- `table_settle::settle::add_path` meets its contract.
-- Assumes nothing.
use Rattle.table.specs.Rows.{fields_at}
use Rattle.table_settle.proofs.Laws.Nexts.{noted_taken}
use Rattle.table_settle.proofs.settle.add_path.Goals as goal

pub add_laid-requires : goal.add_laid-requires
add_laid-requires c =
    let a = c.args in
    record {
      end_in_bounds = c.requires.end_in_bounds;
      nexts_value = noted_taken a.at (fields_at a.text.now a.at a.end) c.lay_levels.ensures c.requires.end_len_bound;
    }
