-- `soundness_judge::candidate::with_token` meets its contract: the levels of the path on an empty record, the token behind them, and the name.
-- Assumes nothing.
use Rattle.std.proofs.Common.{◌∙◌}
use Rattle.table.specs.Rows.{row_at}
use Rattle.soundness.proofs.Laws.Told.{token-behind}
use Rattle.soundness_judge.proofs.candidate.with_token.Goals as goal

pub returns : goal.returns
unfolding row_at
returns c =
    let a = c.args in
    c.with_surname.ensures
    ∙ token-behind (row_at a.text.now a.row).path a.token.now a.k c.add_path.result c.add_level.result c.requires.k_value c.requires.path_fits
    c.add_path.ensures c.add_level.ensures
