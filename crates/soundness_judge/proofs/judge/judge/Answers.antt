-- `soundness_judge::judge::judge` meets its contract: the candidate comes back, or it is the witness.
-- Assumes nothing.
use Rattle.std.proofs.Common.{sym, ◌∙◌}
use Rattle.chars.proofs.Laws.Lists.{true_not_false}
use Rattle.table_load.specs.Tables.{table_of}
use Rattle.soundness.specs.Sound.{comes_back}
use Rattle.soundness.proofs.Laws.Comes.{back_comes}
use Rattle.soundness.proofs.Laws.Told.{struct_of}
use Rattle.soundness_judge.proofs.judge.judge.Goals as goal

pub returns-else-comes_back : goal.returns-else-comes_back
returns-else-comes_back c =
    let a = c.args in
    let t = table_of a.table.now in
    record {
      struct = struct_of a.rec c.well_formed.1.0.1.1.0.1.1.0.1.0.1;
      canonical = c.requires.canonical;
      free = c.requires.free;
      lost = λ b. true_not_false (comes_back t a.rec) (back_comes t a.rec b) (sym c.comes_back.ensures ∙ c.if-comes_back.false);
    }
