-- `table_load::read::read_table` meets its contract.
-- Assumes nothing.
use Rattle.std.proofs.Common.{ap, sym, ◌∙◌}
use Rattle.std.proofs.lemmas.Result.{err_from_is_err_and}
use Rattle.table.specs.Lines.{malformed}
use Rattle.table.specs.Rows.{table_at}
use Rattle.table.specs.declared.load.Malformed.{Malformed}
use Rattle.table.proofs.Laws.Formed.{loaded_formed}
use Rattle.table_load.specs.Load.{load_answer}
use Rattle.table_load.proofs.read.read_table.Goals as goal

pub returns-in_err-loaded-clause-answers : goal.returns-in_err-loaded-clause-answers
unfolding load_answer
returns-in_err-loaded-clause-answers c =
    let told = err_from_is_err_and c.from_residual.result c.from_residual.ensures.1 in
    rw told.1 (ap (λ (e : Malformed). malformed e.line) told.2 ∙ c.in_err-loaded.ensures.answers)

pub invariant_of-result-clause-formed : goal.invariant_of-result-clause-formed
unfolding load_answer
invariant_of-result-clause-formed c =
    let a = c.args in
    loaded_formed a.text.now (table_at a.text.now c.load.new.to_path c.load.new.to_domain c.in_ok-loaded.loaded) (sym c.in_ok-loaded.ensures.answers)

pub returns-clause-answers : goal.returns-clause-answers
unfolding load_answer
returns-clause-answers c = c.in_ok-loaded.ensures.answers
