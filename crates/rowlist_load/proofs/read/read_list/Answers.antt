-- `rowlist_load::read::read_list` meets its contract.
-- Assumes nothing.
use Rattle.std.proofs.Common.{ap, sym, subst, ◌∙◌}
use Rattle.std.proofs.lemmas.Result.{err_from_is_err_and}
use Rattle.table.specs.Lines.{malformed}
use Rattle.table.specs.declared.load.Malformed.{Malformed}
use Rattle.rowlist.specs.Entries.{entries_of}
use Rattle.table_load.specs.Load.{FormedBy, load_answer}
use Rattle.rowlist_load.proofs.Laws.Whole.{listed_rules}
use Rattle.rowlist_load.proofs.read.read_list.Goals as goal

pub returns-in_err-loaded-clause-answers : goal.returns-in_err-loaded-clause-answers
unfolding load_answer
returns-in_err-loaded-clause-answers c =
    let told = err_from_is_err_and c.from_residual.result c.from_residual.ensures.1 in
    rw told.1 (ap (λ (e : Malformed). malformed e.line) told.2 ∙ c.in_err-loaded.ensures.answers)

pub invariant_of-result-clause-formed : goal.invariant_of-result-clause-formed
unfolding load_answer
invariant_of-result-clause-formed c =
    let a = c.args in
    subst FormedBy (sym c.in_ok-loaded.ensures.answers) (listed_rules a.text.now (entries_of a.numbers.now a.n))

pub returns-clause-answers : goal.returns-clause-answers
unfolding load_answer
returns-clause-answers c = c.in_ok-loaded.ensures.answers
