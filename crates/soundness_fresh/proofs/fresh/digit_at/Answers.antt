-- `soundness_fresh::fresh::digit_at` meets its contract: the byte that it reads and folds is the folded text's.
-- Assumes nothing.
use Rattle.std.proofs.Common.{◌≡◌, get_or, ap, sym, arith, ◌∙◌}
use Rattle.chars.specs.Case.{fold_case, fold_text}
use Rattle.soundness.proofs.Laws.Marks.{fold_at}
use Rattle.soundness_fresh.proofs.fresh.digit_at.Goals as goal

pub returns-clause-value : goal.returns-clause-value
returns-clause-value c =
    let a = c.args in
    let folded : c.from.result ≡ get_or (fold_text a.token.now) a.i 0 =
    c.from.ensures ∙ c.fold_case.ensures ∙ ap fold_case c.byte_at.ensures ∙ sym (fold_at a.token.now a.i) in
    omega arith
