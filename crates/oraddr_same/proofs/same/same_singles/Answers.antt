-- `same_singles` meets its contract: the values agree where their texts do.
-- Assumes nothing.
use mathlib.Core.Path.{◌∙◌}
use borrow.Author.Rules.{rules}
use borrow.Author.Tests.{tests}
use Rattle.chars.specs.Case.{same_text}
use Rattle.oraddr.specs.View.{singles_view, value_view}
use Rattle.oraddr_same.proofs.Laws.{agree_view}
use Rattle.oraddr_same.proofs.same.same_singles.Goals as goal

pub returns : goal.returns
unfolding singles_view
returns c =
    let at = c.args in
    c.agree.ensures (λ x y. same_text (value_view x) (value_view y)) (λ x y r h. search (rules, tests))
    ∙ agree_view same_text value_view at.a.now.values at.b.now.values
