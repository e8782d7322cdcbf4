-- `same_units` meets its contract: as many units as the count says agree where their texts do.
-- Assumes nothing.
use mathlib.Core.Path.{ap₂, ◌∙◌}
use borrow.Author.Rules.{rules}
use borrow.Author.Tests.{tests}
use Rattle.chars.specs.Case.{agree, same_text}
use Rattle.oraddr.specs.View.{unit_view, units_view}
use Rattle.oraddr_same.proofs.Laws.{agree_taken}
use Rattle.oraddr_same.proofs.same.same_units.Goals as goal

pub returns : goal.returns
unfolding units_view
returns c =
    let a = c.args.a.now in
    let b = c.args.b.now in
    c.agree.ensures (λ x y. same_text (unit_view x) (unit_view y)) (λ x y r h. search (rules, tests))
    ∙ ap₂ (agree (λ x y. same_text (unit_view x) (unit_view y))) c.held-names.ensures c.held.ensures
    ∙ agree_taken same_text unit_view a.names b.names a.count b.count
