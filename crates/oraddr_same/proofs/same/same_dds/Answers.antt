-- `same_dds` meets its contract: as many DDs as the count says agree where their types and values do.
-- Assumes nothing.
use mathlib.Core.Path.{ap₂, ◌∙◌}
use borrow.Author.Rules.{rules}
use borrow.Author.Tests.{tests}
use Rattle.chars.specs.Case.{agree}
use Rattle.oraddr.specs.Same.{same_dd}
use Rattle.oraddr.specs.View.{dd_view, dds_view}
use Rattle.oraddr_same.proofs.Laws.{agree_taken}
use Rattle.oraddr_same.proofs.same.same_dds.Goals as goal

pub returns : goal.returns
unfolding dds_view
returns c =
    let a = c.args.a.now in
    let b = c.args.b.now in
    c.agree.ensures (λ x y. same_dd (dd_view x) (dd_view y)) (λ x y r h. search (rules, tests))
    ∙ ap₂ (agree (λ x y. same_dd (dd_view x) (dd_view y))) c.held.ensures c.held-2.ensures
    ∙ agree_taken same_dd dd_view a.items b.items a.count b.count
