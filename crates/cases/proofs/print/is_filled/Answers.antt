-- `cases::print::is_filled` meets its contract.
-- Assumes nothing.
use Rattle.std.proofs.Common.{rules, ℕ, eqb, ap, ◌∙◌}
use Rattle.std.proofs.lemmas.Iterator.{YieldsList-from_slice}
use Rattle.std.proofs.lemmas.Iterator.Search.{all_from_yields_List}
use Rattle.chars.specs.Lists.{all}
use Rattle.chars.proofs.Laws.Lists.{all_list}
use Rattle.cases.specs.Print.{filled_from}
use Rattle.cases.proofs.print.is_filled.Goals as goal

pub returns : goal.returns
unfolding filled_from
returns c =
    let p = λ (b : ℕ). eqb b 255 in
    let s = c.rest.result.now in
    all_from_yields_List p _ _ _ c.all.ensures.ran (YieldsList-from_slice s cc) (λ x b q k. search rules) ∙ all_list p s ∙ ap (all p) c.rest.ensures
