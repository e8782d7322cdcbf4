-- `chars::class::all_in` meets its contract.
-- Assumes nothing.
use Rattle.std.proofs.Common.{rules, ◌∙◌}
use Rattle.std.proofs.lemmas.Iterator.{YieldsList-from_slice}
use Rattle.std.proofs.lemmas.Iterator.Search.{all_from_yields_List}
use Rattle.chars.specs.Class.{is_in}
use Rattle.chars.proofs.Laws.Lists.{all_list}
use Rattle.chars.proofs.class.all_in.Goals as goal

pub returns : goal.returns
returns c =
    let s = c.args.s.now in
    let p = is_in c.args.class in
    all_from_yields_List p _ _ _ c.all.ensures.ran (YieldsList-from_slice s cc) (λ x b q k. search rules) ∙ all_list p s
