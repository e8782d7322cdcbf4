-- `canonical_singles` meets its contract: each value, with its number, is in range and kept.
-- Assumes nothing.
use mathlib.Core.Path.{◌∙◌}
use mathlib.Core.Bool.{◌&&◌}
use borrow.Author.Rules.{rules}
use borrow.Author.Tests.{tests}
use Rattle.std.proofs.lemmas.Iterator.{YieldsList-from_slice}
use Rattle.std.proofs.lemmas.Iterator.Consumers.{YieldsList-from_enumerate}
use Rattle.std.proofs.lemmas.Iterator.Search.{all_from_yields_List}
use Rattle.oraddr.specs.Canonical.{canonical_singles, kept}
use Rattle.oraddr.specs.View.{singles_in_range, singles_view, text_in_range, value_view}
use Rattle.oraddr_canonical.proofs.Laws.{kept_pairs}
use Rattle.oraddr_canonical.proofs.canonical.canonical_singles.Goals as goal

pub returns : goal.returns
unfolding canonical_singles singles_in_range singles_view
returns c =
    all_from_yields_List (λ p. text_in_range p.1 && kept p.0 (value_view p.1)) c.all.new.self _ c.all.result c.all.ensures.ran
    (YieldsList-from_enumerate (YieldsList-from_slice c.args.all.now.values (cc)) (cc))
    (λ x b q h. search (rules, tests))
    ∙ kept_pairs 0 c.args.all.now.values
