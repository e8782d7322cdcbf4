-- `canonical_dds` meets its contract: each of as many as the count says is in range and keeps its rule.
-- Assumes nothing.
use mathlib.Core.Path.{◌∙◌}
use mathlib.Core.Bool.{◌&&◌}
use borrow.Author.Rules.{rules}
use borrow.Author.Tests.{tests}
use lib.ListN.{take}
use Rattle.std.proofs.lemmas.Iterator.{YieldsList-from_slice}
use Rattle.std.proofs.lemmas.Iterator.Search.{all_from_yields_List}
use Rattle.oraddr.specs.Canonical.{canonical_dds, is_dd}
use Rattle.oraddr.specs.View.{dd_in_range, dd_view, dds_in_range, dds_view}
use Rattle.oraddr_canonical.proofs.Laws.{counted}
use Rattle.oraddr_canonical.proofs.canonical.canonical_dds.Goals as goal

pub returns-then-count-le-MOST : goal.returns-then-count-le-MOST
unfolding canonical_dds dds_in_range dds_view
returns-then-count-le-MOST c =
    let a = c.args.dds.now in
    all_from_yields_List (λ x. dd_in_range x && is_dd (dd_view x)) c.all.new.self _ c.all.result c.all.ensures.ran
    (YieldsList-from_slice (take a.count a.items) (cc))
    (λ x b q h. search (rules, tests))
    ∙ counted dd_in_range is_dd dd_view a.count a.items c.if-count-le-MOST.true
