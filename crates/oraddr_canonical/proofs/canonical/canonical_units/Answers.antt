-- `canonical_units` meets its contract: each of as many as the count says is in range and keeps its rule.
-- Assumes nothing.
use mathlib.Core.Path.{◌∙◌}
use mathlib.Core.Bool.{◌&&◌}
use borrow.Author.Rules.{rules}
use borrow.Author.Tests.{tests}
use lib.ListN.{take}
use Rattle.std.proofs.lemmas.Iterator.{YieldsList-from_slice}
use Rattle.std.proofs.lemmas.Iterator.Search.{all_from_yields_List}
use Rattle.oraddr.specs.Canonical.{canonical_units, is_unit}
use Rattle.oraddr.specs.View.{text_in_range, unit_view, units_in_range, units_view}
use Rattle.oraddr_canonical.proofs.Laws.{counted}
use Rattle.oraddr_canonical.proofs.canonical.canonical_units.Goals as goal

pub returns-then-count-le-MOST : goal.returns-then-count-le-MOST
unfolding canonical_units units_in_range units_view
returns-then-count-le-MOST c =
    let a = c.args.units.now in
    all_from_yields_List (λ x. text_in_range x && is_unit (unit_view x)) c.all.new.self _ c.all.result c.all.ensures.ran
    (YieldsList-from_slice (take a.count a.names) (cc))
    (λ x b q h. search (rules, tests))
    ∙ counted text_in_range is_unit unit_view a.count a.names c.if-count-le-MOST.true
