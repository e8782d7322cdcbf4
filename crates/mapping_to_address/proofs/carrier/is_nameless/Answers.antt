-- `mapping_to_address::carrier::is_nameless` meets its contract: each value behind the levels is empty.
-- Assumes nothing.
use mathlib.Core.Path.{◌∙◌}
use borrow.Author.Rules.{rules}
use borrow.Author.Tests.{tests}
use lib.Dec.{eqb}
use lib.ListN.{length, drop}
use Rattle.std.proofs.lemmas.Iterator.{YieldsList-from_slice}
use Rattle.std.proofs.lemmas.Iterator.Search.{all_from_yields_List}
use Rattle.chars.proofs.Laws.Seq.{rest_of}
use Rattle.oraddr.specs.View.{singles_view, value_view, view}
use Rattle.mapping.specs.ToAddress.{is_nameless}
use Rattle.mapping.proofs.Laws.Carrier.{all_blank}
use Rattle.mapping_to_address.proofs.carrier.is_nameless.Goals as goal

pub returns : goal.returns
unfolding is_nameless view singles_view
returns c =
    let values = c.args.rec.singles.values in
    all_from_yields_List (λ v. eqb (length (value_view v)) 0) c.all.new.self _ c.all.result c.all.ensures.ran
    (YieldsList-from_slice {s = c.iter.result} (drop 4 values) (c.iter.ensures.rest ∙ rest_of 4 values))
    (λ x b q h. search (rules, tests))
    ∙ all_blank value_view values 4
