-- `mailaddr::domain::is_domain` meets its contract: the parts that `split` gives are those of the definition.
-- Assumes nothing.
use Rattle.std.proofs.Common.{rules, ◌≡◌, ◌∙◌, ap, eqb}
use Rattle.std.specs.List.{list_all, slice_split}
use Rattle.std.proofs.lemmas.Iterator.Search.{all_from_yields_List}
use Rattle.std.proofs.lemmas.Iterator.Splits.{YieldsList-from_slice_split}
use borrow.Author.Tests.{tests}
use Rattle.chars.specs.Lists.{all}
use Rattle.chars.specs.Domain.{is_domain_part}
use Rattle.mailaddr.specs.Domain.{is_domain}
use Rattle.mailaddr.proofs.Laws.Domain.{all_is, split_is}
use Rattle.mailaddr.proofs.domain.is_domain.Goals as goal

pub returns : goal.returns
unfolding is_domain
returns c =
    let s = c.args.s.now in
    let e : c.all.result ≡ list_all is_domain_part (slice_split (λ b. eqb b 46) s) =
    all_from_yields_List is_domain_part _ _ _ c.all.ensures.ran
    (YieldsList-from_slice_split _ (λ b. eqb b 46) s c.split.ensures.rest c.split.ensures.done c.split.ensures.closure (λ x b q k. search (rules, tests)))
    (λ x b q k. search (rules, tests)) in
    e ∙ all_is is_domain_part (slice_split (λ b. eqb b 46) s) ∙ ap (all is_domain_part) (split_is s)
