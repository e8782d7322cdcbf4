-- `mailaddr::domain::count_parts` meets its contract: there is one part more than there are dots.
-- Assumes nothing.
use Rattle.std.proofs.Common.{rules, ◌≡◌, arith, ap, length, eqb}
use Rattle.std.specs.List.{filter}
use Rattle.std.proofs.lemmas.Iterator.{YieldsList-from_slice}
use Rattle.std.proofs.lemmas.Iterator.Consumers.{YieldsList-from_filter, count_from_yields_List}
use Rattle.std.proofs.lemmas.List.Sums.{length-filter}
use Rattle.std.proofs.lemmas.List.Splits.{length-slice_split}
use borrow.Author.Tests.{tests}
use Rattle.mailaddr.proofs.Laws.Domain.{split_is}
use Rattle.mailaddr.proofs.domain.count_parts.Goals as goal

pub returns : goal.returns
returns c =
    let s = c.args.s.now in
    let n : c.count.result ≡ length (filter (λ b. eqb b 46) s) =
    count_from_yields_List c.filter.result c.count.result c.count.ensures.ran
    (YieldsList-from_filter _ (λ b. eqb b 46) (YieldsList-from_slice s cc) c.filter.ensures.closure (λ x b q k. search (rules, tests))) in
    omega (arith, n, length-filter (λ b. eqb b 46) s, length-slice_split (λ b. eqb b 46) s, ap length (split_is s))
