-- `mailaddr::domain::part_start` meets its contract: what it counts is the run from the right up to a dot.
-- Assumes nothing.
use Rattle.std.proofs.Common.{rules, ◌≡◌, ℕ, Bool, arith, reverse, length, take, eqb, not}
use Rattle.std.specs.List.{prefix_len}
use Rattle.std.proofs.lemmas.Iterator.Adapters.{YieldsList-from_rev_slice}
use Rattle.std.proofs.lemmas.Iterator.Consumers.{count_from_yields_List}
use Rattle.std.proofs.lemmas.Iterator.Search.{YieldsList-from_take_while}
use Rattle.std.proofs.lemmas.List.Folds.{length-prefix_len}
use borrow.Author.Tests.{tests}
use Rattle.mailaddr.proofs.Laws.Domain.{run_is}
use Rattle.mailaddr.proofs.domain.part_start.Goals as goal

pub returns : goal.returns
returns c =
    let t = take c.args.end c.args.s.now in
    let test : ℕ → Bool = λ b. not (eqb b 46) in
    let n : c.count.result ≡ length (take (prefix_len test (reverse t)) (reverse t)) =
    count_from_yields_List c.take_while.result c.count.result c.count.ensures.ran
    (YieldsList-from_take_while _ test (YieldsList-from_rev_slice t cc) c.take_while.ensures.closure c.take_while.ensures.done (λ x b q k. search (rules, tests))) in
    omega (arith, n, run_is (reverse t), length-prefix_len test (reverse t))
