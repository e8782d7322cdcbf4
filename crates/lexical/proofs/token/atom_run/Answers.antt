-- `lexical::token::atom_run` meets its contract: what it counts is the run of atom characters at the front.
-- Assumes nothing.
use Rattle.std.proofs.Common.{rules, ◌≡◌, arith, length, take}
use Rattle.std.specs.List.{prefix_len}
use Rattle.std.proofs.lemmas.Iterator.{YieldsList-from_slice}
use Rattle.std.proofs.lemmas.Iterator.Consumers.{count_from_yields_List}
use Rattle.std.proofs.lemmas.Iterator.Search.{YieldsList-from_take_while}
use Rattle.std.proofs.lemmas.List.Folds.{length-prefix_len}
use borrow.Author.Tests.{tests}
use Rattle.chars.specs.Class.{is_atom_char}
use Rattle.lexical.proofs.Laws.Tokens.{run_is}
use Rattle.lexical.proofs.token.atom_run.Goals as goal

pub returns : goal.returns
returns c =
    let s = c.args.s.now in
    let n : c.count.result ≡ length (take (prefix_len is_atom_char s) s) =
    count_from_yields_List c.take_while.result c.count.result c.count.ensures.ran
    (YieldsList-from_take_while _ is_atom_char (YieldsList-from_slice s cc) c.take_while.ensures.closure c.take_while.ensures.done (λ x b q k. search (rules, tests))) in
    omega (arith, n, run_is s, length-prefix_len is_atom_char s)
