-- `agree` meets its contract: lists of one length agree where the test passes at each pair.
-- Assumes nothing.
use mathlib.Core.Path.{sym, ◌∙◌}
use borrow.Author.Rules.{rules}
use borrow.Author.Tests.{ne_eqb, tests}
use Rattle.std.proofs.lemmas.Iterator.{YieldsList-from_slice, YieldsList-from_zip}
use Rattle.std.proofs.lemmas.Iterator.Search.{all_from_yields_List}
use Rattle.chars.proofs.Laws.Case.{agree_lengths_differ}
use Rattle.oraddr_same.proofs.Laws.{agree_zip}
use Rattle.oraddr_same.proofs.same.agree.Goals as goal
use Rattle.oraddr_same.proofs.same.agree.Goals.{then-a-b, else-a-b}

pub returns : goal.returns
returns g c = λ e k. elim c.if-a-b.branch [
  | then-a-b w ↦
      w.result-is
      ∙ all_from_yields_List (λ p. e p.0 p.1) w.all.new.self _ w.all.result w.all.ensures.ran
      (YieldsList-from_zip (YieldsList-from_slice c.args.a.now (cc)) (YieldsList-from_slice c.args.b.now (cc)))
      (λ x b q h. (search (rules, tests), k x.0 x.1 b (search (rules, tests))))
      ∙ agree_zip e c.args.a.now c.args.b.now w.if-a-b.true
  | else-a-b w ↦ w.result-is ∙ ne_eqb _ _ w.if-a-b.false ∙ sym (agree_lengths_differ e c.args.a.now c.args.b.now w.if-a-b.false)
]
