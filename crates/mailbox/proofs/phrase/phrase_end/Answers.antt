-- `mailbox::phrase::phrase_end` meets its contract. The loop's invariant: the phrase goes on from the present token as it does from the first.
-- Assumes nothing.
use mathlib.Core.Path.{refl, sym, ap, ◌∙◌}
use native.Mathlib.Omega.{arith}
use Rattle.mailbox.specs.Answers.{told_phrase}
use Rattle.mailbox_address.specs.Grammar.{phrase_from}
use Rattle.mailbox_address.proofs.Laws.Lexeme.{word-ahead}
use Rattle.mailbox.proofs.Laws.Read.{phrase_over, phrase-word}
use Rattle.mailbox.proofs.phrase.phrase_end.Goals as goal

pub loop-end-init : goal.loop-end-init
loop-end-init c = (refl, c.requires.stands, omega arith, c.requires.from_le_start)

pub returns : goal.returns
unfolding told_phrase
returns c =
    let l = c.loop-end in
    record {
      told = sym (l.invariant.0 ∙ phrase_over l.end c.args.s.now l.t (sym c.is_word.ensures ∙ c.loop-end-test.false));
      stands = l.invariant.1;
      low = l.invariant.2;
    }

pub loop-end-smaller : goal.loop-end-smaller
loop-end-smaller c =
    let l = c.loop-end in
    omega (
      arith,
      c.next_token-t.ensures.low,
      l.invariant.1.high,
      word-ahead c.args.s.now l.t (sym c.is_word.ensures ∙ c.loop-end-test.true) l.invariant.1,
    )

pub loop-end-preserved : goal.loop-end-preserved
loop-end-preserved c =
    let l = c.loop-end in
    let n = c.next_token-t.ensures in (
      l.invariant.0 ∙ phrase-word l.end c.args.s.now l.t (sym c.is_word.ensures ∙ c.loop-end-test.true) ∙ ap (phrase_from l.t.end) n.tokens,
      n.stands,
      omega (arith, l.invariant.2, l.invariant.3, l.invariant.1.ordered),
      n.low,
    )
