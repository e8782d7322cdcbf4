-- `mailbox::phrase::mailbox` meets its contract: what stands behind the first word says which of the two a mailbox can be.
-- Assumes nothing.
use mathlib.Core.Path.{refl, sym, ◌∙◌}
use Rattle.mailbox.specs.Answers.{told_mailbox}
use Rattle.mailbox.specs.Mailbox.{bare_in, bare_of}
use Rattle.mailbox.proofs.Laws.Read.{mailbox-bare, mailbox-named, mailbox-none}
use Rattle.mailbox.proofs.phrase.mailbox.Goals as goal

pub returns-then-not-is_word : goal.returns-then-not-is_word
unfolding bare_in bare_of told_mailbox
returns-then-not-is_word c =
    let a = c.args in
    let n = c.next_token-word in
    rw (n.ensures.tokens, mailbox-none a.s.now n.result (sym c.is_word.ensures ∙ c.if-not-is_word.true)) (record { told = refl; sizes = tt })

pub returns-then-goes_on : goal.returns-then-goes_on
unfolding bare_in
returns-then-goes_on c =
    let a = c.args in
    let n = c.next_token-word in
    let m = c.next_token-second in
    rw (
      n.ensures.tokens,
      mailbox-bare a.s.now n.result m.result (sym c.is_word.ensures ∙ c.if-not-is_word.false) m.ensures.tokens (sym c.goes_on.ensures ∙ c.if-goes_on.true),
    )
    c.bare.ensures

pub returns : goal.returns
unfolding bare_in
returns c =
    let a = c.args in
    let n = c.next_token-word in
    let m = c.next_token-second in
    rw (
      n.ensures.tokens,
      mailbox-named a.s.now n.result m.result (sym c.is_word.ensures ∙ c.if-not-is_word.false) m.ensures.tokens (sym c.goes_on.ensures ∙ c.if-goes_on.false),
    )
    c.named.ensures
