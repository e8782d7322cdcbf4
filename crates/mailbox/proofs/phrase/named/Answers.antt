-- `mailbox::phrase::named` meets its contract.
-- Assumes nothing.
use Rattle.std.proofs.Common.{◌-◌, arith, sym}
use Rattle.lexical.specs.Answers.{tokens_of}
use Rattle.mailbox.specs.Answers.{named_by, told_phrase}
use Rattle.mailbox_address.specs.Grammar.{route_addr}
use Rattle.mailbox.proofs.Laws.Read.{mailbox-reads, mailbox-unread}
use Rattle.mailbox.proofs.phrase.named.Goals as goal

pub returns-in_err-a : goal.returns-in_err-a
unfolding named_by told_phrase
returns-in_err-a c =
    let a = c.args in
    let p = c.phrase_end-p in
    rw (c.from_residual.ensures, sym p.ensures.told)
    (mailbox-unread a.s.now c.route_addr.new.dst c.route_addr.result a.word.start (p.result.end - a.word.start)
    (route_addr (tokens_of a.s.now p.result.next))
    c.route_addr.ensures.told
    c.in_err-a.ensures.value)

pub overflow_sub-p : goal.overflow_sub-p
overflow_sub-p c = omega (arith, c.phrase_end-p.ensures.low, c.requires.stands.ordered)

pub returns : goal.returns
unfolding named_by told_phrase
returns c =
    let a = c.args in
    let p = c.phrase_end-p in
    rw (sym p.ensures.told)
    (mailbox-reads a.s.now c.route_addr.new.dst c.route_addr.result c.in_ok-a.a a.word.start (p.result.end - a.word.start)
    (route_addr (tokens_of a.s.now p.result.next))
    c.mailbox_of.result
    c.route_addr.ensures
    c.in_ok-a.ensures.value
    c.mailbox_of.ensures)
