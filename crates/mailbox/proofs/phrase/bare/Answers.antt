-- `mailbox::phrase::bare` meets its contract.
-- Assumes nothing.
use Rattle.lexical.specs.Answers.{tokens_of}
use Rattle.mailbox_address.specs.Grammar.{addr_spec}
use Rattle.mailbox.proofs.Laws.Read.{mailbox-reads, mailbox-unread}
use Rattle.mailbox.proofs.phrase.bare.Goals as goal

pub returns-in_err-a : goal.returns-in_err-a
returns-in_err-a c =
    let a = c.args in
    rw c.from_residual.ensures
    (mailbox-unread a.s.now c.addr_spec.new.dst c.addr_spec.result 0 0 (addr_spec (tokens_of a.s.now a.word)) c.addr_spec.ensures.told c.in_err-a.ensures.value)

pub returns : goal.returns
returns c =
    let a = c.args in
    mailbox-reads a.s.now c.addr_spec.new.dst c.addr_spec.result c.in_ok-a.a 0 0 (addr_spec (tokens_of a.s.now a.word)) c.mailbox_of.result
    c.addr_spec.ensures
    c.in_ok-a.ensures.value
    c.mailbox_of.ensures
