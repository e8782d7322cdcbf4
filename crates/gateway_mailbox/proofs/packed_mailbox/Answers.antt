-- `gateway_mailbox::packed_mailbox` meets its contract.
-- Assumes nothing.
use mathlib.Core.Path.{ap, ◌∙◌}
use Rattle.mailbox.specs.Answers.{told_written}
use Rattle.mailbox.specs.Mailbox.{MailboxResult, read_mailbox}
use Rattle.gateway_pack.proofs.Laws.Packed.{exported_text}
use Rattle.gateway_mailbox.proofs.Laws.Mailboxes.{packed-any, told-buffer}
use Rattle.gateway_mailbox.proofs.packed_mailbox.Goals as goal

pub returns : goal.returns
returns c =
    let a = c.args in
    let r = c.read_mailbox in
    let e = exported_text (read_mailbox a.line.now a.out.now).text (told_written r.result r.new.out).text c.pack_mailbox.result
    (ap (λ (o : MailboxResult). o.text) r.ensures)
    (c.pack_mailbox.ensures ∙ packed-any r.result r.new.out) in
    rw (told-buffer r.result r.new.out) at e
