-- `mailbox::entry::read_short` meets its contract: the parts of the buffer of words are the mailbox's texts, and what was placed says which answer
-- it is.
-- Assumes nothing.
use Rattle.std.proofs.Common.{◌∙◌, refl, ap}
use Rattle.chars.proofs.Laws.Seq.{drop-take}
use Rattle.mailbox.specs.Answers.{bare_at, told_mailbox}
use Rattle.mailbox.specs.Mailbox.{Reading, bare_text, mailbox_by, no_mailbox, reading_of}
use Rattle.mailbox.specs.declared.entry.MailboxFault.TheVariants.{NoMailbox}
use Rattle.mailbox.proofs.Laws.Written.{written-done, written-refused, written-short}
use Rattle.mailbox.proofs.entry.read_short.Goals as goal

pub returns-in_default : goal.returns-in_default
unfolding told_mailbox reading_of
returns-in_default c =
    let n = rw c.in_default.is at c.mailbox.ensures.told in
    rw (← n) (written-refused no_mailbox NoMailbox c.args.out.now refl)

pub returns-in_default-place_bare : goal.returns-in_default-place_bare
unfolding told_mailbox reading_of bare_text
returns-in_default-place_bare c =
    let m = c.in-Some.m in
    let w = c.mailbox.new.dst in
    let k = c.in_default-place_bare.ensures in
    written-short (bare_at m w) c.args.out.now c.place_bare.new.out (rw (drop-take m.local m.size w) k.buffer) (rw (drop-take m.local m.size w) k.size)
    ∙ ap (λ (r : Reading). mailbox_by r c.args.out.now) (ap reading_of c.in-Some.ensures.told)

pub returns : goal.returns
unfolding told_mailbox reading_of bare_text
returns c =
    let m = c.in-Some.m in
    let w = c.mailbox.new.dst in
    let k = c.in-Some-place_bare.ensures in
    written-done (bare_at m w) c.args.out.now c.place_bare.new.out (rw (drop-take m.local m.size w) k.buffer)
    (record { size = c.in-Some-place_bare.size; phrase = m.phrase }) (rw (drop-take m.local m.size w) k.size) refl
    ∙ ap (λ (r : Reading). mailbox_by r c.args.out.now) (ap reading_of c.in-Some.ensures.told)
