-- `mailbox::entry::read_mailbox` meets its contract: a line that is read on is read so, and another's refusal is handed back.
-- Assumes nothing.
use Rattle.std.proofs.lemmas.Result.{err_from_is_err_and}
use Rattle.mailbox.specs.Mailbox.{read_mailbox, reading}
use Rattle.mailbox.proofs.Laws.Written.{written-refused}
use Rattle.mailbox.proofs.entry.read_mailbox.Goals as goal

pub read_short-requires : goal.read_short-requires
read_short-requires c = c.in_ok-judge_line.ensures.0

pub returns-in_err-judge_line : goal.returns-in_err-judge_line
unfolding read_mailbox
returns-in_err-judge_line c =
    let p = err_from_is_err_and c.from_residual.result c.from_residual.ensures.1 in
    rw (p.1, p.2) (written-refused (reading c.args.line.now) c.in_err-judge_line.field-0.0 c.args.out.now c.in_err-judge_line.ensures)

pub returns : goal.returns
unfolding read_mailbox
returns c = rw c.in_ok-judge_line.ensures.1 c.read_short.ensures
