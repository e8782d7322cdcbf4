-- `mailbox::entry::judge_line` meets its contract: each test is one of the definition's, in its order.
-- Assumes nothing.
use Rattle.std.proofs.Common.{◌∙◌, arith, sym}
use Rattle.mailbox.proofs.Laws.Written.{reading_deep, reading-line, reading_long}
use Rattle.mailbox.proofs.entry.judge_line.Goals as goal

pub returns-then-line-gt-LONGEST_LINE : goal.returns-then-line-gt-LONGEST_LINE
returns-then-line-gt-LONGEST_LINE c = rw (reading_long c.args.line.now (omega arith))

pub returns-then-nests_too_deep : goal.returns-then-nests_too_deep
returns-then-nests_too_deep c = rw (reading_deep c.args.line.now (omega arith) (sym c.nests_too_deep.ensures ∙ c.if-nests_too_deep.true))

pub returns : goal.returns
returns c = (omega arith, reading-line c.args.line.now (omega arith) (sym c.nests_too_deep.ensures ∙ c.if-nests_too_deep.false))
