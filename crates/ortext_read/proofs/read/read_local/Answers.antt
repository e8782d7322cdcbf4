-- `ortext_read::read::read_local` meets its contract.
-- Assumes nothing.
use mathlib.Core.Path.{ap, ◌∙◌}
use Rattle.ortext_read.specs.Answers.{reading_result, told_reading}
use Rattle.ortext_read.proofs.Laws.Answers.{answer-kept, answer-name, local-fault, local-record}
use Rattle.ortext_read.proofs.read.read_local.Goals as goal

pub returns-in-Ok : goal.returns-in-Ok
returns-in-Ok c =
    let a = c.args in ap told_reading c.in-Ok.is ∙ local-record a.n a.rec a.s.now _ c.in-Ok.ensures

pub returns-in-Unread : goal.returns-in-Unread
returns-in-Unread c =
    let a = c.args in
    let f = c.in-Err.fault in
    c.as_name.ensures ∙ ap reading_result (answer-name a.rec a.s.now f c.in-Unread.is ∙ local-fault a.n a.rec a.s.now f c.in-Err.ensures)

pub returns-in-Refused : goal.returns-in-Refused
returns-in-Refused c =
    let a = c.args in
    let f = c.in-Err.fault in
    answer-kept a.rec a.s.now f c.in-Refused.is ∙ ap reading_result (local-fault a.n a.rec a.s.now f c.in-Err.ensures)
