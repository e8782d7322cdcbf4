-- `ortext_read::read::as_name` meets its contract.
-- Assumes nothing.
use mathlib.Core.Path.{sym, ap, ◌∙◌}
use Rattle.ortext_read.specs.Answers.{reading_result}
use Rattle.ortext_read.specs.Apply.{finish, read_as_name}
use Rattle.ortext_name.specs.Places.{NameReading}
use Rattle.ortext_read.proofs.Laws.Answers.{answer-unread, name_alone_lem, unread_name}
use Rattle.ortext_read.proofs.read.as_name.Goals as goal

pub add_name-requires : goal.add_name-requires
unfolding NameReading
add_name-requires c = rw c.in-Some.is at c.read_name.ensures

pub returns-in-Some : goal.returns-in-Some
unfolding NameReading
returns-in-Some c =
    let a = c.args in
    let d = c.add_name in
    let p = rw c.in-Some.is at c.read_name.ensures in
    c.finished.ensures ∙ ap reading_result (ap finish d.ensures ∙ name_alone_lem a.rec _ ∙ ap (read_as_name a.rec) (sym p.reads))

pub returns-in-None : goal.returns-in-None
unfolding NameReading
returns-in-None c =
    let a = c.args in
    let p = rw c.in-None.is at c.read_name.ensures in
    answer-unread (ap (read_as_name a.rec) p ∙ sym (unread_name a.rec))
