-- `mailaddr::code::put_char` meets its contract: its three ways are those of `coded_char`.
-- Assumes nothing.
use Rattle.std.proofs.Common.{◌∙◌, sym}
use Rattle.chars.proofs.Laws.Write.{wrote_as}
use Rattle.mailaddr.specs.Code.{numbered}
use Rattle.mailaddr.proofs.Laws.Code.{coded_itself, coded_letter, coded_number}
use Rattle.mailaddr.proofs.code.put_char.Goals as goal

pub returns-in-Some : goal.returns-in-Some
returns-in-Some c =
    let a = c.args in
    wrote_as _ _ (sym (coded_letter a.spaced a.b c.in-Some.letter c.in-Some.ensures)) c.put_some.ensures

pub returns-then-is_itself : goal.returns-then-is_itself
returns-then-is_itself c =
    let a = c.args in
    wrote_as _ _ (sym (coded_itself a.spaced a.b (sym c.in_default.is ∙ c.letter_of.ensures) (sym c.is_itself.ensures ∙ c.if-is_itself.true))) c.put_some-then-is_itself.ensures

pub returns : goal.returns
unfolding numbered
returns c =
    let a = c.args in
    wrote_as _ _ (sym (coded_number a.spaced a.b (sym c.in_default.is ∙ c.letter_of.ensures) (sym c.is_itself.ensures ∙ c.if-is_itself.false))) c.put_some-2.ensures
