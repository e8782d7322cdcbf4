-- `date_read::read::rest_with` meets its contract.
-- Assumes nothing.
use mathlib.Core.Path.{◌∙◌, ap}
use mir.Syntax.{w32}
use mir.ValLaws.{to_z-of_z}
use Rattle.chars.specs.Lists.{bytes}
use Rattle.date_read.specs.Read.{kept, month_names, number_in, rest_with}
use Rattle.date_read.proofs.Laws.Date.{month_unnamed, no_hour, no_minute, no_year}
use Rattle.date_read.proofs.Laws.Read.{rest_with_lem}
use Rattle.date_read.proofs.read.rest_with.Goals as goal

pub returns-in_err-two_digits : goal.returns-in_err-two_digits
unfolding rest_with
returns-in_err-two_digits c =
    let a = c.args in
    c.from_residual.ensures ∙ no_year (rest_with a.r.now a.day a.second a.offset) c.in_err-two_digits.ensures.value

pub returns-in_err-number_in : goal.returns-in_err-number_in
unfolding rest_with bytes
returns-in_err-number_in c =
    let a = c.args in
    c.from_residual-in_err-number_in.ensures ∙ month_unnamed (rest_with a.r.now a.day a.second a.offset) (c.in_err-number_in.ensures.value ∙ ap (number_in 1 month_names) c.three.ensures)

pub returns-in_err-two_digits-2 : goal.returns-in_err-two_digits-2
unfolding rest_with
returns-in_err-two_digits-2 c =
    let a = c.args in
    c.from_residual-in_err-two_digits-2.ensures ∙ no_hour (rest_with a.r.now a.day a.second a.offset) c.in_err-two_digits-2.ensures.value

pub returns-in_err-two_digits-3 : goal.returns-in_err-two_digits-3
unfolding rest_with
returns-in_err-two_digits-3 c =
    let a = c.args in
    c.from_residual-in_err-two_digits-3.ensures ∙ no_minute (rest_with a.r.now a.day a.second a.offset) c.in_err-two_digits-3.ensures.value

pub returns : goal.returns
unfolding bytes
returns c =
    let a = c.args in
    c.if_date.ensures
    ∙ ap kept
    (rest_with_lem a.r.now _ _ _ a.day _ _ a.second a.offset _ c.three.ensures c.in_ok-number_in.ensures.value
    c.in_ok-two_digits.ensures.value c.in_ok-two_digits-2.ensures.value c.in_ok-two_digits-3.ensures.value
    (to_z-of_z w32 a.offset c.ranges.offset))
