-- `date_read::read::utc_with` meets its contract.
-- Assumes nothing.
use mathlib.Core.Path.{◌∙◌, ap}
use mir.Syntax.{w32}
use mir.ValLaws.{to_z-of_z}
use Rattle.date_read.specs.Read.{kept, utc_with}
use Rattle.date_read.proofs.Laws.Date.{month_past, no_day, no_hour, no_minute, no_year}
use Rattle.date_read.proofs.Laws.Read.{utc_with_lem}
use Rattle.date_read.proofs.read.utc_with.Goals as goal

pub returns-in_err-two_digits : goal.returns-in_err-two_digits
unfolding utc_with
returns-in_err-two_digits c =
    let a = c.args in
    c.from_residual.ensures ∙ no_year (utc_with a.s.now a.second a.offset) c.in_err-two_digits.ensures.value

pub returns-in_err-two_digits-2 : goal.returns-in_err-two_digits-2
unfolding utc_with
returns-in_err-two_digits-2 c =
    let a = c.args in
    c.from_residual-in_err-two_digits-2.ensures ∙ month_past (utc_with a.s.now a.second a.offset) c.in_err-two_digits-2.ensures.value

pub returns-in_err-two_digits-3 : goal.returns-in_err-two_digits-3
unfolding utc_with
returns-in_err-two_digits-3 c =
    let a = c.args in
    c.from_residual-in_err-two_digits-3.ensures ∙ no_day (utc_with a.s.now a.second a.offset) c.in_err-two_digits-3.ensures.value

pub returns-in_err-two_digits-4 : goal.returns-in_err-two_digits-4
unfolding utc_with
returns-in_err-two_digits-4 c =
    let a = c.args in
    c.from_residual-in_err-two_digits-4.ensures ∙ no_hour (utc_with a.s.now a.second a.offset) c.in_err-two_digits-4.ensures.value

pub returns-in_err-two_digits-5 : goal.returns-in_err-two_digits-5
unfolding utc_with
returns-in_err-two_digits-5 c =
    let a = c.args in
    c.from_residual-in_err-two_digits-5.ensures ∙ no_minute (utc_with a.s.now a.second a.offset) c.in_err-two_digits-5.ensures.value

pub returns : goal.returns
returns c =
    let a = c.args in
    c.if_date.ensures
    ∙ ap kept
    (utc_with_lem a.s.now _ _ _ _ _ a.second a.offset _ c.in_ok-two_digits.ensures.value c.in_ok-two_digits-2.ensures.value
    c.in_ok-two_digits-3.ensures.value c.in_ok-two_digits-4.ensures.value c.in_ok-two_digits-5.ensures.value
    (to_z-of_z w32 a.offset c.ranges.offset))
