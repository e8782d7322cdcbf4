-- `date_read::read::read_rest` meets its contract.
-- Assumes nothing.
use mathlib.Core.Path.{◌∙◌, ap}
use Rattle.chars.specs.Lists.{bytes}
use Rattle.date_read.specs.Read.{date_names, zone_of}
use Rattle.date_read.proofs.Laws.Read.{end-most, second_absent, second_told, rest_read, rest_secondless, rest_unspaced, rest_zoneless}
use borrow.Author.Rules.{rules}
use mathlib.Core.Path.{sym}
use Rattle.date_read.proofs.read.read_rest.Goals as goal
use Rattle.date_read.proofs.read.read_rest.Goals.{then-end-eq16+in_ok-two_digits, else-end-eq16}

pub returns-then-not-is_spaced : goal.returns-then-not-is_spaced
returns-then-not-is_spaced c =
    rest_unspaced c.args.r.now c.args.day _ c.rest_end-end.ensures (sym c.is_spaced.ensures ∙ c.if-not-is_spaced.true)

pub returns-in_err-two_digits : goal.returns-in_err-two_digits
returns-in_err-two_digits c =
    c.from_residual.ensures
    ∙ rest_secondless c.args.r.now c.args.day _ c.rest_end-end.ensures c.if-end-eq16.true c.in_err-two_digits.ensures.value

pub overflow_add-end : goal.overflow_add-end
overflow_add-end c = search (rules, end-most c.args.r.now, c.rest_end-end.ensures)

pub returns-in_err-offset : goal.returns-in_err-offset
unfolding bytes
returns-in_err-offset c =
    c.from_residual-in_err-offset.ensures
    ∙ rest_zoneless c.args.r.now c.args.day _ c.rest_end-end.ensures (c.in_err-offset.ensures ∙ ap (zone_of date_names) c.behind.ensures)

pub returns : goal.returns
unfolding bytes
returns c =
    c.rest_with.ensures
    ∙ rest_read c.args.r.now c.args.day _ c.rest_end-end.ensures c.if-end-eq16.second c.in_ok-offset.offset
    (sym c.is_spaced.ensures ∙ c.if-not-is_spaced.false)
    (elim c.if-end-eq16.branch [
      | then-end-eq16+in_ok-two_digits w ↦ second_told _ _ _ _ 16 w.if-end-eq16.true w.in_ok-two_digits.ensures.value w.second-is
      | else-end-eq16 w ↦ second_absent _ _ _ 16 w.if-end-eq16.false w.second-is
    ])
    (c.in_ok-offset.ensures ∙ ap (zone_of date_names) c.behind.ensures)
