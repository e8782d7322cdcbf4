-- `date_read::read::read_utc` meets its contract.
-- Assumes nothing.
use mathlib.Core.Path.{◌∙◌, ap}
use Rattle.chars.specs.Lists.{bytes}
use Rattle.date_read.specs.Read.{utc_names, zone_of}
use Rattle.date_read.proofs.Laws.Read.{second_absent, second_told, utc_read, utc_secondless, utc_zoneless}
use Rattle.date_read.proofs.read.read_utc.Goals as goal
use Rattle.date_read.proofs.read.read_utc.Goals.{then-end-eq12+in_ok-two_digits, else-end-eq12}

pub returns-in_err-two_digits : goal.returns-in_err-two_digits
returns-in_err-two_digits c =
    c.from_residual.ensures ∙ utc_secondless c.args.s.now _ c.utc_end-end.ensures c.if-end-eq12.true c.in_err-two_digits.ensures.value

pub returns-in_err-offset : goal.returns-in_err-offset
unfolding bytes
returns-in_err-offset c =
    c.from_residual-in_err-offset.ensures
    ∙ utc_zoneless c.args.s.now _ c.utc_end-end.ensures (c.in_err-offset.ensures ∙ ap (zone_of utc_names) c.behind.ensures)

pub returns : goal.returns
unfolding bytes
returns c =
    c.utc_with.ensures
    ∙ utc_read c.args.s.now _ c.utc_end-end.ensures c.if-end-eq12.second c.in_ok-offset.offset
    (elim c.if-end-eq12.branch [
      | then-end-eq12+in_ok-two_digits w ↦ second_told _ _ _ _ 12 w.if-end-eq12.true w.in_ok-two_digits.ensures.value w.second-is
      | else-end-eq12 w ↦ second_absent _ _ _ 12 w.if-end-eq12.false w.second-is
    ])
    (c.in_ok-offset.ensures ∙ ap (zone_of utc_names) c.behind.ensures)
