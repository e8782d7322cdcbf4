-- `date_read::read::offset_of` meets its contract.
-- Assumes nothing.
use native.Mathlib.Omega.{arith}
use Rattle.date_read.proofs.Laws.Read.{good_offset, late_hours, late_minutes, minus_sign, not_five, not_signed, plus_sign}
use Rattle.date_read.proofs.read.offset_of.Goals as goal
use Rattle.date_read.proofs.read.offset_of.Goals.{else-sign-ne43-via-then-sign-ne43+else-sign-ne45, else-sign-ne43-via-else-sign-ne43}
use Rattle.date_read.proofs.read.offset_of.Goals.{then-hours-gt-LAST_HOUR-via-then-hours-gt-LAST_HOUR, then-hours-gt-LAST_HOUR-via-else-hours-gt-LAST_HOUR+then-minutes-gt-LAST_MINUTE}

pub returns-then-s-ne5 : goal.returns-then-s-ne5
returns-then-s-ne5 c = not_five c.args.s.now c.if-s-ne5.true

pub returns-then-sign-ne45 : goal.returns-then-sign-ne45
returns-then-sign-ne45 c = not_signed c.args.s.now c.if-sign-ne43.true c.if-sign-ne45.true

pub returns-in_err-hours : goal.returns-in_err-hours
returns-in_err-hours c = rw c.from_residual.ensures (late_hours c.args.s.now (omega (arith, c.in_err-hours.ensures.value)))

pub returns-in_err-minutes : goal.returns-in_err-minutes
returns-in_err-minutes c =
    rw c.from_residual-in_err-minutes.ensures (late_minutes c.args.s.now (omega (arith, c.in_err-minutes.ensures.value)))

pub returns-then-hours-gt-LAST_HOUR : goal.returns-then-hours-gt-LAST_HOUR
returns-then-hours-gt-LAST_HOUR c =
    let s = c.args.s.now in
    elim c.then-hours-gt-LAST_HOUR.branch [
      | then-hours-gt-LAST_HOUR-via-then-hours-gt-LAST_HOUR w ↦ late_hours s (omega (arith, c.in_ok-hours.ensures.value))
      | then-hours-gt-LAST_HOUR-via-else-hours-gt-LAST_HOUR+then-minutes-gt-LAST_MINUTE w ↦ late_minutes s (omega (arith, c.in_ok-minutes.ensures.value))
    ]

pub returns : goal.returns
returns c =
    good_offset c.args.s.now _ _ _ c.if-s-ne5.false
    (elim c.else-sign-ne43.branch [
      | else-sign-ne43-via-then-sign-ne43+else-sign-ne45 w ↦ minus_sign _ w.if-sign-ne45.false
      | else-sign-ne43-via-else-sign-ne43 w ↦ plus_sign _ w.if-sign-ne43.false
    ])
    c.in_ok-hours.ensures.value c.in_ok-minutes.ensures.value c.if-hours-gt-LAST_HOUR.false c.if-minutes-gt-LAST_MINUTE.false c.signed_minutes.ensures
