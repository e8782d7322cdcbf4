-- What a date's numbers are within.
-- Assumes nothing.
use mathlib.Core.Path.{◌≡◌}
use mathlib.Core.Bool.{true}
use Prim.Native.Nat.{ℕ, ◌≤◌}
use native.Mathlib.Omega.{arith}
use borrow.Author.Tests.{eqb-true, leb-true, ltb-false, ltb-true}
use lib.Dec.{eqb, leb, ltb}
use lib.IntN.{nat_abs}
use lib.ListN.{get_or, get_or-eq_default}
use Rattle.chars.proofs.Laws.Lists.{and-three, by_test}
use Rattle.date_read.proofs.Laws.Date.{days_most}
use Rattle.date_read.specs.Date.{days_in, is_date, is_day, is_second, is_time, last_month, month_days, most_offset}
use Rattle.date_read.specs.declared.date.DateTime.{DateTime}

-- a month that has days is one of twelve
months : (y m : ℕ) → 1 ≤ days_in y m → (1 ≤ m) × (m ≤ last_month)
unfolding days_in
months y m h =
    by_test (eqb m 2)
    (λ e. let z : m ≡ 2 = eqb-true m 2 e in (omega arith, omega arith))
    (λ e.
    let k : 1 ≤ get_or month_days m 0 = rw e at h in
    by_test (ltb last_month m)
    (λ g. let z : get_or month_days m 0 ≡ 0 = get_or-eq_default month_days 0 (ltb-true last_month m g) in absurd (omega arith))
    (λ g.
    by_test (ltb 0 m)
    (λ f. (ltb-true 0 m f, ltb-false last_month m g))
    (λ f. let z : m ≡ 0 = omega (arith, ltb-false 0 m f) in let w : 1 ≤ 0 = rw z at k in absurd (omega arith))))

-- A date's numbers, each within its bounds.
pub record Bounds (d : DateTime) : Type 0 where
  pub year : d.year ≤ 99
  pub month : (1 ≤ d.month) × (d.month ≤ last_month)
  pub day : d.day ≤ 99
  pub hour : d.hour ≤ 99
  pub minute : d.minute ≤ 99
  pub second : is_second d.second ≡ true
  pub offset : nat_abs d.offset ≤ most_offset

pub bounds : (d : DateTime) → is_date d ≡ true → Bounds d
unfolding is_date is_day is_time
bounds d h =
    let days = days_in d.year d.month in
    let whole = and-three (is_day d.year d.month d.day) (is_time d.hour d.minute d.second) (leb (nat_abs d.offset) most_offset) h in
    let days-part = and-three (leb d.year 99) (leb 1 d.day) (leb d.day days) whole.0 in
    let time-part = and-three (leb d.hour 23) (leb d.minute 59) (is_second d.second) whole.1 in
    let low = leb-true 1 d.day days-part.1 in
    let high = leb-true d.day days days-part.2 in
    record {
      year = leb-true d.year 99 days-part.0;
      month = months d.year d.month (omega (arith, low, high));
      day = omega (arith, high, days_most d.year d.month);
      hour = omega (arith, leb-true d.hour 23 time-part.0);
      minute = omega (arith, leb-true d.minute 59 time-part.1);
      second = time-part.2;
      offset = leb-true (nat_abs d.offset) most_offset whole.2;
    }
