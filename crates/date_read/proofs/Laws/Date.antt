-- Days of a month, numbers that no date has, and an offset within a day.
-- Assumes nothing.
use mathlib.Core.Path.{◌≡◌, refl, sym}
use mathlib.Core.Bool.{true, false, ◌&&◌, and-false}
use Prim.Native.Nat.{ℕ, zero, suc, ◌%◌, ◌≤◌, ◌<◌, zero-le}
use native.Mathlib.Omega.{arith}
use lib.Dec.{eqb, leb, ltb}
use lib.IntN.{ℤ, pos, negsuc, nat_abs}
use lib.ListN.{get_or, get_or-eq_default}
use lib.Signed.{le_z, lt_z}
use borrow.Author.Tests.{le-leb, leb-true, lt-leb, ltb-false, ltb-true, ne_eqb}
use Rattle.chars.proofs.Laws.Lists.{by_test, true_not_false}
use Rattle.chars.proofs.Laws.Class.{on_range}
use Rattle.std.specs.Prelude.{None, Some}
use Rattle.date_read.specs.Date.{days_in, is_date, is_day, is_second, is_time, last_month, month_days, most_offset}
use Rattle.date_read.specs.Read.{kept, no_number, no_offset}
use Rattle.date_read.specs.declared.date.DateTime.{DateTime}

-- a month that there is not
pub no_month : (y m : ℕ) → last_month < m → 0 ≡ days_in y m
unfolding days_in
no_month y m h = rw (ne_eqb m 2 (λ e. omega arith)) (sym (get_or-eq_default month_days 0 h))

month_most : (m : ℕ) → get_or month_days m 0 ≤ 31
month_most m =
    by_test (ltb m 13)
    (λ e. leb-true (get_or month_days m 0) 31 (on_range (λ k. leb (get_or month_days k 0) 31) (λ _. true) 0 13 tt m zero-le (omega (arith, ltb-true m 13 e))))
    (λ e. let z : get_or month_days m 0 ≡ 0 = get_or-eq_default month_days 0 (ltb-false m 13 e) in omega arith)

pub days_most : (y m : ℕ) → days_in y m ≤ 31
unfolding days_in
days_most y m =
    by_test (eqb m 2 && eqb (y % 4) 0)
    (λ e. rw e (omega arith))
    (λ e. rw e (month_most m))

-- ---- a number that no date has

-- a day past the month's last one
no_day_in : (y m d : ℕ) → days_in y m < d → is_day y m d ≡ false
unfolding is_day
no_day_in y m d h = rw (lt-leb d (days_in y m) h, and-false)

-- a month with no day
no_days : (y m d : ℕ) → days_in y m ≡ 0 → is_day y m d ≡ false
unfolding is_day
no_days y m zero e = rw and-false
no_days y m (suc d) e = rw (e, lt-leb (suc d) 0 (omega arith), and-false)

module _ (d : DateTime) where
  refused : is_date d ≡ false → None ≡ kept d
  unfolding kept
  refused e = rw e

  undated : is_day d.year d.month d.day ≡ false → None ≡ kept d
  unfolding is_date
  undated e = refused (rw e)

  pub no_year : no_number ≡ d.year → None ≡ kept d
  unfolding is_day
  no_year e = undated (rw (lt-leb d.year 99 (omega arith)))

  pub no_day : no_number ≡ d.day → None ≡ kept d
  no_day e = undated (no_day_in d.year d.month d.day (omega (arith, days_most d.year d.month)))

  pub month_past : no_number ≡ d.month → None ≡ kept d
  month_past e = undated (no_days d.year d.month d.day (sym (no_month d.year d.month (omega arith))))

  pub month_unnamed : 0 ≡ d.month → None ≡ kept d
  unfolding days_in
  month_unnamed e = undated (no_days d.year d.month d.day (rw (← e)))

  untimed : is_time d.hour d.minute d.second ≡ false → None ≡ kept d
  unfolding is_date
  untimed e = refused (rw (e, and-false))

  pub no_hour : no_number ≡ d.hour → None ≡ kept d
  unfolding is_time
  no_hour e = untimed (rw (lt-leb d.hour 23 (omega arith)))

  pub no_minute : no_number ≡ d.minute → None ≡ kept d
  unfolding is_time
  no_minute e = untimed (rw (lt-leb d.minute 59 (omega arith), and-false))

  pub no_second : Some no_number ≡ d.second → None ≡ kept d
  unfolding is_time is_second
  no_second e = untimed (rw (← e, and-false))

  pub no_zone : no_offset ≡ d.offset → None ≡ kept d
  unfolding is_date
  no_zone e = refused (rw (← e, and-false))

-- a month but February
pub plain_month : (y m : ℕ) → (m ≡ 2 → ⊥) → get_or month_days m 0 ≡ days_in y m
unfolding days_in
plain_month y m h = rw (ne_eqb m 2 h)

-- an offset more than 1,439 minutes to the west is too far, and of any other the bound to the east decides
pub far_west : (z : ℤ) → lt_z z (negsuc 1438) ≡ true → false ≡ leb (nat_abs z) most_offset
far_west (pos n) h = true_not_false true refl (sym h)
far_west (negsuc n) h = sym (lt-leb (suc n) 1439 (omega (arith, ltb-true 1438 n h)))

pub not_far_west : (z : ℤ) → lt_z z (negsuc 1438) ≡ false → le_z z (pos 1439) ≡ leb (nat_abs z) most_offset
not_far_west (pos n) h = refl
not_far_west (negsuc n) h = sym (le-leb (suc n) 1439 (omega (arith, ltb-false 1438 n h)))
