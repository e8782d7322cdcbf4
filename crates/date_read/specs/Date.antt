-- Request 6: a date and time with its zone's offset, and which of them there are.
-- Assumes nothing.
use Rattle.std.specs.Prelude.{Option, None, Some, Bool, true, ◌&&◌, cond, List, [], ◌∷◌, ℕ, ◌%◌, eqb, leb, nat_abs, get_or}
use Rattle.date_read.specs.declared.date.DateTime.{DateTime}

-- the months are numbered from 1 to this
abbrev pub last_month : ℕ
last_month = 12

-- the days of each month in a year that is no leap year, by the month's number; of no month, none
abbrev pub month_days : List ℕ
month_days = 0 ∷ 31 ∷ 28 ∷ 31 ∷ 30 ∷ 31 ∷ 30 ∷ 31 ∷ 31 ∷ 30 ∷ 31 ∷ 30 ∷ 31 ∷ []

-- "29 February by the year, two digits in both forms, divisible by four"
unfoldable pub days_in : ℕ → ℕ → ℕ
days_in year month = cond (eqb month 2 && eqb (year % 4) 0) 29 (get_or month_days month 0)

-- "Seconds are 00 to 59 and stay absent if absent."
unfoldable pub is_second : Option ℕ → Bool
is_second (Some n) = leb n 59
is_second None = true

-- the greatest offset: "Offset hours are 00 to 23, minutes 00 to 59"
abbrev pub most_offset : ℕ
most_offset = 1439

-- "two digits in both forms"; "Days are checked against the month"
unfoldable pub is_day : ℕ → ℕ → ℕ → Bool
unfolding days_in
is_day year month day = leb year 99 && leb 1 day && leb day (days_in year month)

unfoldable pub is_time : ℕ → ℕ → Option ℕ → Bool
unfolding is_second
is_time hour minute second = leb hour 23 && leb minute 59 && is_second second

-- A date that there is.
unfoldable pub is_date : DateTime → Bool
unfolding is_day is_time
is_date d = is_day d.year d.month d.day && is_time d.hour d.minute d.second && leb (nat_abs d.offset) most_offset
