-- Request 6: a date written as X.400's UTCTime and as RFC 822's date-time.
-- Assumes nothing.
use Rattle.std.specs.Prelude.{Option, None, Some, cond, List, [], ◌∷◌, ◌++◌, ℕ, ◌+◌, ◌-◌, ◌/◌, ◌%◌, ℤ, nat_abs, get_or}
use Rattle.std.specs.Int.Signed.{non_neg}
use Rattle.date_read.specs.Read.{month_names}
use Rattle.date_read.specs.declared.date.DateTime.{DateTime}

-- the last two digits of a number: all of it, in a date
unfoldable pub two : ℕ → List ℕ
two n = (48 + n / 10 % 10) ∷ (48 + n % 10) ∷ []

-- room for a date in either form
abbrev pub date_room : ℕ
date_room = 32

abbrev pub sign_of : ℤ → ℕ
sign_of z = cond (non_neg z) 43 45

-- "always written `+0000`"; "never normalised"
unfoldable pub zone_text : ℤ → List ℕ
unfolding two
zone_text z = sign_of z ∷ two (nat_abs z / 60) ++ two (nat_abs z % 60)

-- "Seconds .. stay absent if absent"
unfoldable pub utc_second_text : Option ℕ → List ℕ
unfolding two
utc_second_text (Some n) = two n
utc_second_text None = []

unfoldable pub utc_text : DateTime → List ℕ
unfolding two utc_second_text zone_text
utc_text d =
    two d.year ++ two d.month ++ two d.day ++ two d.hour ++ two d.minute ++ utc_second_text d.second ++ zone_text d.offset

unfoldable pub date_second_text : Option ℕ → List ℕ
unfolding two
date_second_text (Some n) = 58 ∷ two n
date_second_text None = []

-- a day name "is not written"; "two when written"
unfoldable pub date_text : DateTime → List ℕ
unfolding two date_second_text zone_text
date_text d =
    two d.day ++ (32 ∷ []) ++ get_or month_names (d.month - 1) [] ++ (32 ∷ two d.year) ++ (32 ∷ two d.hour) ++ (58 ∷ two d.minute)
    ++ date_second_text d.second ++ (32 ∷ []) ++ zone_text d.offset
