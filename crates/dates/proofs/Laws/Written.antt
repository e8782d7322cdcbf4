-- Laws of writing dates.
-- Assumes nothing.
use mathlib.Core.Path.{◌≡◌, refl}
use mathlib.Core.Bool.{true}
use mathlib.Core.List.{[], ◌∷◌, ◌++◌}
use Prim.Native.Nat.{ℕ, ◌≤◌}
use native.Mathlib.Omega.{arith}
use lib.IntN.{ℤ}
use lib.ListN.{length, length-append}
use Rattle.dates.specs.Write.{date_second_text, two, utc_second_text, zone_text}
use Rattle.std.specs.Prelude.{Option, None, Some}
use Rattle.date_read.specs.Date.{is_date}
use Rattle.date_read.specs.declared.date.DateTime.{DateTime}
use Rattle.dates.proofs.Laws.Bounds.{bounds}
use Rattle.date_read.proofs.Laws.Month.{month_length, name_of}

pub two-length : (n : ℕ) → length (two n) ≡ 2
unfolding two
two-length n = refl

pub zone_length : (z : ℤ) → length (zone_text z) ≡ 5
unfolding zone_text two
zone_length z = refl

pub utc_second_length : (s : Option ℕ) → length (utc_second_text s) ≤ 2
unfolding utc_second_text two
utc_second_length (Some n) = omega arith
utc_second_length None = omega arith

pub date_second_length : (s : Option ℕ) → length (date_second_text s) ≤ 3
unfolding date_second_text two
date_second_length (Some n) = omega arith
date_second_length None = omega arith

pub utc_day_length : (y m d : ℕ) → length (two y ++ two m ++ two d) ≡ 6
unfolding two
utc_day_length y m d = refl

pub behind-length : (b n : ℕ) → length (b ∷ two n) ≡ 3
unfolding two
behind-length b n = refl

-- the day, month and year of a date-time
pub date_day_length : (d : DateTime) → is_date d ≡ true → length (two d.day ++ (32 ∷ []) ++ name_of d.month ++ (32 ∷ two d.year)) ≡ 9
date_day_length d h =
    let m = (bounds d h).month in
    let a = two d.day in
    let n = name_of d.month in
    omega (arith, length-append (a ++ (32 ∷ []) ++ n) (32 ∷ two d.year), length-append (a ++ (32 ∷ [])) n, length-append a (32 ∷ []), two-length d.day, month_length d.month m.0 m.1, behind-length 32 d.year)
