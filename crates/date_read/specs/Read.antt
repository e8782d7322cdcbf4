-- Request 6: X.400's UTCTime and RFC 822's date-time, read. A number that is not there counts as 100, an offset that is not there as 1,440
-- minutes, and a month as 0: no date has any of them, so that one test decides.
-- Assumes nothing.
use Rattle.std.specs.Prelude.{Option, None, Some, Bool, ◌&&◌, ◌||◌, not, cond, List, [], ◌∷◌, ℕ, suc, ◌+◌, ◌-◌, ◌*◌, eqb, leb, ℤ, pos, neg_ℤ, length, get_or, take, drop}
use Rattle.chars.specs.Case.{same_text}
use Rattle.chars.specs.Class.{is_digit}
use Rattle.chars.specs.Lists.{bytes}
use Rattle.date_read.specs.Date.{is_date}
use Rattle.date_read.specs.declared.date.DateTime.{DateTime}

-- ---- numbers and names

abbrev pub no_number : ℕ
no_number = 100

-- the last place at which a number stands in either form: the seconds behind the day of a date-time
abbrev pub last_place : ℕ
last_place = 14

-- the number that one digit at a place spells, and that two spell
unfoldable pub one_digit : List ℕ → ℕ → ℕ
unfolding is_digit
one_digit s k = cond (is_digit (get_or s k 0)) (get_or s k 0 - 48) no_number

unfoldable pub two_digits : List ℕ → ℕ → ℕ
unfolding is_digit
two_digits s k =
    cond (is_digit (get_or s k 0) && is_digit (get_or s (k + 1) 0))
    ((get_or s k 0 - 48) * 10 + (get_or s (k + 1) 0 - 48)) no_number

-- RFC 822 section 5.1: the names of the months
abbrev pub month_names : List (List ℕ)
unfolding bytes
month_names =
    bytes "Jan" ∷ bytes "Feb" ∷ bytes "Mar" ∷ bytes "Apr" ∷ bytes "May" ∷ bytes "Jun" ∷ bytes "Jul" ∷ bytes "Aug" ∷ bytes "Sep" ∷ bytes "Oct"
    ∷ bytes "Nov" ∷ bytes "Dec" ∷ []

-- "A day name may be read, must be one of the seven"
abbrev pub day_names : List (List ℕ)
unfolding bytes
day_names = bytes "Mon" ∷ bytes "Tue" ∷ bytes "Wed" ∷ bytes "Thu" ∷ bytes "Fri" ∷ bytes "Sat" ∷ bytes "Sun" ∷ []

-- the number, from 1, of the first of the names that a text is, "Letters are compared case aside"; 0 where it is none
unfoldable pub number_in : ℕ → List (List ℕ) → List ℕ → ℕ
unfolding same_text
number_in k [] s = 0
number_in k (n ∷ ns) s = cond (same_text n s) k (number_in (suc k) ns s)

-- ---- the zone

abbrev pub no_offset : ℤ
no_offset = pos 1440

-- a sign and four digits: "Offset hours are 00 to 23, minutes 00 to 59, and `-0330` is minus 210"
unfoldable pub signed : Bool → ℕ → ℤ
signed minus n = cond minus (neg_ℤ (pos n)) (pos n)

unfoldable pub offset_of : List ℕ → ℤ
unfolding signed two_digits
offset_of s =
    cond (eqb (length s) 5 && (eqb (get_or s 0 0) 43 || eqb (get_or s 0 0) 45) && leb (two_digits s 1) 23 && leb (two_digits s 3) 59)
    (signed (eqb (get_or s 0 0) 45) (two_digits s 1 * 60 + two_digits s 3)) no_offset

-- a zone by one of these names, or by its offset
unfoldable pub zone_of : List (List ℕ) → List ℕ → ℤ
unfolding number_in offset_of
zone_of names s = cond (eqb (number_in 1 names s) 0) (offset_of s) (pos 0)

-- "X.400's `Z`, the names `GMT` and `UT`": the one is read in UTCTime alone, the others in date-time alone (a choice: docs/DECISIONS.md)
abbrev pub utc_names : List (List ℕ)
unfolding bytes
utc_names = bytes "Z" ∷ []

abbrev pub date_names : List (List ℕ)
unfolding bytes
date_names = bytes "GMT" ∷ bytes "UT" ∷ []

-- ---- UTCTime: two digits each of year, month, day, hour and minute, perhaps of the second, and a zone

-- seconds are there where a digit follows the minutes
unfoldable pub utc_end : List ℕ → ℕ
unfolding is_digit
utc_end s = cond (is_digit (get_or s 10 0)) 12 10

unfoldable pub utc_with : List ℕ → Option ℕ → ℤ → DateTime
unfolding two_digits
utc_with s second offset =
    record {
      year = two_digits s 0;
      month = two_digits s 2;
      day = two_digits s 4;
      hour = two_digits s 6;
      minute = two_digits s 8;
      second = second;
      offset = offset;
    }

unfoldable pub utc_date : List ℕ → DateTime
unfolding two_digits utc_end utc_with zone_of
utc_date s = utc_with s (cond (eqb (utc_end s) 12) (Some (two_digits s 10)) None) (zone_of utc_names (drop (utc_end s) s))

unfoldable pub kept : DateTime → Option DateTime
unfolding is_date
kept d = cond (is_date d) (Some d) None

unfoldable pub read_utc : List ℕ → Option DateTime
unfolding kept utc_date
read_utc s = kept (utc_date s)

-- ---- date-time, RFC 822 section 5.1: perhaps a day name and a comma; day, month name, year of two digits, hour, minute, perhaps second, zone.
-- "Parts stand one space apart"

-- "the day in one or two digits"; what stands behind it begins as ` Mon YY hh:mm`, and seconds are there where a colon follows
unfoldable pub rest_end : List ℕ → ℕ
rest_end r = cond (eqb (get_or r 13 0) 58) 16 13

-- the spaces and the colon stand where they should
unfoldable pub spaced_at : List ℕ → ℕ → Bool
spaced_at r end = eqb (get_or r 0 0) 32 && eqb (get_or r 4 0) 32 && eqb (get_or r 7 0) 32 && eqb (get_or r 10 0) 58 && eqb (get_or r end 0) 32

unfoldable pub rest_with : List ℕ → ℕ → Option ℕ → ℤ → DateTime
unfolding number_in two_digits
rest_with r day second offset =
    record {
      year = two_digits r 5;
      month = number_in 1 month_names (take 3 (drop 1 r));
      day = day;
      hour = two_digits r 8;
      minute = two_digits r 11;
      second = second;
      offset = offset;
    }

unfoldable pub rest_date : ℕ → List ℕ → DateTime
unfolding two_digits rest_end rest_with zone_of
rest_date day r = rest_with r day (cond (eqb (rest_end r) 16) (Some (two_digits r 14)) None) (zone_of date_names (drop (rest_end r + 1) r))

unfoldable pub read_rest : ℕ → List ℕ → Option DateTime
unfolding spaced_at rest_end kept rest_date
read_rest day r = cond (spaced_at r (rest_end r)) (kept (rest_date day r)) None

unfoldable pub read_body : List ℕ → Option DateTime
unfolding read_rest one_digit two_digits
read_body b = cond (eqb (get_or b 1 0) 32) (read_rest (one_digit b 0) (drop 1 b)) (read_rest (two_digits b 0) (drop 2 b))

-- a comma behind three bytes is a day name's: "must be one of the seven, whatever the date", and a space stands behind it
unfoldable pub read_date : List ℕ → Option DateTime
unfolding read_body number_in
read_date s =
    cond (eqb (get_or s 3 0) 44)
    (cond (eqb (get_or s 4 0) 32 && not (eqb (number_in 1 day_names (take 3 s)) 0)) (read_body (drop 5 s)) None)
    (read_body s)
