-- Reading what was written, in either form, gives the same date, time and offset, for every date that there is; so going out to either form
-- and back does too.
-- Assumes nothing.
use mathlib.Core.Path.{◌≡◌, refl, sym, ap, ◌∙◌}
use mathlib.Core.Bool.{true, false, cond}
use mathlib.Core.List.{List, [], ◌∷◌, ◌++◌}
use Prim.Native.Nat.{ℕ, suc, ◌+◌, ◌-◌, ◌*◌, ◌/◌, ◌%◌, ◌≤◌}
use native.Mathlib.Omega.{arith}
use borrow.Author.Tests.{le-leb, leb-true, ne_eqb}
use lib.Dec.{eqb}
use lib.IntN.{ℤ, pos, negsuc, nat_abs}
use lib.ListN.{length, get_or, take, drop}
use lib.Signed.{non_neg}
use Rattle.chars.specs.Case.{same_text}
use Rattle.chars.specs.Class.{between, is_digit}
use Rattle.chars.proofs.Laws.Case.{same_length}
use Rattle.chars.proofs.Laws.Lists.{and_both, by_test}
use Rattle.std.specs.Prelude.{Option, None, Some}
use Rattle.date_read.specs.Date.{is_date, is_second, most_offset}
use Rattle.date_read.specs.Read.{date_names, kept, month_names, number_in, offset_of, read_body, read_date, read_rest, read_utc, rest_date, rest_end, rest_with, signed, spaced_at, two_digits, utc_date, utc_end, utc_names, utc_with, zone_of}
use Rattle.dates.specs.Write.{date_second_text, date_text, two, utc_second_text, utc_text, zone_text}
use Rattle.date_read.specs.declared.date.DateTime.{DateTime}
use Rattle.dates.proofs.Laws.Convert.{date_date, utc_date_lem}
use Rattle.dates.proofs.Laws.Bounds.{Bounds, bounds}
use Rattle.date_read.proofs.Laws.Month.{date_unnamed, month_first, month_length, month_number, name_of, utc_unnamed}
use Rattle.dates.proofs.Laws.Written.{zone_length}

-- ---- digits

digit_is : (x : ℕ) → x ≤ 9 → is_digit (48 + x) ≡ true
unfolding is_digit between
digit_is x h = and_both (le-leb 48 (48 + x) (omega arith)) (le-leb (48 + x) 57 (omega arith))

-- two digits read back as the number
digits_back : (s : List ℕ) (k n : ℕ) → n ≤ 99 → get_or s k 0 ≡ 48 + n / 10 % 10 → get_or s (k + 1) 0 ≡ 48 + n % 10 → two_digits s k ≡ n
unfolding two_digits
digits_back s k n h a b =
    let e : (48 + n / 10 % 10 - 48) * 10 + (48 + n % 10 - 48) ≡ n = omega arith in
    rw (a, b, digit_is (n / 10 % 10) (omega arith), digit_is (n % 10) (omega arith)) e

-- ---- the zone

zone_minutes : (z : ℤ) → nat_abs z ≤ most_offset → offset_of (zone_text z) ≡ z
unfolding offset_of zone_text two signed
zone_minutes (pos n) h =
    let a : two_digits (zone_text (pos n)) 1 ≡ n / 60 = digits_back (zone_text (pos n)) 1 (n / 60) (omega arith) refl refl in
    let b : two_digits (zone_text (pos n)) 3 ≡ n % 60 = digits_back (zone_text (pos n)) 3 (n % 60) (omega arith) refl refl in
    let e : n / 60 * 60 + n % 60 ≡ n = omega arith in
    rw (a, b, le-leb (n / 60) 23 (omega arith), le-leb (n % 60) 59 (omega arith)) (ap pos e)
zone_minutes (negsuc n) h =
    let m : ℕ = suc n in
    let a : two_digits (zone_text (negsuc n)) 1 ≡ m / 60 = digits_back (zone_text (negsuc n)) 1 (m / 60) (omega arith) refl refl in
    let b : two_digits (zone_text (negsuc n)) 3 ≡ m % 60 = digits_back (zone_text (negsuc n)) 3 (m % 60) (omega arith) refl refl in
    let e : m / 60 * 60 + m % 60 ≡ suc n = omega arith in
    rw (a, b, le-leb (m / 60) 23 (omega arith), le-leb (m % 60) 59 (omega arith), e)

zone_utc : (z : ℤ) → nat_abs z ≤ most_offset → zone_of utc_names (zone_text z) ≡ z
zone_utc z h = utc_unnamed (zone_text z) (λ e. let l = zone_length z in absurd (omega arith)) ∙ zone_minutes z h

zone_date : (z : ℤ) → nat_abs z ≤ most_offset → zone_of date_names (zone_text z) ≡ z
zone_date z h =
    let l = zone_length z in
    date_unnamed (zone_text z) (λ e. absurd (omega arith)) (λ e. absurd (omega arith)) ∙ zone_minutes z h

-- ---- UTCTime

module _ (y m d hh mm : ℕ) (z : ℤ) where
  abbrev dated : Option ℕ → DateTime
  dated s = record { year = y; month = m; day = d; hour = hh; minute = mm; second = s; offset = z }

  -- the numbers that a text spells
  utc_numbers : (s : List ℕ) (x x' : Option ℕ) (w : ℤ) → two_digits s 0 ≡ y → two_digits s 2 ≡ m → two_digits s 4 ≡ d → two_digits s 6 ≡ hh → two_digits s 8 ≡ mm
      → x ≡ x' → w ≡ z → utc_with s x w ≡ dated x'
  unfolding utc_with
  utc_numbers s x x' w a b c e f g i = rw (a, b, c, e, f, g, i)

  -- with its seconds ending at a place
  utc_ending : (s : List ℕ) (k : ℕ) → utc_end s ≡ k → utc_date s ≡ utc_with s (cond (eqb k 12) (Some (two_digits s 10)) None) (zone_of utc_names (drop k s))
  unfolding utc_date
  utc_ending s k e = ap (λ (j : ℕ). utc_with s (cond (eqb j 12) (Some (two_digits s 10)) None) (zone_of utc_names (drop j s))) e

  told-end : (n : ℕ) → n ≤ 59 → utc_end (utc_text (dated (Some n))) ≡ 12
  unfolding utc_end utc_text utc_second_text two zone_text
  told-end n h = rw (digit_is (n / 10 % 10) (omega arith))

  absent-end : utc_end (utc_text (dated None)) ≡ 10
  unfolding utc_end utc_text utc_second_text two zone_text is_digit between
  absent-end = by_test (non_neg z) (λ e. rw e) (λ e. rw e)

  utc_at : (s : Option ℕ) → Bounds (dated s) → utc_date (utc_text (dated s)) ≡ dated s
  unfolding utc_text utc_second_text two zone_text is_second
  utc_at (Some n) b =
      let s : List ℕ = utc_text (dated (Some n)) in
      let k : n ≤ 59 = leb-true n 59 b.second in
      utc_ending s 12 (told-end n k)
      ∙ utc_numbers s (Some (two_digits s 10)) (Some n) (zone_of utc_names (drop 12 s)) (digits_back s 0 y b.year refl refl) (digits_back s 2 m (omega (arith, b.month.1)) refl refl) (digits_back s 4 d b.day refl refl) (digits_back s 6 hh b.hour refl refl) (digits_back s 8 mm b.minute refl refl)
      (ap (λ (i : ℕ). Some i) (digits_back s 10 n (omega arith) refl refl)) (zone_utc z b.offset)
  utc_at None b =
      let s : List ℕ = utc_text (dated None) in
      utc_ending s 10 absent-end
      ∙ utc_numbers s None None (zone_of utc_names (drop 10 s)) (digits_back s 0 y b.year refl refl) (digits_back s 2 m (omega (arith, b.month.1)) refl refl) (digits_back s 4 d b.day refl refl) (digits_back s 6 hh b.hour refl refl) (digits_back s 8 mm b.minute refl refl)
      refl (zone_utc z b.offset)

kept_is : (d : DateTime) → is_date d ≡ true → kept d ≡ Some d
unfolding kept
kept_is d h = rw h

pub utc_back : (d : DateTime) → is_date d ≡ true → read_utc (utc_text d) ≡ Some d
unfolding read_utc
utc_back d h = ap kept (utc_at d.year d.month d.day d.hour d.minute d.offset d.second (bounds d h)) ∙ kept_is d h

-- ---- date-time

-- three letters, one by one
three_letters : (n : List ℕ) → length n ≡ 3 → n ≡ get_or n 0 0 ∷ get_or n 1 0 ∷ get_or n 2 0 ∷ []
three_letters [] h = absurd (omega arith)
three_letters (a ∷ []) h = absurd (omega arith)
three_letters (a ∷ b ∷ []) h = absurd (omega arith)
three_letters (a ∷ b ∷ c ∷ []) h = refl
three_letters (a ∷ b ∷ c ∷ d ∷ s) h = absurd (omega arith)

-- a date-time with its month's name letter by letter
abbrev spelled : ℕ → ℕ → ℕ → DateTime → List ℕ
spelled a b c d =
    two d.day ++ (32 ∷ []) ++ (a ∷ b ∷ c ∷ []) ++ (32 ∷ two d.year) ++ (32 ∷ two d.hour) ++ (58 ∷ two d.minute)
    ++ date_second_text d.second ++ (32 ∷ []) ++ zone_text d.offset

module _ (y m d hh mm : ℕ) (z : ℤ) where
  date_numbers : (r : List ℕ) (x x' : Option ℕ) (w : ℤ) → two_digits r 5 ≡ y → number_in 1 month_names (take 3 (drop 1 r)) ≡ m → two_digits r 8 ≡ hh → two_digits r 11 ≡ mm
      → x ≡ x' → w ≡ z → rest_with r d x w ≡ dated y m d hh mm z x'
  unfolding rest_with
  date_numbers r x x' w a b c e f g = rw (a, b, c, e, f, g)

  module _ (a b c : ℕ) (i : number_in 1 month_names (a ∷ b ∷ c ∷ []) ≡ m) where
    abbrev text : Option ℕ → List ℕ
    text s = spelled a b c (dated y m d hh mm z s)

    rest_spaced : (s : Option ℕ) → read_rest d (drop 2 (text s)) ≡ kept (rest_date d (drop 2 (text s)))
    unfolding read_rest spaced_at rest_end two date_second_text zone_text
    rest_spaced (Some n) = refl
    rest_spaced None = refl

    rest_at : (s : Option ℕ) → Bounds (dated y m d hh mm z s) → rest_date d (drop 2 (text s)) ≡ dated y m d hh mm z s
    unfolding rest_date rest_end two date_second_text zone_text is_second
    rest_at (Some n) h =
        let r : List ℕ = drop 2 (text (Some n)) in
        let k : n ≤ 59 = leb-true n 59 h.second in
        date_numbers r (Some (two_digits r 14)) (Some n) (zone_of date_names (drop 17 r)) (digits_back r 5 y h.year refl refl) i (digits_back r 8 hh h.hour refl refl) (digits_back r 11 mm h.minute refl refl)
        (ap (λ (i : ℕ). Some i) (digits_back r 14 n (omega arith) refl refl)) (zone_date z h.offset)
    rest_at None h =
        let r : List ℕ = drop 2 (text None) in
        date_numbers r None None (zone_of date_names (drop 14 r)) (digits_back r 5 y h.year refl refl) i (digits_back r 8 hh h.hour refl refl) (digits_back r 11 mm h.minute refl refl)
        refl (zone_date z h.offset)

    day_at : (s : Option ℕ) → Bounds (dated y m d hh mm z s) → two_digits (text s) 0 ≡ d
    unfolding two
    day_at s h = digits_back (text s) 0 d h.day refl refl

    -- the day is two digits, and no day name stands before it
    body_at : (s : Option ℕ) → eqb a 44 ≡ false → read_date (text s) ≡ read_rest (two_digits (text s) 0) (drop 2 (text s))
    unfolding read_date read_body two
    body_at s e = rw (e, ne_eqb (48 + d % 10) 32 (λ q. absurd (omega arith)))

    date_at : (s : Option ℕ) → eqb a 44 ≡ false → Bounds (dated y m d hh mm z s) → read_date (text s) ≡ kept (dated y m d hh mm z s)
    date_at s e h =
        body_at s e ∙ ap (λ (n : ℕ). read_rest n (drop 2 (text s))) (day_at s h) ∙ rest_spaced s ∙ ap kept (rest_at s h)

pub date_back : (d : DateTime) → is_date d ≡ true → read_date (date_text d) ≡ Some d
unfolding date_text
date_back d h =
    let m = (bounds d h).month in
    let n = name_of d.month in
    let e : n ≡ get_or n 0 0 ∷ get_or n 1 0 ∷ get_or n 2 0 ∷ [] = three_letters n (month_length d.month m.0 m.1) in
    let i : number_in 1 month_names (get_or n 0 0 ∷ get_or n 1 0 ∷ get_or n 2 0 ∷ []) ≡ d.month = ap (number_in 1 month_names) (sym e) ∙ month_number d.month m.0 m.1 in
    ap (λ (x : List ℕ). read_date (two d.day ++ (32 ∷ []) ++ x ++ (32 ∷ two d.year) ++ (32 ∷ two d.hour) ++ (58 ∷ two d.minute) ++ date_second_text d.second ++ (32 ∷ []) ++ zone_text d.offset)) e
    ∙ date_at d.year d.month d.day d.hour d.minute d.offset (get_or n 0 0) (get_or n 1 0) (get_or n 2 0) i d.second (month_first d.month m.0 m.1) (bounds d h)
    ∙ kept_is d h

-- ---- out and back

-- a UTCTime that was read goes out as a date-time that reads as the same date, and the other way
pub utc_out : (s : List ℕ) (d : DateTime) → read_utc s ≡ Some d → read_date (date_text d) ≡ Some d
utc_out s d h = date_back d (utc_date_lem s d h)

pub date_out : (s : List ℕ) (d : DateTime) → read_date s ≡ Some d → read_utc (utc_text d) ≡ Some d
date_out s d h = utc_back d (date_date s d h)
