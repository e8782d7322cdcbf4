-- Laws of converting: what is read is a date, and how long a text can be.
-- Assumes nothing.
use mathlib.Core.Path.{◌≡◌, sym, ap, ◌∙◌}
use mathlib.Core.Bool.{true, ◌&&◌, not}
use mathlib.Core.List.{List, [], ◌∷◌, ◌++◌}
use Prim.Native.Nat.{ℕ, ◌-◌, ◌≤◌}
use native.Mathlib.Omega.{arith}
use lib.Dec.{eqb, ltb}
use lib.ListN.{length, take, drop, get_or, length-append}
use Rattle.chars.proofs.Laws.Lists.{by_test}
use Rattle.std.specs.Prelude.{Option, None, Some, IfSome, Result, Ok, Err, IsErrAnd, ok_or}
use Rattle.chars.specs.Write.{placed_buffer, placed_size, placed_text, refused_text}
use Rattle.dates.specs.Answers.{told}
use Rattle.dates.specs.Convert.{converted}
use Rattle.dates.specs.declared.convert.DateFault.{DateFault}
use Rattle.dates.specs.declared.convert.DateFault.TheVariants.{NoDate, ShortBuffer}
use Rattle.date_read.specs.Date.{is_date}
use Rattle.date_read.specs.Read.{day_names, kept, month_names, number_in, one_digit, read_body, read_date, read_rest, read_utc, rest_date, rest_end, spaced_at, two_digits, utc_date}
use Rattle.dates.specs.Write.{date_room, date_second_text, date_text, two, utc_second_text, utc_text, zone_text}
use Rattle.date_read.specs.declared.date.DateTime.{DateTime}
use Rattle.dates.proofs.Laws.Written.{behind-length, date_day_length, date_second_length, two-length, utc_day_length, utc_second_length, zone_length}

-- ---- what is read is a date

no_date : {A : Type 0} (d : DateTime) → ◌≡◌ {A = Option DateTime} None (Some d) → A
no_date d h = absurd (cc)

kept_date : (x d : DateTime) → kept x ≡ Some d → is_date d ≡ true
unfolding kept
kept_date x d h =
    by_test (is_date x)
    (λ e. let k : ◌≡◌ {A = Option DateTime} (Some x) (Some d) = rw e at h in let q : x ≡ d = cc in ap is_date (sym q) ∙ e)
    (λ e. no_date d (rw e at h))

pub utc_date_lem : (s : List ℕ) (d : DateTime) → read_utc s ≡ Some d → is_date d ≡ true
unfolding read_utc
utc_date_lem s d h = kept_date (utc_date s) d h

rest_date_lem : (n : ℕ) (r : List ℕ) (d : DateTime) → read_rest n r ≡ Some d → is_date d ≡ true
unfolding read_rest
rest_date_lem n r d h =
    by_test (spaced_at r (rest_end r))
    (λ e. kept_date (rest_date n r) d (rw e at h))
    (λ e. no_date d (rw e at h))

body_date : (b : List ℕ) (d : DateTime) → read_body b ≡ Some d → is_date d ≡ true
unfolding read_body
body_date b d h =
    by_test (eqb (get_or b 1 0) 32)
    (λ e. rest_date_lem (one_digit b 0) (drop 1 b) d (rw e at h))
    (λ e. rest_date_lem (two_digits b 0) (drop 2 b) d (rw e at h))

pub date_date : (s : List ℕ) (d : DateTime) → read_date s ≡ Some d → is_date d ≡ true
unfolding read_date
date_date s d h =
    by_test (eqb (get_or s 3 0) 44)
    (λ e.
    by_test (eqb (get_or s 4 0) 32 && not (eqb (number_in 1 day_names (take 3 s)) 0))
    (λ f. body_date (drop 5 s) d (rw (e, f) at h))
    (λ f. no_date d (rw (e, f) at h)))
    (λ e. body_date s d (rw e at h))

-- ---- how long a text can be

pub utc_length : (d : DateTime) → length (utc_text d) ≤ date_room
unfolding utc_text
utc_length d =
    let a = two d.year ++ two d.month ++ two d.day in
    let b = a ++ two d.hour in
    let e = b ++ two d.minute in
    let f = e ++ utc_second_text d.second in
    omega (arith, length-append f (zone_text d.offset), length-append e (utc_second_text d.second), length-append b (two d.minute), length-append a (two d.hour), utc_day_length d.year d.month d.day, two-length d.hour, two-length d.minute, utc_second_length d.second, zone_length d.offset)

pub date_length : (d : DateTime) → is_date d ≡ true → length (date_text d) ≤ date_room
unfolding date_text
date_length d h =
    let a = two d.day ++ (32 ∷ []) ++ get_or month_names (d.month - 1) [] ++ (32 ∷ two d.year) in
    let b = a ++ (32 ∷ two d.hour) in
    let e = b ++ (58 ∷ two d.minute) in
    let f = e ++ date_second_text d.second in
    let g = f ++ (32 ∷ []) in
    omega (arith, length-append g (zone_text d.offset), length-append f (32 ∷ []), length-append e (date_second_text d.second), length-append b (58 ∷ two d.minute), length-append a (32 ∷ two d.hour), date_day_length d h, behind-length 32 d.hour, behind-length 58 d.minute, date_second_length d.second, zone_length d.offset)

-- ---- what is told

pub utc_dated : (s : List ℕ) (o : Option DateTime) → o ≡ read_utc s → IfSome o (λ d. is_date d ≡ true)
utc_dated s None e = tt
utc_dated s (Some d) e = utc_date_lem s d (sym e)

pub date_dated : (s : List ℕ) (o : Option DateTime) → o ≡ read_date s → IfSome o (λ d. is_date d ≡ true)
date_dated s None e = tt
date_dated s (Some d) e = date_date s d (sym e)

module _ (text : DateTime → List ℕ) (old : List ℕ) where
  -- no date was read
  pub told_none : (o : Option DateTime) (r : Result ℕ DateFault) (e : DateFault) → Err e ≡ ok_or o NoDate → IsErrAnd r (λ x. x ≡ e) → told r old ≡ converted text o old
  unfolding converted refused_text
  told_none None (Err x) e h k = let q : x ≡ NoDate = cc in rw q
  told_none None (Ok n) e h k = absurd k
  told_none (Some d) r e h k = absurd (cc)

  -- one was, and its text was placed
  pub told_placed : (o : Option DateTime) (d : DateTime) (r : Option ℕ) (t new : List ℕ) → o ≡ Some d → t ≡ text d → r ≡ placed_size t old → new ≡ placed_buffer t old
      → told (ok_or r ShortBuffer) new ≡ converted text o old
  unfolding converted placed_size placed_buffer placed_text refused_text
  told_placed o d r t new e f g h =
      rw (e, ← f, g, h) (by_test (ltb (length old) (length t)) (λ k. rw k) (λ k. rw k))
