-- What reading a date comes to, step by step.
-- Assumes nothing.
use mathlib.Core.Path.{◌≡◌, refl, sym, ◌∙◌, ap}
use mathlib.Core.Bool.{Bool, true, false, ◌&&◌, ◌||◌, cond, and-false}
use mathlib.Core.List.{List}
use Prim.Native.Nat.{ℕ, zero, suc, ◌+◌, ◌-◌, ◌*◌, ◌≤◌, ◌<◌}
use native.Mathlib.Omega.{arith}
use lib.Dec.{eqb, leb}
use lib.IntN.{ℤ, pos, negsuc, neg_ℤ, nat_abs, ◌-ℤ◌, +ℤ_idl}
use lib.ListN.{length, get_or, take, drop}
use mir.Syntax.{w32}
use mir.Val.{SFits, of_z, to_z}
use mir.ValLaws.{to_z-of_z, to_z_pos}
use borrow.Author.Tests.{eq-eqb, le-leb, leb-true, lt-leb, ne_eqb}
use Rattle.chars.specs.Class.{between, is_digit}
use Rattle.chars.proofs.Laws.Lists.{and_left, and_right, by_test, or_left, or_right, true_not_false}
use Rattle.std.specs.Prelude.{Option, None, Some}
use Rattle.std.specs.List.{list_any}
use Rattle.date_read.proofs.Laws.Date.{no_day, no_second, no_zone}
use Rattle.date_read.proofs.Laws.Names.{named, unnamed}
use Rattle.chars.specs.Case.{same_text}
use Rattle.date_read.specs.Date.{most_offset}
use Rattle.date_read.specs.Read.{date_names, kept, month_names, no_number, no_offset, number_in, offset_of, one_digit, read_body, read_rest, read_utc, rest_date, rest_end, rest_with, signed, spaced_at, two_digits, utc_date, utc_end, utc_names, utc_with, zone_of}
use Rattle.date_read.specs.declared.date.DateTime.{DateTime}

-- ---- digits

pub digit_low : (b : ℕ) → is_digit b ≡ true → 48 ≤ b
unfolding is_digit between
digit_low b e = leb-true 48 b (and_left (leb 48 b) (leb b 57) e)

pub digit_high : (b : ℕ) → is_digit b ≡ true → b ≤ 57
unfolding is_digit between
digit_high b e = leb-true b 57 (and_right (leb 48 b) (leb b 57) e)

module _ (s : List ℕ) (k : ℕ) where
  -- no digit stands there
  pub digit-none : no_number ≡ one_digit s k → is_digit (get_or s k 0) ≡ false
  unfolding one_digit
  digit-none e =
      let x = get_or s k 0 in
      by_test (is_digit x) (λ t. let n : 100 ≡ x - 48 = rw t at e in absurd (omega (arith, digit_high x t))) (λ f. f)

  -- a digit does
  digit-some : (n : ℕ) → n ≡ one_digit s k → n ≤ 9 → is_digit (get_or s k 0) ≡ true
  unfolding one_digit
  digit-some n e h = by_test (is_digit (get_or s k 0)) (λ t. t) (λ f. let q : n ≡ 100 = rw f at e in absurd (omega arith))

  digit-value : (n : ℕ) → n ≡ one_digit s k → n ≤ 9 → n ≡ get_or s k 0 - 48
  unfolding one_digit
  digit-value n e h = rw (digit-some n e h) at e

module _ (s : List ℕ) (k : ℕ) where
  pub no_tens : no_number ≡ one_digit s k → no_number ≡ two_digits s k
  unfolding two_digits
  no_tens e = rw (digit-none s k e)

  pub no_ones : no_number ≡ one_digit s (k + 1) → no_number ≡ two_digits s k
  unfolding two_digits
  no_ones e = rw (digit-none s (k + 1) e, and-false)

  pub two_told : (a b : ℕ) → a ≡ one_digit s k → a ≤ 9 → b ≡ one_digit s (k + 1) → b ≤ 9 → a * 10 + b ≡ two_digits s k
  unfolding two_digits
  two_told a b e h f g =
      rw (digit-some s k a e h, digit-some s (k + 1) b f g, ← digit-value s k a e h, ← digit-value s (k + 1) b f g)

-- ---- offsets fit their type

-- the size of `no_offset`, which none is greater than
pub fits : (z : ℤ) → nat_abs z ≤ nat_abs no_offset → SFits w32 z
fits (pos n) h = record { sfits = omega arith }
fits (negsuc n) h = record { sfits = omega arith }

signed_abs : (m : Bool) (n : ℕ) → nat_abs (signed m n) ≡ n
unfolding signed
signed_abs false n = refl
signed_abs true zero = refl
signed_abs true (suc n) = refl

pub signed-fits : (m : Bool) (n : ℕ) → n ≤ most_offset → SFits w32 (signed m n)
signed-fits m n h = fits (signed m n) (omega (arith, signed_abs m n))

pub number_read : (n : ℕ) → n ≤ most_offset → to_z w32 n ≡ pos n
number_read n h = to_z_pos w32 n (fits (pos n) (omega arith)).sfits

pub negated : (n : ℕ) → n ≤ most_offset → pos 0 -ℤ to_z w32 n ≡ signed true n
unfolding signed
negated n h = ap (λ (z : ℤ). pos 0 -ℤ z) (number_read n h) ∙ +ℤ_idl (neg_ℤ (pos n))

pub negated_fits : (n : ℕ) → n ≤ most_offset → SFits w32 (pos 0 -ℤ to_z w32 n)
negated_fits n h = rw (negated n h) (signed-fits true n h)

pub signed_back : (m : Bool) (n : ℕ) → n ≤ most_offset → to_z w32 (of_z w32 (signed m n)) ≡ signed m n
signed_back m n h = to_z-of_z w32 (signed m n) (signed-fits m n h)

fits_either : (t : Bool) (x y : ℤ) → (t ≡ true → SFits w32 x) → SFits w32 y → SFits w32 (cond t x y)
fits_either true x y f g = f refl
fits_either false x y f g = g

pub minutes_most : (h m : ℕ) → h ≤ 23 → m ≤ 59 → h * 60 + m ≤ most_offset
minutes_most h m p q = omega arith

pub offset_fits : (s : List ℕ) → SFits w32 (offset_of s)
unfolding offset_of
offset_fits s =
    let a = eqb (length s) 5 && (eqb (get_or s 0 0) 43 || eqb (get_or s 0 0) 45) in
    let h = leb (two_digits s 1) 23 in
    let m = leb (two_digits s 3) 59 in
    fits_either (a && h && m) (signed (eqb (get_or s 0 0) 45) (two_digits s 1 * 60 + two_digits s 3)) no_offset
    (λ e.
    signed-fits (eqb (get_or s 0 0) 45) (two_digits s 1 * 60 + two_digits s 3)
    (minutes_most (two_digits s 1) (two_digits s 3)
    (leb-true (two_digits s 1) 23 (and_right a h (and_left (a && h) m e)))
    (leb-true (two_digits s 3) 59 (and_right (a && h) m e))))
    (fits no_offset (omega arith))

pub zone_fits : (names : List (List ℕ)) (s : List ℕ) → SFits w32 (zone_of names s)
unfolding zone_of
zone_fits names s =
    fits_either (eqb (number_in 1 names s) 0) (offset_of s) (pos 0) (λ e. offset_fits s) (fits (pos 0) (omega arith))

pub zone_back : (names : List (List ℕ)) (s : List ℕ) → to_z w32 (of_z w32 (zone_of names s)) ≡ zone_of names s
zone_back names s = to_z-of_z w32 (zone_of names s) (zone_fits names s)

-- ---- where the seconds end

pub end-most : (r : List ℕ) → rest_end r ≤ 16
unfolding rest_end
end-most r = by_test (eqb (get_or r 13 0) 58) (λ e. rw e (omega arith)) (λ e. rw e (omega arith))

-- ---- the zone, by its parts

module _ (s : List ℕ) where
  pub not_five : (length s ≡ 5 → ⊥) → no_offset ≡ offset_of s
  unfolding offset_of
  not_five h = rw (ne_eqb (length s) 5 h)

  pub not_signed : (get_or s 0 0 ≡ 43 → ⊥) → (get_or s 0 0 ≡ 45 → ⊥) → no_offset ≡ offset_of s
  unfolding offset_of
  not_signed f g = rw (ne_eqb (get_or s 0 0) 43 f, ne_eqb (get_or s 0 0) 45 g, and-false)

  pub late_hours : 23 < two_digits s 1 → no_offset ≡ offset_of s
  unfolding offset_of
  late_hours h = rw (lt-leb (two_digits s 1) 23 h, and-false)

  pub late_minutes : 59 < two_digits s 3 → no_offset ≡ offset_of s
  unfolding offset_of
  late_minutes h = rw (lt-leb (two_digits s 3) 59 h, and-false)

pub plus_sign : (x : ℕ) → x ≡ 43 → (eqb x 43 || eqb x 45) ≡ true
plus_sign x e = or_left (eqb x 43) (eqb x 45) (eq-eqb x 43 e)

pub minus_sign : (x : ℕ) → x ≡ 45 → (eqb x 43 || eqb x 45) ≡ true
minus_sign x e = or_right (eqb x 43) (eqb x 45) (eq-eqb x 45 e)

pub good_offset :
    (s : List ℕ) (h m : ℕ) (z : ℤ) → length s ≡ 5 → (eqb (get_or s 0 0) 43 || eqb (get_or s 0 0) 45) ≡ true
    → h ≡ two_digits s 1 → m ≡ two_digits s 3 → h ≤ 23 → m ≤ 59 → z ≡ signed (eqb (get_or s 0 0) 45) (h * 60 + m)
    → to_z w32 (of_z w32 z) ≡ offset_of s
unfolding offset_of
good_offset s h m z l g eh em p q e =
    rw (← eh, ← em, eq-eqb (length s) 5 l, g, le-leb h 23 p, le-leb m 59 q)
    (ap (λ (x : ℤ). to_z w32 (of_z w32 x)) e ∙ signed_back (eqb (get_or s 0 0) 45) (h * 60 + m) (minutes_most h m p q))

module _ (names : List (List ℕ)) (s : List ℕ) where
  pub zone_named : list_any (λ n. same_text n s) names ≡ true → pos 0 ≡ zone_of names s
  unfolding zone_of
  zone_named e = rw (named names 0 s e)

  pub zone_unnamed : list_any (λ n. same_text n s) names ≡ false → offset_of s ≡ zone_of names s
  unfolding zone_of
  zone_unnamed e = rw (unnamed names 0 s e)

zone_kept : (names : List (List ℕ)) (t : List ℕ) (z : ℤ) → z ≡ zone_of names t → to_z w32 (of_z w32 z) ≡ z
zone_kept names t z e = ap (λ (x : ℤ). to_z w32 (of_z w32 x)) e ∙ zone_back names t ∙ sym e

-- ---- the whole, by its parts

pub utc_with_lem :
    (s : List ℕ) (year month day hour minute : ℕ) (second : Option ℕ) (z x : ℤ) → year ≡ two_digits s 0 → month ≡ two_digits s 2 → day ≡ two_digits s 4
    → hour ≡ two_digits s 6 → minute ≡ two_digits s 8 → x ≡ z
    → ◌≡◌ {A = DateTime} (record { year = year; month = month; day = day; hour = hour; minute = minute; second = second; offset = x }) (utc_with s second z)
unfolding utc_with
utc_with_lem s year month day hour minute second z x a b d e f g = rw (← a, ← b, ← d, ← e, ← f, ← g)

-- a second that is told, and none
pub second_told : (o : Option ℕ) (x y end k : ℕ) → end ≡ k → x ≡ y → o ≡ Some x → o ≡ cond (eqb end k) (Some y) None
second_told o x y end k e f h = rw (eq-eqb end k e) (h ∙ ap (λ (n : ℕ). Some n) f)

pub second_absent : (o : Option ℕ) (y end k : ℕ) → (end ≡ k → ⊥) → o ≡ None → o ≡ cond (eqb end k) (Some y) None
second_absent o y end k e h = rw (ne_eqb end k e) h

module _ (s : List ℕ) (end : ℕ) (a : end ≡ utc_end s) where
  -- no second where one is told, and no zone
  pub utc_secondless : end ≡ 12 → no_number ≡ two_digits s 10 → None ≡ read_utc s
  unfolding read_utc utc_date utc_with
  utc_secondless b e = no_second (utc_date s) (rw (← a, eq-eqb end 12 b, ← e))

  pub utc_zoneless : no_offset ≡ zone_of utc_names (drop end s) → None ≡ read_utc s
  unfolding read_utc utc_date utc_with
  utc_zoneless e = no_zone (utc_date s) (rw (← a) e)

  pub utc_read :
      (second : Option ℕ) (z : ℤ) → second ≡ cond (eqb end 12) (Some (two_digits s 10)) None
      → z ≡ zone_of utc_names (drop end s) → kept (utc_with s second (to_z w32 (of_z w32 z))) ≡ read_utc s
  unfolding read_utc utc_date
  utc_read second z b e = rw (← a, ← b, ← e, zone_kept utc_names (drop end s) z e)

pub rest_with_lem :
    (r t : List ℕ) (year month day hour minute : ℕ) (second : Option ℕ) (z x : ℤ) → t ≡ take 3 (drop 1 r) → month ≡ number_in 1 month_names t → year ≡ two_digits r 5
    → hour ≡ two_digits r 8 → minute ≡ two_digits r 11 → x ≡ z
    → ◌≡◌ {A = DateTime} (record { year = year; month = month; day = day; hour = hour; minute = minute; second = second; offset = x }) (rest_with r day second z)
unfolding rest_with
rest_with_lem r t year month day hour minute second z x a b d e f g = rw (← a, ← b, ← d, ← e, ← f, ← g)

pub rest_unspaced : (r : List ℕ) (day end : ℕ) → end ≡ rest_end r → spaced_at r end ≡ false → None ≡ read_rest day r
unfolding read_rest
rest_unspaced r day end a d = rw (← a, d)

rest_lost : (r : List ℕ) (day : ℕ) → None ≡ kept (rest_date day r) → None ≡ read_rest day r
unfolding read_rest
rest_lost r day h = by_test (spaced_at r (rest_end r)) (λ e. rw e h) (λ e. rw e)

-- a rest with no day
pub rest_dayless : (r : List ℕ) → None ≡ read_rest no_number r
unfolding rest_date rest_with
rest_dayless r = rest_lost r no_number (no_day (rest_date no_number r) refl)

module _ (r : List ℕ) (day end : ℕ) (a : end ≡ rest_end r) where
  pub rest_secondless : end ≡ 16 → no_number ≡ two_digits r 14 → None ≡ read_rest day r
  unfolding rest_date rest_with
  rest_secondless b e = rest_lost r day (no_second (rest_date day r) (rw (← a, eq-eqb end 16 b, ← e)))

  pub rest_zoneless : no_offset ≡ zone_of date_names (drop (end + 1) r) → None ≡ read_rest day r
  unfolding rest_date rest_with
  rest_zoneless e = rest_lost r day (no_zone (rest_date day r) (rw (← a) e))

  pub rest_read :
      (second : Option ℕ) (z : ℤ) → spaced_at r end ≡ true
      → second ≡ cond (eqb end 16) (Some (two_digits r 14)) None → z ≡ zone_of date_names (drop (end + 1) r)
      → kept (rest_with r day second (to_z w32 (of_z w32 z))) ≡ read_rest day r
  unfolding read_rest rest_date
  rest_read second z e f h = rw (← a, e, ← f, ← h, zone_kept date_names (drop (end + 1) r) z h)

chosen : (t : Bool) (x y z : Option DateTime) → t ≡ true → z ≡ x → z ≡ cond t x y
chosen true x y z e h = h
chosen false x y z e h = true_not_false true refl (sym e)

unchosen : (t : Bool) (x y z : Option DateTime) → t ≡ false → z ≡ y → z ≡ cond t x y
unchosen true x y z e h = true_not_false true refl e
unchosen false x y z e h = h

pub body_one : (b t : List ℕ) (x d : ℕ) → x ≡ get_or b 1 0 → x ≡ 32 → t ≡ drop 1 b → d ≡ one_digit b 0 → read_rest d t ≡ read_body b
unfolding read_body
body_one b t x d e f g h =
    chosen (eqb (get_or b 1 0) 32) (read_rest (one_digit b 0) (drop 1 b)) (read_rest (two_digits b 0) (drop 2 b)) (read_rest d t)
    (eq-eqb (get_or b 1 0) 32 (sym e ∙ f)) (ap (λ (n : ℕ). read_rest n t) h ∙ ap (read_rest (one_digit b 0)) g)

pub body_two : (b t : List ℕ) (x d : ℕ) → x ≡ get_or b 1 0 → (x ≡ 32 → ⊥) → t ≡ drop 2 b → d ≡ two_digits b 0 → read_rest d t ≡ read_body b
unfolding read_body
body_two b t x d e f g h =
    unchosen (eqb (get_or b 1 0) 32) (read_rest (one_digit b 0) (drop 1 b)) (read_rest (two_digits b 0) (drop 2 b)) (read_rest d t)
    (ne_eqb (get_or b 1 0) 32 (λ q. f (e ∙ q))) (ap (λ (n : ℕ). read_rest n t) h ∙ ap (read_rest (two_digits b 0)) g)
