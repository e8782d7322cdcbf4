-- Laws of record text as it is written: its pieces, what is left of a record without its first levels, how long it is and
-- which characters it has.
-- Assumes nothing.
use mathlib.Core.Path.{◌≡◌, refl, sym, ap, subst, ◌∙◌}
use Prim.Native.Nat.{ℕ, zero, suc, ◌+◌, ◌-◌, ◌*◌, ◌≤◌, ◌<◌, min, zero-le}
use native.Mathlib.Numerals.{add-one}
use native.Mathlib.Nat.{le_of_suc-le-suc, suc-mul}
use native.Mathlib.Omega.{arith}
use mathlib.Core.Bool.{Bool, true, false, not, ◌&&◌, ◌||◌, and-false, or-true}
use mathlib.Core.List.{List, [], ◌∷◌, ◌++◌, append_assoc, append-nil, map, reverse, reverse-cons}
use borrow.Author.Tests.{eq-eqb, eqb-false, eqb-true, le-leb, leb-true, ltb-true, ltb-false, ne_eqb}
use lib.Dec.{eqb, eqb-suc-zero, leb, lit<, ltb}
use lib.ListN.{length, take, drop, get_or, replicate, length-append, length-take, length-drop, length-replicate, length-reverse}
use lib.Seq.{drop-nil, get_or-take}
use Rattle.chars.specs.Lists.{all, bytes, member, non_empty}
use Rattle.chars.specs.Case.{same_text}
use Rattle.chars.specs.Class.{between, is_digit, is_letter, is_printable}
use Rattle.chars.specs.Spaces.{is_text, well_spaced}
use Rattle.chars.proofs.Laws.Lists.{all_append, all-at, all_drop, all_end, all_weaken, and_left, and_right, and-three, bool_same, by_test, or_cases, or_left, true_not_false}
use Rattle.chars.proofs.Laws.Class.{digit_printable, letter_printable}
use Rattle.chars.proofs.Laws.Case.{equal-path}
use Rattle.chars.proofs.Laws.Seq.{no_length, some-length}
use Rattle.oraddr.specs.Attributes.{Attributes, Dd, single_of}
use Rattle.oraddr.specs.Bounds.{ADMD, C, c_letters, CN, dd_type, dd_value, G, GQ, I, O, OU, PRMD, S, bound_of, is_country, is_space, is_value, level_count, most, own_levels, rule, single_count}
use Rattle.oraddr.specs.Canonical.{all_kept, canonical, is_dd, is_unit, kept}
use Rattle.oraddr.proofs.Laws.Canonical.{canonical-parts}
use Rattle.oraddr.proofs.Laws.View.{value-length}
use Rattle.ortext_segments.specs.Keys.{Keys, dd_key, ou_key, pn_key, short_keys, key_count, key_number, keys}
use Rattle.ortext_name.specs.Name.{is_short, name_text}
use Rattle.ortext_segments.specs.Segments.{Segment}
use Rattle.ortext_write.specs.Write.{dd_most, dd_segment, has_short, joined, key_value, local_text, long_dd, longest_text, name_in, names_most, only_name, order, plain_segment, quoted, quoted_most, record_text, remaining, segment_text, segments_at, segments_in, segments_text, short_key, unit_most, writes_short}
use Rattle.ortext_write.proofs.Laws.Left.{flat}
use Rattle.ortext_name.proofs.Laws.Name.{length_name, name_all}

-- ---- one piece

pub quoted_stop : (b : ℕ) → (eqb b 47 || eqb b 61) ≡ true → quoted (b ∷ []) ≡ 36 ∷ b ∷ []
unfolding quoted
quoted_stop b e = rw e

pub quoted_other : (b : ℕ) → (eqb b 47 || eqb b 61) ≡ false → quoted (b ∷ []) ≡ b ∷ []
unfolding quoted
quoted_other b e = rw e

-- a character as it is written
abbrev pub quoted_char : ℕ → List ℕ
quoted_char b = quoted (b ∷ [])

pub quoted-flat : (s : List ℕ) → quoted s ≡ flat quoted_char s
unfolding quoted
quoted-flat [] = refl
quoted-flat (x ∷ s) = by_test (eqb x 47 || eqb x 61) (λ e. rw (e, quoted-flat s)) (λ e. rw (e, quoted-flat s))

pub length-key-value : (k v : List ℕ) → length (key_value k v) ≡ length k + length (quoted v) + 2
unfolding key_value
length-key-value k v = omega (arith, length-append k (61 ∷ quoted v))

pub length-dd : length (get_or keys dd_key []) ≡ 2
unfolding keys bytes
length-dd = refl

pub length_long : (t v : List ℕ) → length (long_dd keys t v) ≡ length (quoted t) + length (quoted v) + 5
unfolding long_dd
length_long t v = omega (arith, length-dd, length-key-value (get_or keys dd_key [] ++ 46 ∷ quoted t) v, length-append (get_or keys dd_key []) (46 ∷ quoted t))

-- ---- segments

pub short_test : (t : List ℕ) → has_short keys t ≡ same_text (get_or keys short_keys []) t
unfolding has_short key_number keys
short_test t = by_test (same_text (get_or keys short_keys []) t) (λ e. rw e) (λ e. rw e)

short-key : (t : List ℕ) → has_short keys t ≡ true → short_key keys t ≡ get_or keys short_keys []
unfolding short_key key_number keys
short-key t h = rw (sym (short_test t) ∙ h)

pub dd-short : (t v : List ℕ) → has_short keys t ≡ true → segment_text keys (dd_segment (record { kind = t; value = v })) ≡ key_value (get_or keys short_keys []) v
unfolding segment_text dd_segment
dd-short t v h = rw (h, short-key t h)

pub dd_long : (t v : List ℕ) → has_short keys t ≡ false → segment_text keys (dd_segment (record { kind = t; value = v })) ≡ long_dd keys t v
unfolding segment_text dd_segment
dd_long t v h = rw h

pub plain-text : (k : ℕ) (v : List ℕ) → (k ≡ dd_key → ⊥) → segment_text keys (plain_segment k v) ≡ key_value (get_or keys k []) v
unfolding segment_text plain_segment
plain-text k v h = rw (ne_eqb k dd_key h)

-- what stands for one key, a unit and a DD as they are written
abbrev pub key_text : Attributes → ℕ → List ℕ
key_text a k = joined keys (segments_at a k)

abbrev pub unit_text : List ℕ → List ℕ
unit_text v = segment_text keys (plain_segment ou_key v)

abbrev pub dd_text : Dd → List ℕ
dd_text d = segment_text keys (dd_segment d)

-- ---- joined

pub joined-append : (ks : Keys) (g h : List Segment) → joined ks (g ++ h) ≡ joined ks g ++ joined ks h
unfolding joined
joined-append ks [] h = refl
joined-append ks (x ∷ g) h = rw (joined-append ks g h) (sym (append_assoc (segment_text ks x) (joined ks g) (joined ks h)))

pub joined-map : {A : Type 0} (ks : Keys) (f : A → Segment) (l : List A) → joined ks (map f l) ≡ flat (λ (x : A). segment_text ks (f x)) l
unfolding joined
joined-map ks f [] = refl
joined-map ks f (x ∷ l) = rw (joined-map ks f l)

pub joined_in : (ks : Keys) (a : Attributes) (l : List ℕ) → joined ks (segments_in a l) ≡ flat (λ (k : ℕ). joined ks (segments_at a k)) l
unfolding joined segments_in
joined_in ks a [] = refl
joined_in ks a (k ∷ l) = joined-append ks (segments_at a k) (segments_in a l) ∙ rw (joined_in ks a l)

-- ---- what a record has for one key

pub single-none : (ks : Keys) (a : Attributes) (k : ℕ) → k < single_count → single_of a k ≡ [] → joined ks (segments_at a k) ≡ []
unfolding segments_at joined non_empty
single-none ks a k h e = rw (ne_eqb k dd_key (λ q. omega arith), ne_eqb k ou_key (λ q. omega arith), e)

pub single-some : (a : Attributes) (k : ℕ) → k < single_count → 0 < length (single_of a k) → joined keys (segments_at a k) ≡ key_value (get_or keys k []) (single_of a k)
unfolding segments_at joined
single-some a k h e =
    rw (ne_eqb k dd_key (λ q. omega arith), ne_eqb k ou_key (λ q. omega arith), some-length (single_of a k) e, append-nil)
    (plain-text k (single_of a k) (λ q. omega arith))

-- ---- without the first levels

pub none_test : {A : Type 0} (s : List A) → eqb (length s) 0 ≡ not (non_empty s)
unfolding non_empty
none_test [] = refl
none_test (x ∷ s) = eqb-suc-zero (length s)

module _ {A : Type 0} (d : A) where
  blank_left : (m : ℕ) (l : List A) (k : ℕ) → m ≤ k → get_or (replicate m d ++ drop m l) k d ≡ get_or l k d
  blank_left zero l k h = refl
  blank_left (suc m) l zero h = absurd (omega arith)
  blank_left (suc m) [] (suc k) h = rw drop-nil at (blank_left m [] k (le_of_suc-le-suc h))
  blank_left (suc m) (x ∷ l) (suc k) h = blank_left m l k (le_of_suc-le-suc h)

  blank_out : (m : ℕ) (r : List A) (k : ℕ) → k < m → get_or (replicate m d ++ r) k d ≡ d
  blank_out zero r k h = absurd (omega arith)
  blank_out (suc m) r zero h = refl
  blank_out (suc m) r (suc k) h = blank_out m r k (le_of_suc-le-suc h)

-- the first of the four that are blank pass
blank_test : (n : ℕ) (l : List (List ℕ)) → let s = take 4 (replicate (min n own_levels) [] ++ drop (min n own_levels) l) in all (λ s. not (non_empty s)) s ≡ all (λ s. not (non_empty s)) (drop n s)
unfolding all non_empty
blank_test zero l = refl
blank_test (suc zero) l = refl
blank_test (suc (suc zero)) l = refl
blank_test (suc (suc (suc zero))) l = refl
blank_test (suc (suc (suc (suc n)))) l =
    let e : min (suc (suc (suc (suc n)))) 4 ≡ 4 = omega arith in
    rw e (sym (ap (all (λ (s : List ℕ). not (non_empty s))) (drop-nil n)))

-- a step of `all` past the end too, where the default passes
all-on : {A : Type 0} (p : A → Bool) (d : A) → p d ≡ true → (s : List A) (k : ℕ) → all p (drop k s) ≡ (p (get_or s k d) && all p (drop (k + 1) s))
unfolding all
all-on p d h [] zero = rw h
all-on p d h [] (suc k) = rw (h, add-one)
all-on p d h (x ∷ s) zero = refl
all-on p d h (x ∷ s) (suc k) = rw add-one (rw add-one at (all-on p d h s k))

module _ (n : ℕ) (a : Attributes) where
  pub single_left : (k : ℕ) → min n own_levels ≤ k → single_of (remaining n a) k ≡ single_of a k
  unfolding single_of remaining
  single_left k h = blank_left [] (min n own_levels) a.single k h

  pub single_out : (k : ℕ) → k < min n own_levels → single_of (remaining n a) k ≡ []
  unfolding single_of remaining
  single_out k h = blank_out [] (min n own_levels) (drop (min n own_levels) a.single) k h

  pub segments_left : (k : ℕ) → min n own_levels ≤ k → k < single_count → segments_at (remaining n a) k ≡ segments_at a k
  unfolding segments_at
  segments_left k h l = rw (ne_eqb k dd_key (λ q. omega arith), ne_eqb k ou_key (λ q. omega arith), single_left k h)

  pub dds_left : (k : ℕ) → k ≡ dd_key → segments_at (remaining n a) k ≡ map dd_segment a.dds
  unfolding segments_at remaining
  dds_left k e = rw e

  pub units_left : (k : ℕ) → k ≡ ou_key → segments_at (remaining n a) k ≡ map (plain_segment ou_key) (reverse (drop (n - own_levels) a.units))
  unfolding segments_at remaining
  units_left k e = rw e

  -- the short form's name does not change
  pub name_left : name_in a ≡ name_in (remaining n a)
  unfolding name_in
  name_left = rw (single_left G (omega arith), single_left I (omega arith), single_left S (omega arith))

  -- what a loop has left to test of the first four levels, from number k on
  abbrev pub own_from : ℕ → Bool
  own_from k = all (λ s. not (non_empty s)) (drop k (take 4 (remaining n a).single))

  pub own_step : (k : ℕ) → n ≤ k → k < 4 → own_from k ≡ (not (non_empty (single_of a k)) && own_from (k + 1))
  unfolding single_of non_empty
  own_step k h l =
      let r = (remaining n a).single in
      all-on (λ s. not (non_empty s)) [] refl (take 4 r) k
      ∙ rw (get_or-take 4 r k [] l, single_left k (omega arith))

  pub own_end : (k : ℕ) → 4 ≤ k → own_from k ≡ true
  own_end k h = all_end (λ s. not (non_empty s)) (take 4 (remaining n a).single) k (simp length-take (omega arith))

  pub own_start : own_from 0 ≡ own_from n
  unfolding remaining
  own_start = blank_test n a.single

  pub units-count : length (remaining n a).units ≡ length a.units - (n - own_levels)
  unfolding remaining
  units-count = length-drop (n - own_levels) a.units

  pub units-test : leb (length a.units) (n - own_levels) ≡ not (non_empty (remaining n a).units)
  units-test =
      bool_same (leb (length a.units) (n - own_levels)) (not (non_empty (remaining n a).units))
      (λ e. sym (none_test (remaining n a).units) ∙ eq-eqb (length (remaining n a).units) 0 (omega (arith, units-count, leb-true (length a.units) (n - own_levels) e)))
      (λ e. le-leb (length a.units) (n - own_levels) (omega (arith, units-count, eqb-true (length (remaining n a).units) 0 (none_test (remaining n a).units ∙ e))))

-- ---- which form is written

module _ (a : Attributes) where
  -- one of the first four levels, a unit or a common name leaves more than a name; without these, the DDs decide
  pub only_own : all (λ s. not (non_empty s)) (take own_levels a.single) ≡ false → only_name a ≡ false
  unfolding only_name
  only_own h = rw h

  pub only_units : 0 < length a.units → only_name a ≡ false
  unfolding only_name
  only_units h = rw (some-length a.units h, and-false (all (λ s. not (non_empty s)) (take own_levels a.single)))

  pub only_common : 0 < length (single_of a CN) → only_name a ≡ false
  unfolding only_name
  only_common h = rw (some-length (single_of a CN) h, and-false (all (λ s. not (non_empty s)) (take own_levels a.single) && not (non_empty a.units)))

  pub only_rest : all (λ s. not (non_empty s)) (take own_levels a.single) ≡ true → length a.units ≤ 0 → length (single_of a CN) ≤ 0
      → eqb (length a.dds) 0 ≡ only_name a
  unfolding only_name non_empty
  only_rest h k j = rw (h, no_length a.units k, no_length (single_of a CN) j) (none_test a.dds)

  pub writes_not : only_name a ≡ false → writes_short a ≡ false
  unfolding writes_short
  writes_not h = rw h

  short_none : 0 < length (single_of a GQ) → is_short (name_in a) (single_of a GQ) ≡ false
  unfolding is_short
  short_none h = rw (some-length (single_of a GQ) h, and-false)

  pub writes_generation : 0 < length (single_of a GQ) → writes_short a ≡ false
  unfolding writes_short
  writes_generation h = ap (λ b. only_name a && b) (short_none h) ∙ and-false (only_name a)

  pub writes_rest : only_name a ≡ true → single_of a GQ ≡ [] → writes_short a ≡ is_short (name_in a) []
  unfolding writes_short
  writes_rest h e = rw (h, e)

  pub local-short : writes_short a ≡ true → local_text keys a ≡ name_text (name_in a)
  unfolding local_text
  local-short h = rw h

  pub local_long : writes_short a ≡ false → local_text keys a ≡ record_text keys a
  unfolding local_text
  local_long h = rw h

  pub length-text : length (record_text keys a) ≡ length (joined keys (segments_in a order)) + 1
  unfolding record_text segments_text
  length-text = length-append (joined keys (segments_in a order)) (47 ∷ [])

-- ---- what is left, by its parts

module _ (n : ℕ) (a : Attributes) where
  pub remaining-units : (remaining n a).units ≡ drop (n - own_levels) a.units
  unfolding remaining
  remaining-units = refl

  pub remaining-dds : (remaining n a).dds ≡ a.dds
  unfolding remaining
  remaining-dds = refl

  pub remaining-length : length a.single ≡ single_count → length (remaining n a).single ≡ single_count
  unfolding remaining
  remaining-length h = simp (length-append, length-replicate, length-drop) (omega arith)

-- ---- the rules of a canonical record, of what is left of it

-- each part keeps its rule
pub record Ruled (a : Attributes) : Type 0 where
  pub singles : (k : ℕ) → kept k (single_of a k) ≡ true
  pub few-units : length a.units ≤ 4
  pub units : all is_unit a.units ≡ true
  pub few-dds : length a.dds ≤ 4
  pub dds : all is_dd a.dds ≡ true

kept_at : (s : List (List ℕ)) (j i k : ℕ) → k ≡ j + i → all_kept j s ≡ true → kept k (get_or s i []) ≡ true
unfolding all_kept kept non_empty
kept_at [] j i k e h = refl
kept_at (x ∷ s) j zero k e h =
    let f : j ≡ k = omega arith in
    subst (λ (m : ℕ). kept m x ≡ true) f (and_left (kept j x) (all_kept (suc j) s) h)
kept_at (x ∷ s) j (suc i) k e h = kept_at s (suc j) i k (omega arith) (and_right (kept j x) (all_kept (suc j) s) h)

kept-none : (k : ℕ) → kept k [] ≡ true
unfolding kept non_empty
kept-none k = refl

pub ruled : (n : ℕ) (a : Attributes) → canonical a ≡ true → Ruled (remaining n a)
unfolding single_of
ruled n a h =
    let p = canonical-parts a h in record {
      singles = λ k. by_test (ltb k (min n own_levels))
          (λ e. rw (single_out n a k (ltb-true k (min n own_levels) e)) (kept-none k))
          (λ e. rw (single_left n a k (ltb-false k (min n own_levels) e)) (kept_at a.single 0 k k (omega arith) p.singles));
      few-units = omega (arith, units-count n a, p.few-units);
      units = rw (remaining-units n a) (all_drop is_unit (n - own_levels) a.units p.units);
      few-dds = rw (remaining-dds n a) p.few-dds;
      dds = rw (remaining-dds n a) p.dds;
    }

-- ---- how long the text is

pub length-quoted : (s : List ℕ) → length s ≤ length (quoted s)
unfolding quoted
length-quoted [] = omega arith
length-quoted (x ∷ s) = by_test (eqb x 47 || eqb x 61) (λ e. rw e (omega (arith, length-quoted s))) (λ e. rw e (omega (arith, length-quoted s)))

pub quoted-length : (s : List ℕ) → length (quoted s) ≤ 2 * length s
unfolding quoted
quoted-length [] = omega arith
quoted-length (x ∷ s) = by_test (eqb x 47 || eqb x 61) (λ e. rw e (omega (arith, quoted-length s))) (λ e. rw e (omega (arith, quoted-length s)))

country_length : (v : List ℕ) → is_country v ≡ true → length v ≤ 3
unfolding is_country
country_length v h =
    or_cases (eqb (length v) (bound_of c_letters) && all is_letter v) (eqb (length v) (bound_of C) && all is_digit v) h
    (λ e. omega (arith, eqb-true (length v) 2 (and_left (eqb (length v) (bound_of c_letters)) (all is_letter v) e)))
    (λ e. omega (arith, eqb-true (length v) 3 (and_left (eqb (length v) (bound_of C)) (all is_digit v) e)))

rule-within : (k : ℕ) (v : List ℕ) → rule k v ≡ true → length v ≤ bound_of k
unfolding rule is_space
rule-within k v h =
    by_test (eqb k C)
    (λ e. rw (eqb-true k C e) (country_length v (rw e at h)))
    (λ e. or_cases (is_value k v) (eqb k ADMD && is_space v) (rw e at h)
    (λ f. value-length k v f)
    (λ f. rw (eqb-true k ADMD (and_left (eqb k ADMD) (is_space v) f)) (omega (arith, ap length (equal-path v (32 ∷ []) (and_right (eqb k ADMD) (is_space v) f))))))

pub kept-within : (k : ℕ) (v : List ℕ) → kept k v ≡ true → length v ≤ bound_of k
unfolding kept non_empty
kept-within k [] h = zero-le
kept-within k (x ∷ v) h = rule-within k (x ∷ v) h

-- what is neither letter nor digit is not in a country's text, so nothing is quoted there
quoted-plain : (p : ℕ → Bool) → p 47 ≡ false → p 61 ≡ false → (s : List ℕ) → all p s ≡ true → quoted s ≡ s
unfolding quoted all
quoted-plain p f g [] h = refl
quoted-plain p f g (x ∷ s) h =
    let k = and_left (p x) (all p s) h in
    rw (ne_eqb x 47 (λ q. true_not_false (p x) k (ap p q ∙ f)), ne_eqb x 61 (λ q. true_not_false (p x) k (ap p q ∙ g)), quoted-plain p f g s (and_right (p x) (all p s) h))

country_quoted : (v : List ℕ) → kept C v ≡ true → quoted v ≡ v
unfolding kept rule is_country non_empty is_letter is_digit between quoted
country_quoted [] h = refl
country_quoted (x ∷ t) h =
    let v = x ∷ t in
    or_cases (eqb (length v) (bound_of c_letters) && all is_letter v) (eqb (length v) (bound_of C) && all is_digit v) h
    (λ e. quoted-plain is_letter refl refl v (and_right (eqb (length v) (bound_of c_letters)) (all is_letter v) e))
    (λ e. quoted-plain is_digit refl refl v (and_right (eqb (length v) (bound_of C)) (all is_digit v) e))

module _ (a : Attributes) where
  dds-text : key_text a dd_key ≡ flat dd_text a.dds
  unfolding segments_at
  dds-text = joined-map keys dd_segment a.dds

  units-text : key_text a ou_key ≡ flat unit_text (reverse a.units)
  unfolding segments_at
  units-text = joined-map keys (plain_segment ou_key) (reverse a.units)

  -- the segment of an attribute that a record has once, by a bound of its quoted value
  single-most : (k m : ℕ) → k < single_count → length (quoted (single_of a k)) ≤ m → length (key_text a k) ≤ length (get_or keys k []) + m + 2
  single-most k m h l =
      let v = single_of a k in
      by_test (ltb 0 (length v))
      (λ e. omega (arith, ap length (single-some a k h (ltb-true 0 (length v) e)), length-key-value (get_or keys k []) v))
      (λ e. omega (arith, ap length (single-none keys a k h (no_length v (ltb-false 0 (length v) e)))))

flat-most : {A : Type 0} (f : A → List ℕ) (p : A → Bool) (m : ℕ) → ((x : A) → p x ≡ true → length (f x) ≤ m) → (l : List A) → all p l ≡ true → length (flat f l) ≤ length l * m
unfolding all
flat-most f p m g [] h = zero-le
flat-most f p m g (x ∷ l) h =
    rw (length-append, suc-mul)
    (omega (arith, g x (and_left (p x) (all p l) h), flat-most f p m g l (and_right (p x) (all p l) h)))

unit_most_lem : (v : List ℕ) → is_unit v ≡ true → length (unit_text v) ≤ unit_most
unfolding is_unit keys bytes
unit_most_lem v h =
    omega (arith, ap length (plain-text ou_key v (λ q. omega arith)), length-key-value (get_or keys ou_key []) v, quoted-length v, value-length OU v h)

dd-most : (d : Dd) → is_dd d ≡ true → length (dd_text d) ≤ dd_most
unfolding is_dd keys bytes
dd-most d h =
    let t = value-length dd_type d.kind (and_left (is_value dd_type d.kind) (is_value dd_value d.value) h) in
    let v = value-length dd_value d.value (and_right (is_value dd_type d.kind) (is_value dd_value d.value) h) in
    by_test (has_short keys d.kind)
    (λ e. omega (arith, ap length (dd-short d.kind d.value e), length-key-value (get_or keys short_keys []) d.value, quoted-length d.value))
    (λ e. omega (arith, ap length (dd_long d.kind d.value e), length_long d.kind d.value, quoted-length d.kind, quoted-length d.value))

all-reverse : {A : Type 0} (p : A → Bool) (l : List A) → all p l ≡ true → all p (reverse l) ≡ true
unfolding all
all-reverse p [] h = refl
all-reverse p (x ∷ l) h =
    rw (reverse-cons, all_append p (reverse l) (x ∷ []), all-reverse p l (and_right (p x) (all p l) h), and_left (p x) (all p l) h)

module _ (a : Attributes) (r : Ruled a) where
  own_most : (k m : ℕ) → k < single_count → leb (length (get_or keys k []) + 2) m ≡ true → length (key_text a k) ≤ m + quoted_most k
  own_most k m h e =
      omega (arith, leb-true (length (get_or keys k []) + 2) m e, single-most a k (quoted_most k) h (omega (arith, quoted-length (single_of a k), kept-within k (single_of a k) (r.singles k))))

  country_most : length (key_text a C) ≤ 3 + bound_of C
  unfolding keys bytes
  country_most = single-most a C 3 (lit< tt) (rw (country_quoted (single_of a C) (r.singles C)) (kept-within C (single_of a C) (r.singles C)))

  units-most : length (key_text a ou_key) ≤ length a.units * unit_most
  units-most =
      omega (arith, ap length (units-text a), flat-most unit_text is_unit unit_most unit_most_lem (reverse a.units) (all-reverse is_unit a.units r.units), length-reverse a.units)

  dds-most : length (key_text a dd_key) ≤ most * dd_most
  dds-most = omega (arith, ap length (dds-text a), flat-most dd_text is_dd dd_most dd-most a.dds r.dds, r.few-dds)

  -- the segments of the levels, and all others at their most
  segments-most : length (record_text keys a)
      ≤ most * dd_most + names_most + length (key_text a ou_key) + length (key_text a O) + length (key_text a PRMD) + length (key_text a ADMD) + length (key_text a C) + 1
  unfolding keys bytes
  segments-most =
      let t = simp length-append at (ap length (joined_in keys a order)) in
      omega (arith, length-text a, t, dds-most, own_most CN 4 (lit< tt) refl, own_most G 3 (lit< tt) refl, own_most I 3 (lit< tt) refl, own_most S 3 (lit< tt) refl, own_most GQ 4 (lit< tt) refl)

  organisation_most : length (key_text a O) ≤ 3 + quoted_most O
  unfolding keys bytes
  organisation_most = own_most O 3 (lit< tt) refl

  private_most : length (key_text a PRMD) ≤ 6 + quoted_most PRMD
  unfolding keys bytes
  private_most = own_most PRMD 6 (lit< tt) refl

  domain-most : length (key_text a ADMD) ≤ 6 + quoted_most ADMD
  unfolding keys bytes
  domain-most = own_most ADMD 6 (lit< tt) refl

  record_most : length (record_text keys a) ≤ longest_text
  record_most = omega (arith, segments-most, units-most, r.few-units, organisation_most, private_most, domain-most, country_most)

  local-most : length (local_text keys a) ≤ longest_text
  unfolding name_in
  local-most =
      by_test (writes_short a)
      (λ e. omega (arith, ap length (local-short a e), length_name (name_in a), kept-within G (single_of a G) (r.singles G), kept-within I (single_of a I) (r.singles I), kept-within S (single_of a S) (r.singles S)))
      (λ e. omega (arith, ap length (local_long a e), record_most))

pub text_bound : (a : Attributes) → canonical a ≡ true → (n : ℕ) → length (record_text keys (remaining n a)) ≤ longest_text
text_bound a h n = record_most (remaining n a) (ruled n a h)

pub local_bound : (a : Attributes) → canonical a ≡ true → (n : ℕ) → length (local_text keys (remaining n a)) ≤ longest_text
local_bound a h n = local-most (remaining n a) (ruled n a h)

-- Room for the first n levels, each with a dot. They take no more of a domain than their segments would of the text.
abbrev pub told_most : ℕ → ℕ
told_most zero = 0
told_most (suc zero) = bound_of C + 1
told_most (suc (suc zero)) = bound_of C + 1 + bound_of ADMD + 1
told_most (suc (suc (suc zero))) = bound_of C + 1 + bound_of ADMD + 1 + bound_of PRMD + 1
told_most (suc (suc (suc (suc n)))) = bound_of C + 1 + bound_of ADMD + 1 + bound_of PRMD + 1 + bound_of O + 1 + n * (bound_of OU + 1)

module _ (a : Attributes) (h : canonical a ≡ true) where
  -- a level that was told has no segment
  told_out : (n k : ℕ) → k < min n own_levels → length (key_text (remaining n a) k) ≡ 0
  told_out n k l = ap length (single-none keys (remaining n a) k (omega arith) (single_out n a k l))

  text-told : (n : ℕ) → n ≤ level_count → length (record_text keys (remaining n a)) + told_most n ≤ longest_text
  text-told zero l = omega (arith, text_bound a h 0)
  text-told (suc zero) l =
      let b = remaining 1 a in
      let r = ruled 1 a h in
      omega (arith, segments-most b r, units-most b r, r.few-units, organisation_most b r, private_most b r, domain-most b r, told_out 1 C (omega arith))
  text-told (suc (suc zero)) l =
      let b = remaining 2 a in
      let r = ruled 2 a h in
      omega (arith, segments-most b r, units-most b r, r.few-units, organisation_most b r, private_most b r, told_out 2 ADMD (omega arith), told_out 2 C (omega arith))
  text-told (suc (suc (suc zero))) l =
      let b = remaining 3 a in
      let r = ruled 3 a h in
      omega (arith, segments-most b r, units-most b r, r.few-units, organisation_most b r, told_out 3 PRMD (omega arith), told_out 3 ADMD (omega arith), told_out 3 C (omega arith))
  text-told (suc (suc (suc (suc n)))) l =
      let m = suc (suc (suc (suc n))) in
      let b = remaining m a in
      let r = ruled m a h in
      omega (
        arith,
        segments-most b r,
        units-most b r,
        units-count m a,
        (canonical-parts a h).few-units,
        told_out m O (omega arith),
        told_out m PRMD (omega arith),
        told_out m ADMD (omega arith),
        told_out m C (omega arith),
      )

  told-few : (n : ℕ) → n ≤ level_count → told_most n ≤ told_most level_count
  told-few zero l = zero-le
  told-few (suc zero) l = omega arith
  told-few (suc (suc zero)) l = omega arith
  told-few (suc (suc (suc zero))) l = omega arith
  told-few (suc (suc (suc (suc n)))) l = omega arith

  -- what is left for the local part, and the levels that were told
  pub local-told : (n : ℕ) → n ≤ level_count → length (local_text keys (remaining n a)) + told_most n ≤ longest_text
  unfolding name_in
  local-told n l =
      let b = remaining n a in
      let r = ruled n a h in
      by_test (writes_short b)
      (λ e. omega (arith, ap length (local-short b e), length_name (name_in b), kept-within G (single_of b G) (r.singles G), kept-within I (single_of b I) (r.singles I), kept-within S (single_of b S) (r.singles S), told-few n l))
      (λ e. omega (arith, ap length (local_long b e), text-told n l))

-- ---- which characters the text has

-- printable string characters, and the `$` that quotes
abbrev pub is_text_char : ℕ → Bool
is_text_char b = is_printable b || eqb b 36

value_printable : (k : ℕ) (v : List ℕ) → is_value k v ≡ true → all is_printable v ≡ true
unfolding is_value is_text
value_printable k v h = (and-three (non_empty v) (all is_printable v) (well_spaced v) (and_right (leb (length v) (bound_of k)) (is_text v) h)).1

country_printable : (v : List ℕ) → is_country v ≡ true → all is_printable v ≡ true
unfolding is_country
country_printable v h =
    or_cases (eqb (length v) (bound_of c_letters) && all is_letter v) (eqb (length v) (bound_of C) && all is_digit v) h
    (λ e. all_weaken is_letter is_printable letter_printable v (and_right (eqb (length v) (bound_of c_letters)) (all is_letter v) e))
    (λ e. all_weaken is_digit is_printable digit_printable v (and_right (eqb (length v) (bound_of C)) (all is_digit v) e))

space_printable : (v : List ℕ) → is_space v ≡ true → all is_printable v ≡ true
unfolding is_space all is_printable is_letter is_digit between member bytes
space_printable v h = rw (equal-path v (32 ∷ []) h)

pub kept_printable : (k : ℕ) (v : List ℕ) → kept k v ≡ true → all is_printable v ≡ true
unfolding kept rule all non_empty
kept_printable k [] h = refl
kept_printable k (x ∷ t) h =
    let v = x ∷ t in
    by_test (eqb k C)
    (λ e. country_printable v (rw e at h))
    (λ e. or_cases (is_value k v) (eqb k ADMD && is_space v) (rw e at h) (value_printable k v) (λ f. space_printable v (and_right (eqb k ADMD) (is_space v) f)))

quoted_class : (s : List ℕ) → all is_printable s ≡ true → all is_text_char (quoted s) ≡ true
unfolding quoted all
quoted_class [] h = refl
quoted_class (x ∷ s) h =
    let p = and_left (is_printable x) (all is_printable s) h in
    let r = quoted_class s (and_right (is_printable x) (all is_printable s) h) in
    by_test (eqb x 47 || eqb x 61) (λ e. rw (e, or-true, p, r)) (λ e. rw (e, p, r))

key_class : (k : ℕ) → k < key_count → all is_text_char (get_or keys k []) ≡ true
unfolding keys bytes all is_printable is_letter is_digit between member
key_class k h = all-at (all is_text_char) keys k [] refl h

key-value_class : (k v : List ℕ) → all is_text_char k ≡ true → all is_printable v ≡ true → all is_text_char (key_value k v) ≡ true
unfolding key_value all is_printable is_letter is_digit between member bytes
key-value_class k v h g = rw (all_append is_text_char k (61 ∷ quoted v), h) (quoted_class v g)

long_class : (t v : List ℕ) → all is_printable t ≡ true → all is_printable v ≡ true → all is_text_char (long_dd keys t v) ≡ true
unfolding long_dd all is_printable is_letter is_digit between member bytes
long_class t v h g =
    key-value_class (get_or keys dd_key [] ++ 46 ∷ quoted t) v
    (rw (all_append is_text_char (get_or keys dd_key []) (46 ∷ quoted t), key_class dd_key (lit< tt)) (quoted_class t h))
    g

unit_class : (v : List ℕ) → is_unit v ≡ true → all is_text_char (unit_text v) ≡ true
unfolding is_unit
unit_class v h = rw (plain-text ou_key v (λ q. omega arith)) (key-value_class (get_or keys ou_key []) v (key_class ou_key (lit< tt)) (value_printable OU v h))

dd_class : (d : Dd) → is_dd d ≡ true → all is_text_char (dd_text d) ≡ true
unfolding is_dd
dd_class d h =
    let t = value_printable dd_type d.kind (and_left (is_value dd_type d.kind) (is_value dd_value d.value) h) in
    let v = value_printable dd_value d.value (and_right (is_value dd_type d.kind) (is_value dd_value d.value) h) in
    by_test (has_short keys d.kind)
    (λ e. rw (dd-short d.kind d.value e) (key-value_class (get_or keys short_keys []) d.value (key_class short_keys (lit< tt)) v))
    (λ e. rw (dd_long d.kind d.value e) (long_class d.kind d.value t v))

flat_class : {A : Type 0} (f : A → List ℕ) (p : A → Bool) (q : ℕ → Bool) → ((x : A) → p x ≡ true → all q (f x) ≡ true) → (l : List A) → all p l ≡ true → all q (flat f l) ≡ true
unfolding all
flat_class f p q g [] h = refl
flat_class f p q g (x ∷ l) h =
    rw (all_append q (f x) (flat f l), g x (and_left (p x) (all p l) h), flat_class f p q g l (and_right (p x) (all p l) h))

module _ (a : Attributes) (r : Ruled a) where
  own_class : (k : ℕ) → k < single_count → all is_text_char (key_text a k) ≡ true
  unfolding all
  own_class k h =
      let v = single_of a k in
      by_test (ltb 0 (length v))
      (λ e. rw (single-some a k h (ltb-true 0 (length v) e)) (key-value_class (get_or keys k []) v (key_class k (omega arith)) (kept_printable k v (r.singles k))))
      (λ e. rw (single-none keys a k h (no_length v (ltb-false 0 (length v) e))))

  at_class : (k : ℕ) → ltb k pn_key ≡ true → all is_text_char (key_text a k) ≡ true
  at_class k h =
      by_test (eqb k dd_key)
      (λ e. rw (eqb-true k dd_key e, dds-text a) (flat_class dd_text is_dd is_text_char dd_class a.dds r.dds))
      (λ e. by_test (eqb k ou_key)
      (λ f. rw (eqb-true k ou_key f, units-text a) (flat_class unit_text is_unit is_text_char unit_class (reverse a.units) (all-reverse is_unit a.units r.units)))
      (λ f. own_class k (below k (ltb-true k pn_key h) (eqb-false k dd_key e) (eqb-false k ou_key f))))
    where
      below : (k : ℕ) → k < pn_key → (k ≡ dd_key → ⊥) → (k ≡ ou_key → ⊥) → k < single_count
      below k h e f = omega arith

  record_class : all is_text_char (record_text keys a) ≡ true
  unfolding record_text segments_text all is_printable is_letter is_digit between member bytes
  record_class =
      rw (all_append is_text_char (joined keys (segments_in a order)) (47 ∷ []), joined_in keys a order, flat_class (key_text a) (λ k. ltb k pn_key) is_text_char at_class order refl)

  name_class : all is_text_char (name_text (name_in a)) ≡ true
  unfolding name_in is_printable is_letter is_digit between member bytes
  name_class =
      name_all is_text_char refl (name_in a) (value G) (value I) (value S)
    where
      value : (k : ℕ) → all is_text_char (single_of a k) ≡ true
      value k = all_weaken is_printable is_text_char (λ b h. or_left (is_printable b) (eqb b 36) h) (single_of a k) (kept_printable k (single_of a k) (r.singles k))

pub text_class : (a : Attributes) → canonical a ≡ true → (n : ℕ) → all is_text_char (local_text keys (remaining n a)) ≡ true
text_class a h n =
    let b = remaining n a in
    let r = ruled n a h in
    by_test (writes_short b)
    (λ e. rw (local-short b e) (name_class b r))
    (λ e. rw (local_long b e) (record_class b r))
