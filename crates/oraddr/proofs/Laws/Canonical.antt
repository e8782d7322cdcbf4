-- Laws of "canonical": its parts, and that two records that are the same are canonical together.
-- Assumes nothing.
use mathlib.Core.Path.{◌≡◌, refl, sym, ap, ◌∙◌}
use mathlib.Core.Bool.{Bool, true, ◌&&◌, ◌||◌, not, and-false}
use mathlib.Core.List.{List, [], ◌∷◌}
use Prim.Native.Nat.{ℕ, suc, ◌≤◌, ◌<◌}
use native.Mathlib.Nat.{not-suc-le-zero}
use borrow.Author.Tests.{le-leb, leb-true}
use lib.Dec.{eqb, leb, ltb}
use lib.ListN.{length}
use Rattle.chars.specs.Lists.{all, non_empty}
use Rattle.chars.specs.Class.{between, is_in, is_letter}
use Rattle.chars.specs.Case.{agree, equal_text, fold_case, fold_text, same_text}
use Rattle.chars.specs.declared.class.Class.TheVariants.{Digit, Letter}
use Rattle.chars.proofs.Laws.Lists.{and_left, and_right, true_not_false}
use Rattle.chars.proofs.Laws.Case.{agree-length, all-fold, equal-path, length-fold, same-path}
use Rattle.chars.proofs.Laws.Parts.{fold_is}
use Rattle.chars.proofs.Laws.Spaces.{text-fold}
use Rattle.chars.proofs.Laws.Seq.{some_test}
use Rattle.oraddr.specs.Attributes.{Attributes, Dd, single_of}
use Rattle.oraddr.specs.Bounds.{is_country, is_space, is_value, most, rule, ADMD, C, CN, dd_type, G, GQ, I, OU, S}
use Rattle.oraddr.specs.Same.{same_attributes, same_dd}
use Rattle.oraddr.specs.Canonical.{all_kept, canonical, canonical_record, identified, is_dd, is_unit, kept, names_with_surname}
use Rattle.oraddr.specs.View.{in_range, view}
use Rattle.oraddr.specs.declared.record.Record.{Record}
use Rattle.oraddr.proofs.Laws.Same.{same-dds, same-single, same_singles, same_units}

-- ---- one text

pub kept-some : (k : ℕ) (s : List ℕ) → 0 < length s → kept k s ≡ rule k s
unfolding kept non_empty
kept-some k [] h = absurd (not-suc-le-zero h)
kept-some k (x ∷ s) h = refl

pub canonical-view : (r : Record) → canonical_record r ≡ true → canonical (view r) ≡ true
unfolding canonical_record
canonical-view r h = and_right (in_range r) (canonical (view r)) h

-- ---- the parts of `canonical`

pub record Parts (a : Attributes) : Type 0 where
  pub country : non_empty (single_of a C) ≡ true
  pub domain : non_empty (single_of a ADMD) ≡ true
  pub singles : all_kept 0 a.single ≡ true
  pub few-units : length a.units ≤ most
  pub units : all is_unit a.units ≡ true
  pub few-dds : length a.dds ≤ most
  pub dds : all is_dd a.dds ≡ true
  pub names : names_with_surname a ≡ true
  pub named : identified a ≡ true

pub canonical-parts : (a : Attributes) → canonical a ≡ true → Parts a
unfolding canonical
canonical-parts a h =
    let c = non_empty (single_of a C) in
    let m = non_empty (single_of a ADMD) in
    let k = all_kept 0 a.single in
    let lu = leb (length a.units) most in
    let u = all is_unit a.units in
    let ld = leb (length a.dds) most in
    let d = all is_dd a.dds in
    let n = names_with_surname a in
    let h8 = and_left (c && m && k && lu && u && ld && d && n) (identified a) h in
    let h7 = and_left (c && m && k && lu && u && ld && d) n h8 in
    let h6 = and_left (c && m && k && lu && u && ld) d h7 in
    let h5 = and_left (c && m && k && lu && u) ld h6 in
    let h4 = and_left (c && m && k && lu) u h5 in
    let h3 = and_left (c && m && k) lu h4 in
    let h2 = and_left (c && m) k h3 in
    record {
      country = and_left c m h2;
      domain = and_right c m h2;
      singles = and_right (c && m) k h3;
      few-units = leb-true (length a.units) most (and_right (c && m && k) lu h4);
      units = and_right (c && m && k && lu) u h5;
      few-dds = leb-true (length a.dds) most (and_right (c && m && k && lu && u) ld h6);
      dds = and_right (c && m && k && lu && u && ld) d h7;
      names = and_right (c && m && k && lu && u && ld && d) n h8;
      named = and_right (c && m && k && lu && u && ld && d && n) (identified a) h;
    }

pub parts-canonical : (a : Attributes) → Parts a → canonical a ≡ true
unfolding canonical
parts-canonical a p =
    rw (p.country, p.domain, p.singles, le-leb (length a.units) most p.few-units, p.units, le-leb (length a.dds) most p.few-dds, p.dds, p.names)
    p.named

-- ---- letter case is no matter to a rule

by_length : {A B : Type 0} (s : List A) (t : List B) → length s ≡ length t → non_empty s ≡ non_empty t
by_length s t e = sym (some_test s) ∙ ap (ltb 0) e ∙ some_test t

space_fold : (s : List ℕ) → is_space (fold_text s) ≡ is_space s
unfolding fold_text is_space equal_text agree is_letter between
space_fold [] = refl
space_fold (x ∷ []) = rw (fold_is 32 refl x)
space_fold (x ∷ y ∷ s) = and-false (eqb (fold_case x) 32) ∙ sym (and-false (eqb x 32))

value-fold : (k : ℕ) (s : List ℕ) → is_value k (fold_text s) ≡ is_value k s
unfolding is_value
value-fold k s = rw (length-fold s, text-fold s)

country_fold : (s : List ℕ) → is_country (fold_text s) ≡ is_country s
unfolding is_country is_in
country_fold s = rw (length-fold s, all-fold Letter s, all-fold Digit s)

pub rule-fold : (k : ℕ) (s : List ℕ) → rule k (fold_text s) ≡ rule k s
unfolding rule
rule-fold k s = rw (country_fold s, value-fold k s, space_fold s)

some-fold : (s : List ℕ) → non_empty (fold_text s) ≡ non_empty s
some-fold s = by_length (fold_text s) s (length-fold s)

-- what folding leaves alone is the same of two texts that are the same
module _ {X : Type 0} (f : List ℕ → X) (e : (s : List ℕ) → f (fold_text s) ≡ f s) where
  by-fold : (s t : List ℕ) → same_text s t ≡ true → f s ≡ f t
  by-fold s t h = sym (e s) ∙ ap f (same-path s t h) ∙ e t

pub some_same : (s t : List ℕ) → same_text s t ≡ true → non_empty s ≡ non_empty t
some_same = by-fold non_empty some-fold

kept_same : (k : ℕ) (s t : List ℕ) → same_text s t ≡ true → kept k s ≡ kept k t
unfolding kept
kept_same k =
    by-fold (kept k)
    (λ s. ap (λ (b : Bool). not b || rule k (fold_text s)) (some-fold s) ∙ ap (λ (b : Bool). not (non_empty s) || b) (rule-fold k s))

pub unit_same : (s t : List ℕ) → same_text s t ≡ true → is_unit s ≡ is_unit t
unfolding is_unit
unit_same = by-fold is_unit (value-fold OU)

dd-same : (d e : Dd) → same_dd d e ≡ true → is_dd d ≡ is_dd e
unfolding same_dd is_dd
dd-same d e h =
    rw (
      by-fold (is_value dd_type) (value-fold dd_type) d.kind e.kind (and_left (same_text d.kind e.kind) (equal_text d.value e.value) h),
      equal-path d.value e.value (and_right (same_text d.kind e.kind) (equal_text d.value e.value) h),
    )

-- ---- what is the same as a canonical record is canonical

all-agree : {A : Type 0} (e : A → A → Bool) (p : A → Bool) → ((x y : A) → e x y ≡ true → p x ≡ p y) → (s t : List A) → agree e s t ≡ true → all p s ≡ all p t
unfolding agree all
all-agree e p f [] [] h = refl
all-agree e p f [] (y ∷ t) h = true_not_false true refl (sym h)
all-agree e p f (x ∷ s) [] h = true_not_false true refl (sym h)
all-agree e p f (x ∷ s) (y ∷ t) h = rw (f x y (and_left (e x y) (agree e s t) h), all-agree e p f s t (and_right (e x y) (agree e s t) h))

kept-agree : (k : ℕ) (s t : List (List ℕ)) → agree same_text s t ≡ true → all_kept k s ≡ all_kept k t
unfolding agree all_kept
kept-agree k [] [] h = refl
kept-agree k [] (y ∷ t) h = true_not_false true refl (sym h)
kept-agree k (x ∷ s) [] h = true_not_false true refl (sym h)
kept-agree k (x ∷ s) (y ∷ t) h =
    rw (kept_same k x y (and_left (same_text x y) (agree same_text s t) h), kept-agree (suc k) s t (and_right (same_text x y) (agree same_text s t) h))

some-agree : {A : Type 0} (e : A → A → Bool) (s t : List A) → agree e s t ≡ true → non_empty s ≡ non_empty t
some-agree e s t h = by_length s t (agree-length e s t h)

module _ (a b : Attributes) (h : same_attributes a b ≡ true) where
  pub same-present : (k : ℕ) → non_empty (single_of a k) ≡ non_empty (single_of b k)
  same-present k = some_same (single_of a k) (single_of b k) (same-single a b h k)

  pub canonical-same : canonical a ≡ canonical b
  unfolding canonical names_with_surname identified
  canonical-same =
      rw (
        same-present C,
        same-present ADMD,
        same-present S,
        same-present G,
        same-present I,
        same-present GQ,
        same-present CN,
        kept-agree 0 a.single b.single (same_singles a b h),
        agree-length same_text a.units b.units (same_units a b h),
        all-agree same_text is_unit unit_same a.units b.units (same_units a b h),
        agree-length same_dd a.dds b.dds (same-dds a b h),
        all-agree same_dd is_dd dd-same a.dds b.dds (same-dds a b h),
        some-agree same_dd a.dds b.dds (same-dds a b h),
      )
