-- Laws of the fields of a region of the table text, as the code reads them one at a time, and of a line by its fields.
-- Assumes nothing.
use mathlib.Core.Path.{◌≡◌, refl, sym, ap, ap₂, ◌∙◌}
use mathlib.Core.Bool.{Bool, true, false, ◌&&◌, and-false, and-true, or-false}
use mathlib.Core.List.{List, [], ◌∷◌}
use Prim.Native.Nat.{ℕ, suc, ◌+◌, ◌-◌, ◌≤◌, ◌<◌}
use native.Mathlib.Numerals.{add-one}
use native.Mathlib.Omega.{arith}
use borrow.Author.Tests.{le-leb, le-ltb, leb-true, lt-leb, lt-ltb, ltb-true, ltb-false, ne_eqb}
use lib.Dec.{eqb, leb, ltb, leb-suc-suc}
use lib.ListN.{length, take, drop, get_or, length-drop}
use lib.Seq.{drop_at, length-take-le, slice-cons, take-add, take-take}
use Rattle.chars.specs.Lists.{all, non_empty}
use Rattle.chars.specs.Case.{agree, equal_text}
use Rattle.chars.specs.Parts.{before, run, split}
use Rattle.chars.specs.Spaces.{is_text}
use Rattle.oraddr.specs.Bounds.{OU, bound_of, is_country, is_space, is_value, level_count, rule}
use Rattle.oraddr.specs.Canonical.{is_unit}
use Rattle.chars.proofs.Laws.Lists.{and_right, and-three, by_test, true_not_false}
use Rattle.chars.proofs.Laws.Case.{equal_refl}
use Rattle.chars.proofs.Laws.Parts.{run_le, split-at_sep, split-end, split_head, split_next, split-some}
use Rattle.mailaddr.specs.Domain.{is_domain}
use Rattle.table.specs.Table.{Token}
use Rattle.table.specs.Lines.{are_fields, has_tag, is_field, is_level, is_path, is_row, longest_gateway_domain, row_of}
use Rattle.table.specs.Rows.{RowFound, RowInside, between, fields_at, row_at}
use Rattle.table.specs.declared.line as line

-- a region is what is left of the text that ends with it
pub region : (s : List ℕ) (at end : ℕ) → at ≤ end → end ≤ length s → drop at (take end s) ≡ between s at end
unfolding between
region s at end a l =
    let e : end ≡ at + (end - at) = omega arith in
    ap (λ (n : ℕ). drop at (take n s)) e
    ∙ ap (drop at) (take-add at (end - at) s)
    ∙ drop_at (take at s) (take (end - at) (drop at s)) at (length-take-le at s (omega arith))

pub region_step : (s : List ℕ) (at end : ℕ) → at < end → end ≤ length s → between s at end ≡ get_or s at 0 ∷ between s (at + 1) end
region_step s at end h l =
    sym (region s at end (omega arith) l)
    ∙ slice-cons at end s 0 h l
    ∙ rw (← add-one at) (ap (λ (r : List ℕ). get_or s at 0 ∷ r) (region s (at + 1) end (omega arith) l))

pub fields_in : (s : List ℕ) (at end : ℕ) → at ≤ end → fields_at s at end ≡ split 9 (between s at end)
unfolding fields_at
fields_in s at end a = rw (le-leb at end a)

pub fields-past : (s : List ℕ) (at end : ℕ) → end < at → fields_at s at end ≡ []
unfolding fields_at
fields-past s at end a = rw (lt-leb at end a)

pub between-length : (s : List ℕ) (at end : ℕ) → at ≤ end → end ≤ length s → length (between s at end) ≡ end - at
unfolding between
between-length s at end a l = length-take-le (end - at) (drop at s) (omega (arith, length-drop at s))

pub between_none : (s : List ℕ) (at stop : ℕ) → stop ≡ at → between s at stop ≡ []
unfolding between
between_none s at stop e =
    let z : stop - at ≡ 0 = omega arith in
    rw z

-- the first field of a region, which ends at `stop`, and the others behind it
module _ (s : List ℕ) (at end stop : ℕ) (a : at ≤ end) (l : end ≤ length s) (q : stop ≡ at + run 9 (drop at (take end s))) where
  pub stop_within : stop ≤ end
  stop_within = omega (arith, run_le 9 (drop at (take end s)), length-drop at (take end s), length-take-le end s l)

  pub fields-first : fields_at s at end ≡ between s at stop ∷ fields_at s (stop + 1) end
  unfolding between
  fields-first =
      let n = length-take-le end s l in
      let w = stop_within in
      fields_in s at end a
      ∙ ap (split 9) (sym (region s at end a l))
      ∙ by_test (ltb stop end)
      (λ e. let h = ltb-true stop end e in
      split_next 9 (take end s) at stop q (omega arith)
      ∙ ap₂ (λ (x : List ℕ) (y : List ℕ). x ∷ split 9 y)
      (ap (take (stop - at)) (region s at end a l) ∙ take-take (stop - at) (end - at) (drop at s) (omega arith))
      (region s (stop + 1) end (omega arith) l)
      ∙ ap (λ (f : List Token). between s at stop ∷ f) (sym (fields_in s (stop + 1) end (omega arith))))
      (λ e. let h = ltb-false stop end e in
      let m : stop ≡ end = omega arith in
      split-end 9 (take end s) at stop q (omega arith)
      ∙ ap₂ (λ (x : List ℕ) (f : List Token). x ∷ f)
      (region s at end a l ∙ rw m)
      (sym (fields-past s (stop + 1) end (omega arith))))

pub fields-some : (s : List ℕ) (at end : ℕ) → at ≤ end → non_empty (fields_at s at end) ≡ true
fields-some s at end a = ap non_empty (fields_in s at end a) ∙ split-some 9 (between s at end)

-- ---- one field

-- an empty value keeps no rule
empty-value : (k : ℕ) → is_value k [] ≡ false
unfolding is_value is_text non_empty
empty-value k = and-false (leb 0 (bound_of k))

empty-rule : (k : ℕ) → rule k [] ≡ false
unfolding rule is_country is_space equal_text agree
empty-rule k = by_test (eqb k 0) (λ e. rw e) (λ e. rw (e, empty-value k, and-false (eqb k 1)))

empty_level : (k : ℕ) → is_level k [] ≡ false
unfolding is_level is_unit
empty_level k = by_test (ltb k 4) (λ e. rw (e, empty-rule k)) (λ e. rw (e, empty-value OU))

pub field_empty : (k : ℕ) (s : Token) → length s ≡ 0 → is_field k s ≡ eqb k 2
unfolding is_field non_empty
field_empty k [] h = rw (empty_level k, and-true (eqb k 2))
field_empty k (x ∷ s) h = absurd (omega arith)

field_some : (k : ℕ) (s : Token) → (length s ≡ 0 → ⊥) → is_field k s ≡ is_level k s
unfolding is_field non_empty
field_some k [] h = absurd (h refl)
field_some k (x ∷ s) h = rw (and-false (eqb k 2), or-false (is_level k (x ∷ s)))

pub field_own : (k : ℕ) (s : Token) → (length s ≡ 0 → ⊥) → k < 4 → is_field k s ≡ rule k s
unfolding is_level
field_own k s h l = field_some k s h ∙ rw (lt-ltb k 4 l)

pub field_unit : (k : ℕ) (s : Token) → (length s ≡ 0 → ⊥) → 4 ≤ k → is_field k s ≡ is_value OU s
unfolding is_level is_unit
field_unit k s h l = field_some k s h ∙ rw (le-ltb k 4 l)

-- ---- the fields from level k on, of which `left` are allowed

abbrev pub fit : ℕ → ℕ → List Token → Bool
fit k left fs = leb (length fs) left && are_fields k fs

pub fit_none : (k left : ℕ) → fit k left [] ≡ true
unfolding are_fields
fit_none k left = rw (le-leb 0 left (omega arith))

pub fit_over : (k left : ℕ) (fs : List Token) → non_empty fs ≡ true → left ≡ 0 → fit k left fs ≡ false
unfolding non_empty
fit_over k left [] h z = true_not_false true refl (sym h)
fit_over k left (f ∷ fs) h z = rw (lt-leb (suc (length fs)) left (omega arith))

module _ (k left : ℕ) {f : Token} {fs gs : List Token} (e : fs ≡ f ∷ gs) where
  pub fit_stop : is_field k f ≡ false → fit k left fs ≡ false
  unfolding are_fields
  fit_stop h = rw (e, h, and-false (leb (suc (length gs)) left))

  pub fit_next : is_field k f ≡ true → (left ≡ 0 → ⊥) → fit k left fs ≡ fit (k + 1) (left - 1) gs
  unfolding are_fields
  fit_next h z =
      let m : left ≡ suc (left - 1) = omega arith in
      rw (e, h, add-one k) (ap (λ (n : ℕ). leb (suc (length gs)) n && are_fields (suc k) gs) m ∙ rw (leb-suc-suc (length gs) (left - 1)))

-- ---- a path

pub no_path : is_path [] ≡ false
unfolding is_path
no_path = rw (lt-leb 2 0 (omega arith))

module _ {f : Token} {fs gs : List Token} (e : fs ≡ f ∷ gs) where
  pub path-one : gs ≡ [] → is_path fs ≡ false
  unfolding is_path
  path-one h = rw (e, h, lt-leb 2 1 (omega arith))

  pub path-more : non_empty gs ≡ true → is_path fs ≡ fit 0 8 fs
  unfolding is_path
  path-more h = rw (e, le-leb 2 (suc (length gs)) (more gs h))
    where
      more : (gs : List Token) → non_empty gs ≡ true → 2 ≤ suc (length gs)
      more [] h = true_not_false true refl (sym h)
      more (g ∷ gs) h = omega arith

-- ---- a line

-- a line of one byte or none has no path
pub row-short : (most : ℕ) (s : List ℕ) → length s < 2 → is_row most (row_of (split 9 s)) ≡ false
unfolding is_row row_of split before
row-short most [] h = rw (no_path, and-false (leb 0 most && is_domain []))
row-short most (x ∷ []) h =
    by_test (eqb x 9)
    (λ e. rw (e, no_path, and-false (leb 0 most && is_domain [])))
    (λ e. rw (e, no_path, and-false (leb 0 most && is_domain [])))
row-short most (x ∷ y ∷ s) h = absurd (omega arith)

-- another byte than the tag, and another than a tab behind it
tag_other : (tag x : ℕ) (s : List ℕ) → eqb x tag ≡ false → has_tag tag (split 9 (x ∷ s)) ≡ false
unfolding has_tag equal_text agree split before
tag_other tag x s h = by_test (eqb x 9) (λ e. rw e) (λ e. rw (e, split_head 9 s, h))

tab_other : (tag x y : ℕ) (s : List ℕ) → eqb y 9 ≡ false → has_tag tag (split 9 (x ∷ y ∷ s)) ≡ false
unfolding has_tag equal_text agree split before
tab_other tag x y s h = by_test (eqb x 9) (λ e. rw e) (λ e. rw (e, h, split_head 9 s, and-false (eqb x tag)))

-- the first two bytes of a line, and the others
line-front : (s : List ℕ) (from end : ℕ) → from + 2 ≤ end → end ≤ length s
    → between s from end ≡ get_or s from 0 ∷ get_or s (from + 1) 0 ∷ between s (from + 2) end
line-front s from end h l =
    let e : from + 1 + 1 ≡ from + 2 = omega arith in
    region_step s from end (omega arith) l
    ∙ ap (λ (r : List ℕ). get_or s from 0 ∷ r)
    (region_step s (from + 1) end (omega arith) l ∙ ap (λ (n : ℕ). get_or s (from + 1) 0 ∷ between s n end) e)

module _ (s : List ℕ) (from end tag : ℕ) (h : from + 2 ≤ end) (l : end ≤ length s) where
  pub line_untagged : (get_or s from 0 ≡ tag → ⊥) → has_tag tag (split 9 (between s from end)) ≡ false
  line_untagged n =
      ap (λ (r : List ℕ). has_tag tag (split 9 r)) (line-front s from end h l)
      ∙ tag_other tag (get_or s from 0) (get_or s (from + 1) 0 ∷ between s (from + 2) end) (ne_eqb (get_or s from 0) tag n)

  pub line_untabbed : (get_or s (from + 1) 0 ≡ 9 → ⊥) → has_tag tag (split 9 (between s from end)) ≡ false
  line_untabbed n =
      ap (λ (r : List ℕ). has_tag tag (split 9 r)) (line-front s from end h l)
      ∙ tab_other tag (get_or s from 0) (get_or s (from + 1) 0) (between s (from + 2) end) (ne_eqb (get_or s (from + 1) 0) 9 n)

  -- a tag, a tab and a domain that ends at `stop`
  module _ (stop : ℕ) (n : tag ≡ 9 → ⊥) (x : get_or s from 0 ≡ tag) (y : get_or s (from + 1) 0 ≡ 9) (q : stop ≡ from + 2 + run 9 (drop (from + 2) (take end s))) where
    pub line-fields : split 9 (between s from end) ≡ (tag ∷ []) ∷ between s (from + 2) stop ∷ fields_at s (stop + 1) end
    unfolding all
    line-fields =
        ap (split 9) (line-front s from end h l ∙ rw (x, y))
        ∙ split-at_sep 9 (tag ∷ []) (between s (from + 2) end) (rw (ne_eqb tag 9 n))
        ∙ ap (λ (fs : List Token). (tag ∷ []) ∷ fs) (sym (fields_in s (from + 2) end h) ∙ fields-first s (from + 2) end stop h l q)

    pub line_test : (most : ℕ) → has_tag tag (split 9 (between s from end)) && is_row most (row_of (split 9 (between s from end)))
        ≡ leb (stop - (from + 2)) most && is_domain (between s (from + 2) stop) && is_path (fields_at s (stop + 1) end)
    unfolding has_tag is_row row_of
    line_test most =
        ap (λ (fs : List Token). has_tag tag fs && is_row most (row_of fs)) line-fields
        ∙ rw (equal_refl (tag ∷ []), between-length s (from + 2) stop (omega arith) (omega (arith, stop_within s (from + 2) end stop h l q)))

-- ---- a row in the text

-- a row that keeps the rules, at places in the text, is inside it
pub row_inside : (s : List ℕ) (p : line.Row.Row) (most : ℕ) → is_row most (row_at s p) ≡ true → most ≤ longest_gateway_domain
    → p.domain ≤ p.domain_end → p.domain_end ≤ length s → p.path ≤ p.path_end → p.path_end ≤ length s → RowInside s p
unfolding is_row is_path row_at
row_inside s p most h m d w q e =
    let r = row_at s p in
    let fs = fields_at s p.path p.path_end in
    let t = and-three (leb (length r.domain) most) (is_domain r.domain) (is_path r.path) h in
    let u = and-three (leb 2 (length fs)) (leb (length fs) level_count) (are_fields 0 fs) t.2 in
    record {
      domain = d;
      within-domain = w;
      path = q;
      within = e;
      short = omega (arith, leb-true (length r.domain) most t.0, m, between-length s p.domain p.domain_end d w);
      levels = leb-true (length fs) level_count u.1;
    }

-- as the row that was found in a line is
pub found_inside : {s : List ℕ} {from end tag most : ℕ} {p : line.Row.Row} → RowFound s from end tag most p → end ≤ length s → most ≤ longest_gateway_domain → RowInside s p
found_inside {s} {from} {end} {tag} {most} {p} f e m =
    let r = row_of (split 9 (between s from end)) in
    row_inside s p most (rw f.row (and_right (has_tag tag (split 9 (between s from end))) (is_row most r) f.accepted)) m
    f.domain (omega (arith, f.apart, f.path, f.ends)) f.path (omega (arith, f.ends))
