-- Laws of the levels that are added one at a time, and of the parts of a domain in front of its tail.
-- Assumes nothing.
use mathlib.Core.Path.{◌≡◌, refl, sym, ap, ap₂, ◌∙◌}
use mathlib.Core.Bool.{true, false, cond}
use mathlib.Core.List.{List, [], ◌∷◌, ◌++◌, reverse}
use mathlib.Core.Option.{Option, some}
use Prim.Native.Nat.{ℕ, zero, suc, ◌+◌, ◌-◌, ◌≤◌, ◌<◌}
use native.Mathlib.Nat.{add-zero}
use native.Mathlib.Numerals.{add-one}
use native.Mathlib.Omega.{arith}
use borrow.Author.Tests.{le-ltb, lt-ltb}
use lib.Dec.{eqb}
use lib.ListN.{length, take, drop, get_or, drop_of_length-le, length-append, length-map, length-reverse}
use lib.Seq.{drop_at, split_at}
use Rattle.chars.specs.Case.{fold_text, same_text}
use Rattle.chars.specs.Lists.{non_empty}
use Rattle.chars.specs.Parts.{run, split}
use Rattle.mailaddr.specs.Domain.{parts_of}
use Rattle.mailaddr.proofs.Laws.Domain.{part-first, parts_left}
use Rattle.oraddr.specs.Add.{Outcome, add_single, add_unit, number_of, told}
use Rattle.oraddr.specs.View.{empty_record}
use Rattle.oraddr.specs.declared.add.Added.TheVariants.{Done, Refused}
use Rattle.oraddr.specs.declared.add.Addition.{Addition}
use Rattle.oraddr.specs.declared.record.Record.{Record}
use Rattle.table.specs.Table.{Row, Token}
use Rattle.table.specs.Rows.{Inside, places_at, row_at, rows_at}
use Rattle.table_lookup.specs.Begins.{resolve_by, settled_by}
use Rattle.table_lookup.specs.Lookup.{begins, by_domain, by_path}
use Rattle.table_lookup.specs.Looked.{Looked, found_row}
use Rattle.table_settle.specs.Settle.{add_level, add_levels, begun, left_parts, no_row, past_bound, past_units, settled_as, settled_from, settling}
use Rattle.std.specs.Prelude.{Some, None}
use Rattle.table.proofs.Laws.Fields.{between-length}
use Rattle.table_lookup.proofs.Laws.Lookup.{found-begins}
use Rattle.table_lookup.proofs.Laws.Tails.{fold-parts, parts-append, tail-place}

-- ---- a token at a level

none-empty : (t : Token) → length t ≡ 0 → non_empty t ≡ false
unfolding non_empty
none-empty [] h = refl
none-empty (x ∷ t) h = absurd (omega arith)

some-full : (t : Token) → (length t ≡ 0 → ⊥) → non_empty t ≡ true
unfolding non_empty
some-full [] h = absurd (h refl)
some-full (x ∷ t) h = refl

module _ (k : ℕ) (t : Token) (r : Record) where
  pub level_omitted : length t ≡ 0 → add_level k t r ≡ begun r
  unfolding add_level
  level_omitted h = rw (none-empty t h)

  pub level_single : (length t ≡ 0 → ⊥) → k < 4 → add_level k t r ≡ add_single r k t
  unfolding add_level
  level_single h l = rw (some-full t h, lt-ltb k 4 l)

  pub level_unit : (length t ≡ 0 → ⊥) → 4 ≤ k → add_level k t r ≡ add_unit r t
  unfolding add_level
  level_unit h l = rw (some-full t h, le-ltb k 4 l)

-- ---- the tokens at the levels from one on

pub told-done : (a : Addition) → a.answer ≡ Done → told a ≡ begun a.«record»
told-done a e = ap (λ x. record { number = number_of x; record' = a.«record» }) e

pub told-refused : (a : Addition) → a.answer ≡ Refused → eqb (told a).number 0 ≡ false
told-refused a e = ap (λ x. eqb (number_of x) 0) e

pub levels-none : (k : ℕ) (fs : List Token) (o : Outcome) → fs ≡ [] → add_levels k fs o ≡ o
unfolding add_levels
levels-none k fs o e = rw e

-- after a refusal nothing is added
pub levels_stop : (k : ℕ) (fs : List Token) (o : Outcome) → eqb o.number 0 ≡ false → add_levels k fs o ≡ o
unfolding add_levels
levels_stop k [] o h = refl
levels_stop k (f ∷ fs) o h = rw h (levels_stop (suc k) fs o h)

levels_next : (k : ℕ) (fs : List Token) (f : Token) (gs : List Token) → fs ≡ f ∷ gs → (r : Record) → add_levels k fs (begun r) ≡ add_levels (k + 1) gs (add_level k f r)
unfolding add_levels
levels_next k fs f gs e r = rw (e, add-one k)

-- a token added to what came of those before it, and then those behind it
pub levels-added : (k : ℕ) {fs : List Token} (f : Token) (gs : List Token) → fs ≡ f ∷ gs → (a r : Addition) → a.answer ≡ Done → told r ≡ add_level k f a.«record»
    → add_levels k fs (told a) ≡ add_levels (k + 1) gs (told r)
levels-added k {fs} f gs e a r d q = ap (add_levels k fs) (told-done a d) ∙ levels_next k fs f gs e a.«record» ∙ ap (add_levels (k + 1) gs) (sym q)

levels-append : (k : ℕ) (fs gs : List Token) (o : Outcome) → add_levels k (fs ++ gs) o ≡ add_levels (k + length fs) gs (add_levels k fs o)
unfolding add_levels
levels-append k [] gs o = rw (add-zero k)
levels-append k (f ∷ fs) gs o =
    let e : suc k + length fs ≡ k + suc (length fs) = omega arith in
    levels-append (suc k) fs gs (cond (eqb o.number 0) (add_level k f o.record') o) ∙ rw e

-- ---- the parts of a domain before a place

pub left_none : (d : List ℕ) (r : ℕ) → r ≡ 0 → left_parts d r ≡ []
unfolding left_parts
left_none d r h = rw h

left_some : (d : List ℕ) (r : ℕ) → 0 < r → left_parts d r ≡ parts_of (take (r - 1) d)
unfolding left_parts
left_some d r h = let e : r ≡ suc (r - 1) = omega arith in ap (left_parts d) e

left_same : (d : List ℕ) (r : ℕ) → parts_left d r ≡ left_parts d r
unfolding left_parts parts_left
left_same d zero = refl
left_same d (suc r) = refl

pub left_count : (d : List ℕ) (r : ℕ) → 0 < r → length (left_parts d r) ≡ length (split 46 (take (r - 1) d))
unfolding parts_of
left_count d r h = ap length (left_some d r h) ∙ length-reverse (split 46 (take (r - 1) d))

pub left_first : (d : List ℕ) (from r : ℕ) → 0 < from → from ≤ length d → r ≡ from - 1 - run 46 (reverse (take (from - 1) d))
    → left_parts d from ≡ take (from - 1 - r) (drop r d) ∷ left_parts d r
left_first d from r h l q =
    left_some d from h
    ∙ part-first d (from - 1) r (omega arith) q
    ∙ ap (λ (ps : List Token). take (from - 1 - r) (drop r d) ∷ ps) (left_same d r)

same_count : (t a : List ℕ) → same_text t a ≡ true → length (parts_of a) ≡ length (parts_of t)
same_count t a h = sym (length-map (parts_of a) fold_text) ∙ ap length (fold-parts t a h) ∙ length-map (parts_of t) fold_text

-- where a domain is a tail of another by whole parts, what is left of the other's parts stands before it
module _ (a d : List ℕ) (same : same_text (drop (length d - length a) d) a ≡ true) (dot : 0 < length d - length a → get_or d (length d - length a - 1) 0 ≡ 46) where
  left_at : (n : ℕ) → n ≡ length d - length a → drop (length (parts_of a)) (parts_of d) ≡ left_parts d n
  unfolding left_parts
  left_at zero q =
      let e : same_text d a ≡ true = ap (λ (n : ℕ). same_text (drop n d) a) q ∙ same in
      let l : length (parts_of d) ≤ length (parts_of a) = omega (arith, same_count d a e) in
      drop_of_length-le (parts_of d) l
  left_at (suc n) q =
      let e : same_text (drop (suc n) d) a ≡ true = ap (λ (m : ℕ). same_text (drop m d) a) q ∙ same in
      let z : n ≡ length d - length a - 1 = omega arith in
      let f : get_or d n 0 ≡ 46 = ap (λ (m : ℕ). get_or d m 0) z ∙ dot (omega arith) in
      let cut : d ≡ take n d ++ 46 ∷ drop (suc n) d =
      split_at d n 0 (omega arith) ∙ ap (λ (x : ℕ). take n d ++ x ∷ drop (suc n) d) f in
      ap (drop (length (parts_of a))) (ap parts_of cut ∙ parts-append (take n d) (drop (suc n) d))
      ∙ drop_at (parts_of (drop (suc n) d)) (parts_of (take n d)) (length (parts_of a)) (sym (same_count (drop (suc n) d) a e))

pub left_drop : (a d : List ℕ) → begins (parts_of a) (parts_of d) ≡ true → drop (length (parts_of a)) (parts_of d) ≡ left_parts d (length d - length a)
left_drop a d h = let p = tail-place a d h in left_at a d p.1 p.2 (length d - length a) refl

-- ---- what it comes to

pub settled-past : (ts : List Token) → 8 < length ts → settled_from (some ts) ≡ past_units
unfolding settled_from
settled-past ts h = rw (lt-ltb 8 (length ts) h)

pub settled-refused : (n : ℕ) (o : Outcome) → eqb o.number 0 ≡ false → settled_as n o ≡ past_bound
unfolding settled_as
settled-refused n o h = rw h

pub settled-row : (fs gs : List Token) (k n : ℕ) (o : Outcome) → k ≡ length fs → n ≡ length gs → k + n ≤ 8 → o ≡ add_levels 0 fs (begun empty_record)
    → settled_as (k + n) (add_levels k gs o) ≡ settled_from (some (fs ++ gs))
unfolding settled_from
settled-row fs gs k n o e f h q =
    let l = length-append fs gs in
    let z : 0 + length fs ≡ k = omega arith in
    let m : k + n ≡ length (fs ++ gs) = omega arith in
    ap₂ (λ (m : ℕ) (u : Outcome). settled_as m u) m
    (ap (add_levels k gs) q ∙ ap (λ (j : ℕ). add_levels j gs (add_levels 0 fs (begun empty_record))) (sym z) ∙ sym (levels-append 0 fs gs (begun empty_record)))
    ∙ rw (le-ltb 8 (length (fs ++ gs)) (omega arith))

-- a row that was found
module _ (s ns d : List ℕ) (n : ℕ) (p : Inside s ns n) (i : ℕ) (h : Looked by_domain s ns n (parts_of d) (Some i)) where
  found-tail : begins (parts_of (row_at s (places_at ns i)).domain) (parts_of d) ≡ true
  found-tail = found-begins by_domain s ns (parts_of d) n i h

  size : length (row_at s (places_at ns i)).domain ≡ (places_at ns i).domain_end - (places_at ns i).domain
  unfolding row_at
  size =
      let q = p.each i h.below in
      between-length s (places_at ns i).domain (places_at ns i).domain_end q.domain q.within-domain

  pub found-fits : (places_at ns i).domain_end - (places_at ns i).domain ≤ length d
  found-fits = omega (arith, size, (tail-place (row_at s (places_at ns i)).domain d found-tail).0)

  pub settling-row : settled_from (some ((row_at s (places_at ns i)).path ++ left_parts d (length d - ((places_at ns i).domain_end - (places_at ns i).domain)))) ≡ settling (rows_at s ns n) d
  unfolding settling resolve_by settled_by found_row
  settling-row =
      let r = row_at s (places_at ns i) in
      ap (λ (m : ℕ). settled_from (some (r.path ++ left_parts d (length d - m)))) (sym size)
      ∙ ap (λ (ts : List Token). settled_from (some (r.path ++ ts))) (sym (left_drop r.domain d found-tail))
      ∙ sym (ap (λ (o : Option Row). settled_from (settled_by by_domain by_path (parts_of d) o)) h.row)

pub settling-none : (s ns d : List ℕ) (n : ℕ) → Looked by_domain s ns n (parts_of d) None → no_row ≡ settling (rows_at s ns n) d
unfolding settling resolve_by settled_by found_row settled_from
settling-none s ns d n h = sym (ap (λ (o : Option Row). settled_from (settled_by by_domain by_path (parts_of d) o)) h.row)
