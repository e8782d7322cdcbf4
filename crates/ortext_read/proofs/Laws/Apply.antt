-- Laws of the fold of additions: what a record is made of once attributes are added to it, and completed.
-- Assumes nothing.
use mathlib.Core.Path.{◌≡◌, refl, sym, ap, ◌∙◌}
use mathlib.Core.Bool.{Bool, true, false, ◌&&◌, cond, and-false}
use mathlib.Core.List.{List, [], ◌∷◌, ◌++◌, append_assoc, append-nil}
use Prim.Native.Nat.{ℕ, suc, ◌+◌, ◌≤◌, ◌<◌}
use native.Mathlib.Omega.{arith}
use borrow.Author.Tests.{ltb-true, ltb-false}
use lib.Dec.{eqb, ltb}
use lib.ListN.{length, get_or, set, length-append}
use lib.Seq.{get_or-set_other, set_out}
use Rattle.chars.specs.Lists.{all, non_empty}
use Rattle.chars.proofs.Laws.Lists.{and_left, and_right, by_test, or_right}
use Rattle.chars.specs.Case.{agree, equal_text}
use Rattle.chars.proofs.Laws.Seq.{absent_is, some_test}
use Rattle.oraddr.specs.Bounds.{ADMD, C, is_space, is_value, most, rule, single_count}
use Rattle.oraddr.specs.Attributes.{Attributes, Dd, single_of}
use Rattle.oraddr.specs.Canonical.{all_kept, is_dd, is_unit, kept}
use Rattle.oraddr.specs.Add.{Outcome, add_dd, add_single, add_unit, set_single}
use Rattle.oraddr.specs.View.{value_of, view}
use Rattle.oraddr.specs.declared.record.Record.{Record}
use Rattle.oraddr.proofs.Laws.Canonical.{kept-some}
use Rattle.oraddr.proofs.Laws.Made.{Made, made_single, made_unit, made_dd, single-added, unit_added, dd-added}
use Rattle.oraddr.proofs.Laws.View.{outcome_keeps}
use Rattle.ortext_build.proofs.Laws.Adding.{then_is}
use Rattle.ortext_read.specs.Apply.{add_all, complete}
use Rattle.ortext_build.specs.Adding.{add_dds, add_singles, add_units, and_then}

-- what is absent is empty
-- ---- what is added over what is there

-- the values of one list where they are present, else those of the other, at the places of the other
unfoldable pub merged : List (List ℕ) → List (List ℕ) → List (List ℕ)
unfolding non_empty
merged [] ts = ts
merged (s ∷ ss) [] = []
merged (s ∷ ss) (t ∷ ts) = cond (non_empty s) s t ∷ merged ss ts

-- the same, one place after the other, from the place k on
unfoldable merged_from : ℕ → List (List ℕ) → List (List ℕ) → List (List ℕ)
unfolding non_empty
merged_from k [] ts = ts
merged_from k (s ∷ ss) ts = merged_from (suc k) ss (cond (non_empty s) (set ts k s) ts)

merged-none : (k : ℕ) (ss : List (List ℕ)) → merged_from k ss [] ≡ []
unfolding merged_from
merged-none k [] = refl
merged-none k (s ∷ ss) = by_test (non_empty s) (λ e. rw e (merged-none (suc k) ss)) (λ e. rw e (merged-none (suc k) ss))

merged-behind : (k : ℕ) (ss : List (List ℕ)) (t : List ℕ) (ts : List (List ℕ)) → merged_from (suc k) ss (t ∷ ts) ≡ t ∷ merged_from k ss ts
unfolding merged_from
merged-behind k [] t ts = refl
merged-behind k (s ∷ ss) t ts =
    by_test (non_empty s)
    (λ e. rw e (merged-behind (suc k) ss t (set ts k s)))
    (λ e. rw e (merged-behind (suc k) ss t ts))

merged-all : (ss ts : List (List ℕ)) → merged_from 0 ss ts ≡ merged ss ts
unfolding merged merged_from
merged-all [] ts = refl
merged-all (s ∷ ss) [] = merged-none 0 (s ∷ ss)
merged-all (s ∷ ss) (t ∷ ts) =
    by_test (non_empty s)
    (λ e. rw (e, ← merged-all ss ts) (merged-behind 0 ss s ts))
    (λ e. rw (e, ← merged-all ss ts) (merged-behind 0 ss t ts))

-- ---- additions that are done

-- nothing was refused, and the record holds b
pub record Holds (o : Outcome) (b : Attributes) : Type 0 where
  pub done : o.number ≡ 0
  pub made : Made o.record'
  pub shows : view o.record' ≡ b

-- an addition past the last place changes nothing
made_at : (r : Record) → Made r → (k : ℕ) (v : List ℕ) → Made (add_single r k v).record'
unfolding add_single set_single
made_at r m k v =
    by_test (ltb k single_count)
    (λ e. made_single r m k v (ltb-true k single_count e))
    (λ e. outcome_keeps Made (rule k v && eqb (get_or r.singles.values k (value_of [])).len 0)
    (record { singles = record { values = set r.singles.values k (value_of v) }; units = r.units; dds = r.dds }) r
    (λ _. rw (set_out r.singles.values k (value_of v) (omega (arith, m.shaped.values, ltb-false k single_count e))) m)
    m)

module _ (o : Outcome) (b : Attributes) (h : Holds o b) where
  single_next : (k : ℕ) (v : List ℕ) → rule k v ≡ true → single_of b k ≡ []
      → Holds (and_then o (λ r. add_single r k v)) (record { single = set b.single k v; units = b.units; dds = b.dds })
  single_next k v g e =
      let q = o.record' in
      let p = single-added q h.made k v g (ap (λ (c : Attributes). single_of c k) h.shows ∙ e) in
      rw (then_is o (λ r. add_single r k v) h.done)
      (record { done = p.0; made = made_at q h.made k v; shows = rw h.shows at p.1 })

  unit_next : (v : List ℕ) → is_unit v ≡ true → length b.units < most
      → Holds (and_then o (λ r. add_unit r v)) (record { single = b.single; units = b.units ++ (v ∷ []); dds = b.dds })
  unit_next v g l =
      let q = o.record' in
      let p = unit_added q h.made v g (rw h.shows l) in
      rw (then_is o (λ r. add_unit r v) h.done)
      (record { done = p.0; made = made_unit q h.made v; shows = rw h.shows at p.1 })

  dd_next : (d : Dd) → is_dd d ≡ true → length b.dds < most
      → Holds (and_then o (λ r. add_dd r d.kind d.value)) (record { single = b.single; units = b.units; dds = b.dds ++ (d ∷ []) })
  dd_next d g l =
      let q = o.record' in
      let p = dd-added q h.made d.kind d.value g (rw h.shows l) in
      rw (then_is o (λ r. add_dd r d.kind d.value) h.done)
      (record { done = p.0; made = made_dd q h.made d.kind d.value; shows = rw h.shows at p.1 })

-- ---- the folds

one_on : (k j : ℕ) → suc k + j ≡ k + suc j
one_on k j = omega arith

none-on : (k : ℕ) → k ≡ k + 0
none-on k = omega arith

none_before : (k : ℕ) → 0 + k ≡ k
none_before k = omega arith

either_holds : (t : Bool) (p q : Outcome) (x y : List (List ℕ)) (b : Attributes)
    → (t ≡ true → Holds p (record { single = x; units = b.units; dds = b.dds }))
    → (t ≡ false → Holds q (record { single = y; units = b.units; dds = b.dds }))
    → Holds (cond t p q) (record { single = cond t x y; units = b.units; dds = b.dds })
either_holds true p q x y b f g = f refl
either_holds false p q x y b f g = g refl

set_before : (t : Bool) (ts : List (List ℕ)) (k j : ℕ) (s : List ℕ) → get_or (cond t (set ts k s) ts) (suc k + j) [] ≡ get_or ts (k + suc j) []
set_before true ts k j s = get_or-set_other ts k (suc k + j) s [] (λ q. omega arith) ∙ ap (λ x. get_or ts x []) (one_on k j)
set_before false ts k j s = ap (λ x. get_or ts x []) (one_on k j)

-- the values are to go where there is none yet
singles_added : (k : ℕ) (ss : List (List ℕ)) (o : Outcome) (b : Attributes) → Holds o b → all_kept k ss ≡ true
    → ((j : ℕ) → non_empty (get_or ss j []) ≡ true → get_or b.single (k + j) [] ≡ [])
    → Holds (add_singles k ss o) (record { single = merged_from k ss b.single; units = b.units; dds = b.dds })
unfolding add_singles all_kept merged_from single_of
singles_added k [] o b h g f = h
singles_added k (s ∷ ss) o b h g f =
    let t = non_empty s in
    let next = and_then o (λ r. add_single r k s) in
    singles_added (suc k) ss (cond t next o) (record { single = cond t (set b.single k s) b.single; units = b.units; dds = b.dds })
    (either_holds t next o (set b.single k s) b.single b
    (λ e. single_next o b h k s
    (sym (kept-some k s (ltb-true 0 (length s) (some_test s ∙ e))) ∙ and_left (kept k s) (all_kept (suc k) ss) g)
    (ap (λ x. get_or b.single x []) (none-on k) ∙ f 0 e))
    (λ e. h))
    (and_right (kept k s) (all_kept (suc k) ss) g)
    (λ j i. set_before t b.single k j s ∙ f (suc j) i)

units-added : (ss : List (List ℕ)) (o : Outcome) (b : Attributes) → Holds o b → all is_unit ss ≡ true → length b.units + length ss ≤ most
    → Holds (add_units ss o) (record { single = b.single; units = b.units ++ ss; dds = b.dds })
unfolding add_units all
units-added [] o b h g l = rw (append-nil b.units) h
units-added (s ∷ ss) o b h g l =
    rw (← append_assoc b.units (s ∷ []) ss)
    (units-added ss (and_then o (λ r. add_unit r s)) (record { single = b.single; units = b.units ++ (s ∷ []); dds = b.dds })
    (unit_next o b h s (and_left (is_unit s) (all is_unit ss) g) (omega arith))
    (and_right (is_unit s) (all is_unit ss) g)
    (rw (length-append b.units (s ∷ [])) (omega arith)))

dds-added : (ds : List Dd) (o : Outcome) (b : Attributes) → Holds o b → all is_dd ds ≡ true → length b.dds + length ds ≤ most
    → Holds (add_dds ds o) (record { single = b.single; units = b.units; dds = b.dds ++ ds })
unfolding add_dds all
dds-added [] o b h g l = rw (append-nil b.dds) h
dds-added (d ∷ ds) o b h g l =
    rw (← append_assoc b.dds (d ∷ []) ds)
    (dds-added ds (and_then o (λ r. add_dd r d.kind d.value)) (record { single = b.single; units = b.units; dds = b.dds ++ (d ∷ []) })
    (dd_next o b h d (and_left (is_dd d) (all is_dd ds) g) (omega arith))
    (and_right (is_dd d) (all is_dd ds) g)
    (rw (length-append b.dds (d ∷ [])) (omega arith)))

-- what may be added to a record that holds b
pub record Fits (a b : Attributes) : Type 0 where
  pub singles : all_kept 0 a.single ≡ true
  pub free : (k : ℕ) → non_empty (single_of a k) ≡ true → single_of b k ≡ []
  pub units : all is_unit a.units ≡ true
  pub few-units : length b.units + length a.units ≤ most
  pub dds : all is_dd a.dds ≡ true
  pub few-dds : length b.dds + length a.dds ≤ most

-- one set of attributes over another
unfoldable pub over : Attributes → Attributes → Attributes
unfolding merged
over a b = record { single = merged a.single b.single; units = b.units ++ a.units; dds = b.dds ++ a.dds }

pub all-added : (a : Attributes) (r : Record) → Made r → Fits a (view r) → Holds (add_all a r) (over a (view r))
unfolding add_all over single_of
all-added a r m f =
    let b = view r in
    let start : Holds (record { number = 0; record' = r }) b = record { done = refl; made = m; shows = refl } in
    let s = singles_added 0 a.single (record { number = 0; record' = r }) b start f.singles
    (λ k e. ap (λ x. get_or b.single x []) (none_before k) ∙ f.free k e) in
    let o = add_singles 0 a.single (record { number = 0; record' = r }) in
    let b1 : Attributes = record { single = merged_from 0 a.single b.single; units = b.units; dds = b.dds } in
    let u = units-added a.units o b1 s f.units f.few-units in
    rw (← merged-all a.single b.single)
    (dds-added a.dds (add_units a.units o) (record { single = b1.single; units = b.units ++ a.units; dds = b.dds }) u f.dds f.few-dds)

-- ---- completed

pub complete_has : (r : Record) → non_empty (single_of (view r) ADMD) ≡ true → complete r ≡ r
unfolding complete
complete_has r h = rw (h, and-false)

-- one space keeps the rule of ADMD
space_rule : rule ADMD (32 ∷ []) ≡ true
unfolding rule is_space equal_text agree
space_rule = or_right (is_value ADMD (32 ∷ [])) (eqb ADMD ADMD && is_space (32 ∷ [])) refl

-- the same with no ADMD, and one space for it
pub complete_lacks : (r : Record) → Made r → non_empty (single_of (view r) C) ≡ true → non_empty (single_of (view r) ADMD) ≡ false
    → view (complete r) ≡ record { single = set (view r).single ADMD (32 ∷ []); units = (view r).units; dds = (view r).dds }
unfolding complete
complete_lacks r m h k = rw (h, k) (single-added r m ADMD (32 ∷ []) space_rule (absent_is (single_of (view r) ADMD) k)).1
