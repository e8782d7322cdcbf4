-- What is written of a record reads back: over the levels that a domain settled, case aside, the local part gives the same record.
-- Assumes nothing.
use mathlib.Core.Path.{◌≡◌, refl, sym, ap, ap₂, subst, ◌∙◌}
use mathlib.Core.Bool.{Bool, true, not, cond, and-false, ◌&&◌}
use mathlib.Core.List.{List, [], ◌∷◌, ◌++◌, map}
use mathlib.Core.Option.{Option, some}
use Prim.Native.Nat.{ℕ, zero, suc, ◌-◌, ◌≤◌, ◌<◌, min}
use native.Mathlib.Nat.{le_of_suc-le-suc, not-suc-le-zero}
use native.Mathlib.Omega.{arith}
use borrow.Author.Tests.{eq-eqb, leb-true, leb-false, ltb-true, not-true}
use lib.Dec.{leb}
use lib.ListN.{length, get_or, take, drop, replicate, length-drop, length-replicate, length-take, take-append-drop, get_or-replicate, get_or-eq_default}
use lib.Seq.{drop-nil, take-append-le, take-nil, take-take, drop_at, length-take-le}
use Rattle.chars.proofs.Laws.Seq.{absent_is, drop-take, elements, elements_all, take_same}
use Rattle.chars.specs.Lists.{all, non_empty}
use Rattle.chars.specs.Case.{agree, same_text}
use Rattle.chars.proofs.Laws.Lists.{all_drop, and_both, and_left, and_right, and-three, by_test, true_not_false}
use Rattle.chars.proofs.Laws.Case.{agree-append, agree-length, agree_refl, equal_refl, same_refl}
use Rattle.oraddr.specs.Bounds.{ADMD, CN, G, GQ, I, S, most, own_levels, single_count}
use Rattle.oraddr.specs.Attributes.{Attributes, Dd, levels, single_of}
use Rattle.oraddr.specs.Canonical.{all_kept, canonical, is_unit, kept}
use Rattle.oraddr.specs.Same.{same_attributes, same_dd}
use Rattle.oraddr.specs.View.{empty_record, view}
use Rattle.oraddr.specs.declared.record.Record.{Record}
use Rattle.oraddr.proofs.Laws.Canonical.{canonical-parts, canonical-same, same-present}
use Rattle.oraddr.proofs.Laws.Made.{Made, made_empty}
use Rattle.oraddr.proofs.Laws.Same.{attributes_trans, dd_refl}
use Rattle.oraddr.proofs.Laws.View.{view-empty}
use Rattle.ortext_segments.specs.Keys.{Keys, short_keys, key_number, keys}
use Rattle.ortext_name.specs.Name.{Name, is_short, name_text}
use Rattle.ortext_segments.specs.Segments.{Segment}
use Rattle.ortext_read.specs.Apply.{Reading, add_all, add_named, applied, finish, name_alone, or_name, read, read_as_name, read_local, read_text}
use Rattle.ortext_write.specs.Write.{has_short, local_text, name_in, only_name, record_text, remaining, short_key, spelled_attributes, spelled_dd, writes_short}
use Rattle.ortext_read.proofs.Laws.Apply.{Fits, all-added, complete_has, merged, over}
use Rattle.ortext_name.proofs.Laws.Name.{name_short}
use Rattle.ortext_write.proofs.Laws.Write.{remaining-length}
use Rattle.ortext_write.proofs.Laws.Written.{good_keys, keys-good, short_never_text, text-back}

-- ---- two lists that agree, in parts

module _ {A : Type 0} (e : A → A → Bool) where
  agree-take : (k : ℕ) (s t : List A) → agree e s t ≡ true → agree e (take k s) (take k t) ≡ true
  unfolding agree
  agree-take zero s t h = refl
  agree-take (suc k) [] [] h = refl
  agree-take (suc k) [] (y ∷ t) h = true_not_false true refl (sym h)
  agree-take (suc k) (x ∷ s) [] h = true_not_false true refl (sym h)
  agree-take (suc k) (x ∷ s) (y ∷ t) h = and_both (and_left (e x y) (agree e s t) h) (agree-take k s t (and_right (e x y) (agree e s t) h))

  agree-drop : (k : ℕ) (s t : List A) → agree e s t ≡ true → agree e (drop k s) (drop k t) ≡ true
  unfolding agree
  agree-drop zero s t h = h
  agree-drop (suc k) [] [] h = refl
  agree-drop (suc k) [] (y ∷ t) h = true_not_false true refl (sym h)
  agree-drop (suc k) (x ∷ s) [] h = true_not_false true refl (sym h)
  agree-drop (suc k) (x ∷ s) (y ∷ t) h = agree-drop k s t (and_right (e x y) (agree e s t) h)

  -- a list agrees with another if its front agrees with as many of the other, the rest being the other's own
  agree-front : ((x : A) → e x x ≡ true) → (k : ℕ) (p s : List A) → agree e p (take k s) ≡ true → agree e (p ++ drop k s) s ≡ true
  agree-front f k p s h =
      subst (λ t. agree e (p ++ drop k s) t ≡ true) (take-append-drop k s)
      (agree-append e p (drop k s) (take k s) (drop k s) (agree-length e p (take k s) h) ∙ and_both h (agree_refl e f (drop k s)))

-- ---- what is left, over what is settled

-- nothing of what is left stands where a level is settled
left_free : (p x : List (List ℕ)) (j k : ℕ) → non_empty (get_or (replicate (length p) [] ++ x) k []) ≡ true → get_or (p ++ replicate j []) k [] ≡ []
unfolding non_empty
left_free [] x j k h =
    by_test (leb j k)
    (λ e. get_or-eq_default (replicate j []) [] (simp length-replicate (leb-true j k e)))
    (λ e. get_or-replicate j k [] [] (leb-false j k e))
left_free (y ∷ p) x j zero h = true_not_false true refl (sym h)
left_free (y ∷ p) x j (suc k) h = left_free p x j k h

-- and each keeps its rule
left_kept : (m k : ℕ) (s : List (List ℕ)) → all_kept k s ≡ true → all_kept k (replicate m [] ++ drop m s) ≡ true
unfolding all_kept kept non_empty
left_kept zero k s h = h
left_kept (suc m) k [] h = ap (λ (t : List (List ℕ)). all_kept (suc k) (replicate m [] ++ t)) (sym (drop-nil m)) ∙ left_kept m (suc k) [] refl
left_kept (suc m) k (x ∷ s) h = left_kept m (suc k) s (and_right (kept k x) (all_kept (suc k) s) h)

merged-empty : (x : List (List ℕ)) → merged x (replicate (length x) []) ≡ x
unfolding merged non_empty
merged-empty [] = refl
merged-empty ([] ∷ x) = ap (λ (t : List (List ℕ)). [] ∷ t) (merged-empty x)
merged-empty ((b ∷ s) ∷ x) = ap (λ (t : List (List ℕ)). (b ∷ s) ∷ t) (merged-empty x)

merged_left : (p x : List (List ℕ)) → merged (replicate (length p) [] ++ x) (p ++ replicate (length x) []) ≡ p ++ x
unfolding merged non_empty
merged_left [] x = merged-empty x
merged_left (y ∷ p) x = ap (λ (t : List (List ℕ)). y ∷ t) (merged_left p x)

-- ---- the settled levels

-- a record that holds just the first n levels of a, case aside
pub record Settled (n : ℕ) (st : List (List ℕ)) (a : Attributes) (r : Record) : Type 0 where
  pub made : Made r
  pub count : length st ≡ n
  pub few : n ≤ 8
  pub reach : n - own_levels ≤ length a.units
  pub same : agree same_text st (take n (levels a)) ≡ true
  pub shows : view r ≡ record { single = take own_levels st ++ replicate (single_count - length (take own_levels st)) []; units = drop own_levels st; dds = [] }

-- where no level is settled, as at the gateway
pub settled-none : (a : Attributes) → Settled 0 [] a empty_record
unfolding agree
settled-none a = record { made = made_empty; count = refl; few = omega arith; reach = omega arith; same = refl; shows = view-empty }

module _ {A : Type 0} where
  take_min : (i j : ℕ) (s : List A) → take i (take j s) ≡ take (min i j) s
  take_min zero j s = take_same 0 (min 0 j) s (omega arith)
  take_min (suc i) zero s = take_same 0 (min (suc i) 0) s (omega arith)
  take_min (suc i) (suc j) [] = sym (take-nil (min (suc i) (suc j)))
  take_min (suc i) (suc j) (x ∷ s) = ap (λ t. x ∷ t) (take_min i j s) ∙ take_same (suc (min i j)) (min (suc i) (suc j)) (x ∷ s) (omega arith)

module _ (n : ℕ) (a : Attributes) (l : length a.single ≡ single_count) where
  own : length (take own_levels a.single) ≡ 4
  own = length-take-le 4 a.single (omega arith)

  -- the first four levels, and the others
  own_levels_lem : take 4 (take n (levels a)) ≡ take (min n own_levels) a.single
  unfolding levels
  own_levels_lem =
      take_min 4 n (levels a)
      ∙ take-append-le (min 4 n) (take own_levels a.single) (take most (a.units ++ replicate most [])) (omega (arith, own))
      ∙ take-take (min 4 n) 4 a.single (omega arith)
      ∙ take_same (min 4 n) (min n own_levels) a.single (omega arith)

  unit_levels_lem : n ≤ 8 → n - own_levels ≤ length a.units → drop 4 (take n (levels a)) ≡ take (n - own_levels) a.units
  unfolding levels
  unit_levels_lem h k =
      drop-take 4 n (levels a)
      ∙ ap (take (n - own_levels)) (drop_at (take own_levels a.single) (take most (a.units ++ replicate most [])) 4 own)
      ∙ take-take (n - own_levels) most (a.units ++ replicate most []) (omega arith)
      ∙ take-append-le (n - own_levels) a.units (replicate most []) k

-- the settled levels, and behind them what is left of a
abbrev backed : ℕ → List (List ℕ) → Attributes → Attributes
backed n st a =
    record {
      single = take own_levels st ++ drop (min n own_levels) a.single;
      units = drop own_levels st ++ drop (n - own_levels) a.units;
      dds = a.dds;
    }

module _ {n : ℕ} {st : List (List ℕ)} {a : Attributes} {r : Record} (q : Settled n st a r) (l : length a.single ≡ single_count) where
  front_length : length (take own_levels st) ≡ min n own_levels
  front_length = omega (arith, length-take own_levels st, q.count)

  rest-length : length (drop (min n own_levels) a.single) ≡ single_count - length (take own_levels st)
  rest-length = omega (arith, front_length, length-drop (min n own_levels) a.single)

  backed_same : same_attributes (backed n st a) a ≡ true
  unfolding same_attributes
  backed_same =
      and_both
      (and_both
      (agree-front same_text same_refl (min n own_levels) (take own_levels st) a.single
      (subst (λ t. agree same_text (take own_levels st) t ≡ true) (own_levels_lem n a l) (agree-take same_text 4 st (take n (levels a)) q.same)))
      (agree-front same_text same_refl (n - own_levels) (drop own_levels st) a.units
      (subst (λ t. agree same_text (drop own_levels st) t ≡ true) (unit_levels_lem n a l q.few q.reach) (agree-drop same_text 4 st (take n (levels a)) q.same))))
      (agree_refl same_dd dd_refl a.dds)

  over_settled : over (remaining n a) (view r) ≡ backed n st a
  unfolding over remaining
  over_settled =
      let p = take own_levels st in
      let x = drop (min n own_levels) a.single in
      rw q.shows
      (ap (λ (s : List (List ℕ)). record { single = s; units = drop own_levels st ++ drop (n - own_levels) a.units; dds = a.dds })
      (ap₂ (λ i j. merged (replicate i [] ++ x) (p ++ replicate j [])) (sym front_length) (sym rest-length) ∙ merged_left p x))

  left_fits : canonical a ≡ true → Fits (remaining n a) (view r)
  unfolding remaining single_of
  left_fits h =
      let p = take own_levels st in
      let x = drop (min n own_levels) a.single in
      let c = canonical-parts a h in
      rw q.shows
      (record {
        singles = left_kept (min n own_levels) 0 a.single c.singles;
        free = λ k e. left_free p x (single_count - length p) k (ap (λ i. non_empty (get_or (replicate i [] ++ x) k [])) front_length ∙ e);
        units = all_drop is_unit (n - own_levels) a.units c.units;
        few-units = omega (arith, length-drop own_levels st, length-drop (n - own_levels) a.units, c.few-units, q.count, q.reach);
        dds = c.dds;
        few-dds = omega (arith, c.few-dds);
      })

-- ---- a reading that gives a, case aside

pub record ReadsAs (o : Reading) (a : Attributes) : Type 0 where
  pub result : Record
  pub reads : o ≡ read result
  pub made : Made result
  pub same : same_attributes (view result) a ≡ true

module _ {n : ℕ} {st : List (List ℕ)} {a : Attributes} {r : Record} (q : Settled n st a r) (l : length a.single ≡ single_count) (h : canonical a ≡ true) where
  -- what is left, added to what is settled; ADMD is there, so completing changes nothing
  left_added : ReadsAs (add_named r (some (remaining n a))) a
  unfolding add_named finish
  left_added =
      let o = add_all (remaining n a) r in
      let g = all-added (remaining n a) r q.made (left_fits q l h) in
      let shows = g.shows ∙ over_settled q l in
      let same = rw (sym shows) at (backed_same q l) in
      let admd = same-present (view o.record') a same ADMD ∙ (canonical-parts a h).domain in
      record {
        result = o.record';
        reads = rw (eq-eqb o.number 0 g.done, complete_has o.record' admd);
        made = g.made;
        same = same;
      }

-- ---- the letters of a DD's type

-- a key that a text spells is that text, case aside
key_spells : (ks : Keys) (s : List ℕ) → key_number ks s < length ks → same_text (get_or ks (key_number ks s) []) s ≡ true
unfolding key_number
key_spells [] s h = absurd (not-suc-le-zero h)
key_spells (k ∷ ks) s h =
    by_test (same_text k s) (λ e. rw (e, key_number) e) (λ e. rw (e, key_number) (key_spells ks s (le_of_suc-le-suc (rw e at h))))

spelled-dd : (ks : Keys) (d : Dd) → same_dd (spelled_dd ks d) d ≡ true
unfolding same_dd spelled_dd has_short short_key
spelled-dd ks d =
    let short = drop short_keys ks in
    by_test (has_short ks d.kind)
    (λ e. rw e (and_both (key_spells short d.kind (ltb-true (key_number short d.kind) (length short) e)) (equal_refl d.value)))
    (λ e. rw e (dd_refl d))

spelled_same : (ks : Keys) (ds : List Dd) → agree same_dd (map (spelled_dd ks) ds) ds ≡ true
unfolding agree
spelled_same ks [] = refl
spelled_same ks (d ∷ ds) = and_both (spelled-dd ks d) (spelled_same ks ds)

-- the DDs alone in other letters
spelled-attributes : (ks : Keys) (a : Attributes) → same_attributes (spelled_attributes ks a) a ≡ true
unfolding same_attributes spelled_attributes
spelled-attributes ks a =
    and_both (and_both (agree_refl same_text same_refl a.single) (agree_refl same_text same_refl a.units)) (spelled_same ks a.dds)

-- ---- the short form

all-absent : (s : List (List ℕ)) → all (λ v. not (non_empty v)) s ≡ true → s ≡ replicate (length s) []
unfolding all
all-absent [] h = refl
all-absent (v ∷ s) h =
    let t : List (List ℕ) → Bool = all (λ w. not (non_empty w)) in
    ap₂ (λ w u. w ∷ u)
    (absent_is v (not-true (non_empty v) (and_left (not (non_empty v)) (t s) h)))
    (all-absent s (and_right (not (non_empty v)) (t s) h))

short_no_gq : (m : Name) (gq : List ℕ) → is_short m gq ≡ true → gq ≡ []
unfolding is_short
short_no_gq m gq h =
    absent_is gq (by_test (non_empty gq) (λ e. true_not_false true refl (sym (rw (e, and-false) at h))) (λ e. e))

behind-levels : (s : List (List ℕ)) → length s ≡ single_count → drop own_levels s ≡ get_or s CN [] ∷ get_or s S [] ∷ get_or s G [] ∷ get_or s I [] ∷ get_or s GQ [] ∷ []
unfolding elements
behind-levels s l = elements_all s [] own_levels (single_count - own_levels) l

-- where only a name is left and it is short, the name says all
only_name_lem : (b : Attributes) → length b.single ≡ single_count → writes_short b ≡ true → name_alone (name_in b) ≡ b
unfolding writes_short only_name name_alone name_in single_of
only_name_lem b l h =
    let s = b.single in
    let m = name_in b in
    let first = all (λ v. not (non_empty v)) (take own_levels s) in
    let units = not (non_empty b.units) in
    let common = not (non_empty (get_or s CN [])) in
    let dds = not (non_empty b.dds) in
    let only = and_left (only_name b) (is_short m (get_or s GQ [])) h in
    let p = and-three first units common (and_left (first && units && common) dds only) in
    let gq = short_no_gq m (get_or s GQ []) (and_right (only_name b) (is_short m (get_or s GQ [])) h) in
    let cn = absent_is (get_or s CN []) (not-true (non_empty (get_or s CN [])) p.2) in
    let four : take own_levels s ≡ replicate own_levels [] = all-absent (take own_levels s) p.0 ∙ ap (λ k. replicate k []) (length-take-le own_levels s (omega arith)) in
    let singles : (name_alone m).single ≡ s =
    ap₂ (λ (u v : List ℕ). [] ∷ [] ∷ [] ∷ [] ∷ u ∷ m.surname ∷ m.given ∷ m.initials ∷ v ∷ []) (sym cn) (sym gq)
    ∙ ap₂ (λ x y. x ++ y) (sym four) (sym (behind-levels s l))
    ∙ take-append-drop own_levels s in
    ap₂ (λ x y. record { single = x; units = y; dds = [] }) singles (sym (absent_is b.units (not-true (non_empty b.units) p.1)))
    ∙ ap (λ (z : List Dd). record { single = s; units = b.units; dds = z })
    (sym (absent_is b.dds (not-true (non_empty b.dds) (and_right (first && units && common) dds only))))

-- ---- the theorem

module _ (ks : Keys) (n : ℕ) (st : List (List ℕ)) (a : Attributes) (r : Record) (q : Settled n st a r) (l : length a.single ≡ single_count) (h : canonical a ≡ true) where
  -- record text gives what is left, the types of the DDs perhaps in other letters
  by-text : good_keys ks ≡ true → ReadsAs (read_local ks n r (record_text ks (remaining n a))) a
  unfolding levels remaining spelled_attributes read_local or_name
  by-text good =
      let b = spelled_attributes ks a in
      let same = spelled-attributes ks a in
      let p : Settled n st b r =
      record { made = q.made; count = q.count; few = q.few; reach = q.reach; same = q.same; shows = q.shows } in
      let back = left_added p l (canonical-same b a same ∙ h) in
      record {
        result = back.result;
        reads = ap (or_name r (record_text ks (remaining n a))) (text-back ks good n a h l r ∙ back.reads);
        made = back.made;
        same = attributes_trans (view back.result) b a back.same same;
      }

  -- a short form is no record text, so it is read as a name, which is all that is left
  by_name_lem : writes_short (remaining n a) ≡ true → ReadsAs (read_local ks n r (name_text (name_in (remaining n a)))) a
  unfolding writes_short read_local or_name read_text applied read_as_name
  by_name_lem w =
      let b = remaining n a in
      let m = name_in b in
      let s = name_text m in
      let short = and_right (only_name b) (is_short m (single_of b GQ)) w in
      let back = left_added q l h in
      record {
        result = back.result;
        reads =
            ap (λ (o : Option (List Segment)). or_name r s (applied n r o)) (short_never_text ks m (single_of b GQ) short)
            ∙ ap (read_as_name r) (name_short m (single_of b GQ) short)
            ∙ ap (λ (c : Attributes). add_named r (some c)) (only_name_lem b (remaining-length n a l) w)
            ∙ back.reads;
        made = back.made;
        same = back.same;
      }

  -- What is written as the local part of a canonical record, the first n of its levels being in the domain, reads back over
  -- these levels, case aside, as the same record.
  pub comes_back_lem : good_keys ks ≡ true → ReadsAs (read_local ks n r (local_text ks (remaining n a))) a
  unfolding local_text
  comes_back_lem good =
      let b = remaining n a in
      by_test (writes_short b)
      (λ e. subst (λ (t : Bool). ReadsAs (read_local ks n r (cond t (name_text (name_in b)) (record_text ks b))) a) (sym e) (by_name_lem e))
      (λ e. subst (λ (t : Bool). ReadsAs (read_local ks n r (cond t (name_text (name_in b)) (record_text ks b))) a) (sym e) (by-text good))

-- the same of the keys of document 01
pub local_back : (n : ℕ) (st : List (List ℕ)) (a : Attributes) (r : Record) → Settled n st a r → length a.single ≡ single_count → canonical a ≡ true
    → ReadsAs (read_local keys n r (local_text keys (remaining n a))) a
local_back n st a r q l h = comes_back_lem keys n st a r q l h keys-good
