-- Each value of a record that is read from an address is, entire, what the domain settled or what the local part names: additions that
-- are all done were each allowed, so what was added fits (`Fits`), and the record then shows just that.
-- Assumes nothing.
use mathlib.Core.Path.{◌≡◌, refl, sym, ap, ap₂, subst, ◌∙◌}
use mathlib.Core.Bool.{Bool, true, false, ◌&&◌, ◌||◌, not, cond}
use mathlib.Core.List.{List, [], ◌∷◌, ◌++◌}
use mathlib.Core.Option.{Option, none, some}
use Prim.Native.Nat.{ℕ, zero, suc, ◌+◌, ◌≤◌, ◌<◌}
use native.Mathlib.Omega.{arith}
use borrow.Author.Tests.{eqb-false, eqb-true, leb-true, ltb-false, ltb-true, not-true}
use lib.Dec.{eqb, leb, ltb}
use lib.ListN.{length, get_or, set, take, length-map, length-set}
use lib.Seq.{get_or-set_other}
use Rattle.chars.specs.Lists.{all, non_empty}
use Rattle.chars.proofs.Laws.Lists.{and_both, and_left, and_right, and-three, by_test, true_not_false}
use Rattle.chars.proofs.Laws.Seq.{elements, elements_all, no_length}
use Rattle.oraddr.specs.Add.{Outcome, add_dd, add_single, add_unit, outcome, set_single}
use Rattle.oraddr.specs.Attributes.{Attributes, Dd, single_of}
use Rattle.oraddr.specs.Bounds.{ADMD, C, CN, G, GQ, I, O, OU, PRMD, S, bound_of, most, rule, single_count}
use Rattle.oraddr.specs.Canonical.{canonical_record, is_dd, is_unit}
use Rattle.oraddr.specs.View.{dd_in_range, dds_in_range, empty_record, in_range, singles_in_range, singles_view, units_in_range, value_of, value_view, view}
use Rattle.oraddr.specs.declared.record.Record.{Record}
use Rattle.oraddr.proofs.Laws.Made.{Made, dd-count, made_empty, made_single, made_unit, single-length, unit_count}
use Rattle.ortext_read.specs.Apply.{Reading, add_all, add_named, again, applied, complete, finish, has_empty, has_repeated, has_unknown, name_alone, named, name_of, named_again, pn_meets, read, read_as_name, read_local, read_text, refused, unread, with_name}
use Rattle.ortext_build.specs.Adding.{add_dds, add_singles, add_units, and_then}
use Rattle.ortext_segments.specs.Keys.{keys}
use Rattle.ortext_name.specs.Name.{Name, read_name}
use Rattle.ortext_segments.specs.Segments.{Segment, read_segments}
use Rattle.ortext_build.proofs.Laws.Adding.{dds-few, singles_kept, singles_skip, singles_some, then_done, then_is, units-few}
use Rattle.ortext_read.proofs.Laws.Apply as apply
use Rattle.ortext_read.proofs.Laws.Apply.{Fits, all-added, complete_lacks, over}
use Rattle.std.specs.Prelude.{Ok}
use Rattle.mailaddr.specs.Answers.{shaping}
use Rattle.mailaddr.specs.Shape.{Address, is_readable, unquoted_local}
use Rattle.table.specs.Table.{Table, Token}
use Rattle.table_lookup.specs.Lookup.{resolve}
use Rattle.table_settle.specs.Settle.{Settling, add_level, add_levels, begun, no_row, past_bound, past_units, settled, settled_as, settled_from, settling}
use Rattle.table_settle.proofs.Laws.Settle.{level_omitted, level_single, level_unit}
use Rattle.mapping.specs.Answers.{is_good, read_well}
use Rattle.mapping.specs.Carried.{carried_whole, is_gateway, read_over, result_of, settled_under}
use Rattle.mapping.specs.Results.{RecordResult, mapped}
use Rattle.mapping.specs.ToRecord.{record_by, record_in, to_record}
use Rattle.mapping.specs.Whole.{NamedBy, SettledBy, Whole, WholeText, at_gateway, by_name, by_row, by_segments, completed, merged}
use Rattle.mapping.proofs.Laws.Carried as carried
use Rattle.mapping.proofs.Laws.Carried.{carried_is, good_result, local_over}

-- ---- an addition that is done was allowed

allowed : (t : Bool) (new old : Record) → (outcome t new old).number ≡ 0 → (t ≡ true) × (outcome t new old ≡ begun new)
unfolding outcome
allowed true new old h = (refl, refl)
allowed false new old h = absurd (omega arith)

-- ---- it puts its value where there is none

-- the values behind the first, where the first is present
module _ (k : ℕ) (s : List ℕ) (ss : List (List ℕ)) (o : Outcome) (e : non_empty s ≡ true) (h : (add_singles k (s ∷ ss) o).number ≡ 0) where
  abbrev next : Outcome
  next = begun (record { singles = set_single o.record'.singles k s; units = o.record'.units; dds = o.record'.dds })

  single_put : ((get_or o.record'.singles.values k (value_of [])).len ≡ 0) × (add_singles k (s ∷ ss) o ≡ add_singles (suc k) ss next)
  unfolding add_single
  single_put =
      let r = o.record' in
      let free = eqb (get_or r.singles.values k (value_of [])).len 0 in
      let add : Record → Outcome = λ r. add_single r k s in
      let step = singles_some k s ss o e in
      let t = then_done o add (singles_kept (suc k) ss (and_then o add) (ap (λ (p : Outcome). p.number) (sym step) ∙ h)).0 in
      let a = allowed (rule k s && free) next.record' r t.1 in
      (eqb-true _ 0 (and_right (rule k s) free a.0), step ∙ ap (add_singles (suc k) ss) (then_is o add t.0 ∙ a.1))

singles_free : (k : ℕ) (ss : List (List ℕ)) (o : Outcome) → (add_singles k ss o).number ≡ 0 → (j : ℕ) → non_empty (get_or ss j []) ≡ true
    → (get_or o.record'.singles.values (k + j) (value_of [])).len ≡ 0
unfolding non_empty set_single
singles_free k [] o h j e = true_not_false false e refl
singles_free k (s ∷ ss) o h zero e = let z : k + 0 ≡ k = omega arith in rw z (single_put k s ss o e h).0
singles_free k (s ∷ ss) o h (suc j) e =
    let values = o.record'.singles.values in
    let z : suc k + j ≡ k + suc j = omega arith in
    rw (sym z)
    (by_test (non_empty s)
    (λ p. ap (λ v. v.len) (sym (get_or-set_other values k (suc k + j) (value_of s) (value_of []) (λ q. omega arith)))
    ∙ singles_free (suc k) ss (next k s ss o p h) (ap (λ (q : Outcome). q.number) (sym (single_put k s ss o p h).1) ∙ h) j e)
    (λ p. singles_free (suc k) ss o (ap (λ (q : Outcome). q.number) (sym (singles_skip k s ss o p)) ∙ h) j e))

-- ---- what additions leave alone

single_aside : (r : Record) (k : ℕ) (v : List ℕ) → ((add_single r k v).record'.units ≡ r.units) × ((add_single r k v).record'.dds ≡ r.dds)
unfolding add_single outcome
single_aside r k v =
    by_test (rule k v && eqb (get_or r.singles.values k (value_of [])).len 0) (λ e. rw e (refl, refl)) (λ e. rw e (refl, refl))

unit_aside : (r : Record) (v : List ℕ) → (add_unit r v).record'.dds ≡ r.dds
unfolding add_unit outcome
unit_aside r v = by_test (is_unit v && ltb r.units.count most) (λ e. rw e) (λ e. rw e)

module _ {A : Type 0} (f : Record → A) where
  then_aside : (o : Outcome) (add : Record → Outcome) → ((r : Record) → f (add r).record' ≡ f r) → f (and_then o add).record' ≡ f o.record'
  unfolding and_then
  then_aside o add g = by_test (eqb o.number 0) (λ e. rw e (g o.record')) (λ e. rw e)

  singles_aside : ((r : Record) (k : ℕ) (v : List ℕ) → f (add_single r k v).record' ≡ f r)
      → (k : ℕ) (ss : List (List ℕ)) (o : Outcome) → f (add_singles k ss o).record' ≡ f o.record'
  unfolding add_singles
  singles_aside g k [] o = refl
  singles_aside g k (s ∷ ss) o =
      by_test (non_empty s)
      (λ e. rw (singles_some k s ss o e) (singles_aside g (suc k) ss (and_then o (λ r. add_single r k s)) ∙ then_aside o (λ r. add_single r k s) (λ r. g r k s)))
      (λ e. rw (singles_skip k s ss o e) (singles_aside g (suc k) ss o))

  units_aside : ((r : Record) (v : List ℕ) → f (add_unit r v).record' ≡ f r)
      → (ss : List (List ℕ)) (o : Outcome) → f (add_units ss o).record' ≡ f o.record'
  unfolding add_units
  units_aside g [] o = refl
  units_aside g (s ∷ ss) o = units_aside g ss (and_then o (λ r. add_unit r s)) ∙ then_aside o (λ r. add_unit r s) (λ r. g r s)

-- ---- the units and the DDs that were added keep their rules

units-kept : (ss : List (List ℕ)) (o : Outcome) → (add_units ss o).number ≡ 0 → all is_unit ss ≡ true
unfolding add_units add_unit all
units-kept [] o h = refl
units-kept (s ∷ ss) o h =
    let add : Record → Outcome = λ r. add_unit r s in
    let few = ltb o.record'.units.count most in
    let t = then_done o add (units-few ss (and_then o add) h).0 in
    and_both (and_left (is_unit s) few (allowed (is_unit s && few) _ o.record' t.1).0) (units-kept ss (and_then o add) h)

dds-kept : (ds : List Dd) (o : Outcome) → (add_dds ds o).number ≡ 0 → all is_dd ds ≡ true
unfolding add_dds add_dd all
dds-kept [] o h = refl
dds-kept (d ∷ ds) o h =
    let add : Record → Outcome = λ r. add_dd r d.kind d.value in
    let few = ltb o.record'.dds.count most in
    let t = then_done o add (dds-few ds (and_then o add) h).0 in
    and_both (and_left (is_dd d) few (allowed (is_dd d && few) _ o.record' t.1).0) (dds-kept ds (and_then o add) h)

-- ---- so what was added fits

few-most : (n i : ℕ) → n ≤ most → (0 < i → n + i ≤ most) → n + i ≤ most
few-most n zero h f = omega arith
few-most n (suc i) h f = f (omega arith)

module _ (a : Attributes) (r : Record) (m : Made r) (h : (add_all a r).number ≡ 0) where
  abbrev with_singles : Outcome
  with_singles = add_singles 0 a.single (begun r)

  abbrev with_units : Outcome
  with_units = add_units a.units with_singles

  ranges : (r.units.count ≤ most) × (r.dds.count ≤ most)
  unfolding in_range units_in_range dds_in_range
  ranges =
      let p = and-three (singles_in_range r.singles) (units_in_range r.units) (dds_in_range r.dds) m.ranged in (
        leb-true r.units.count most (and_left (leb r.units.count most) (all (λ v. leb v.len (bound_of OU)) (take r.units.count r.units.names)) p.1),
        leb-true r.dds.count most (and_left (leb r.dds.count most) (all dd_in_range (take r.dds.count r.dds.items)) p.2),
      )

  units-same : with_singles.record'.units ≡ r.units
  units-same = singles_aside (λ q. q.units) (λ q k v. (single_aside q k v).0) 0 a.single (begun r)

  dds-same : with_units.record'.dds ≡ r.dds
  dds-same =
      units_aside (λ q. q.dds) unit_aside a.units with_singles
      ∙ singles_aside (λ q. q.dds) (λ q k v. (single_aside q k v).1) 0 a.single (begun r)

  all_fit : Fits a (view r)
  unfolding add_all single_of
  all_fit =
      let d = dds-few a.dds with_units h in
      let u = units-few a.units with_singles d.0 in
      let first : (k : ℕ) → 0 + k ≡ k = λ k. omega arith in
      record {
        singles = (singles_kept 0 a.single (begun r) u.0).1;
        free = λ k e. no_length (single_of (view r) k)
            (omega (arith, single-length r m k, ap (λ (i : ℕ). (get_or r.singles.values i (value_of [])).len) (sym (first k)) ∙ singles_free 0 a.single (begun r) u.0 k e));
        units = units-kept a.units with_singles d.0;
        few-units = few-most (length (view r).units) (length a.units) (omega (arith, ranges.0, unit_count r m))
            (λ l. omega (arith, u.1 l, ap (λ x. x.count) units-same, unit_count r m));
        dds = dds-kept a.dds with_units h;
        few-dds = few-most (length (view r).dds) (length a.dds) (omega (arith, ranges.1, dd-count r m))
            (λ l. omega (arith, d.1 l, ap (λ x. x.count) dds-same, dd-count r m));
      }

-- ---- the attributes that a record has once, by their numbers

singles_are : {A : Type 0} (s : List A) (d : A) → length s ≡ single_count
    → s ≡ get_or s C d ∷ get_or s ADMD d ∷ get_or s PRMD d ∷ get_or s O d ∷ get_or s CN d ∷ get_or s S d ∷ get_or s G d ∷ get_or s I d ∷ get_or s GQ d ∷ []
unfolding elements
singles_are s d l = elements_all s d 0 single_count l

length-single : (r : Record) → Made r → length (view r).single ≡ single_count
unfolding view singles_view
length-single r m = length-map r.singles.values value_view ∙ m.shaped.values

over_merged : (b : Attributes) (r : Record) → Made r → length b.single ≡ single_count → over b (view r) ≡ merged (view r) b
unfolding over merged apply.merged single_of
over_merged b r m l =
    ap (λ (s : List (List ℕ)). record { single = s; units = (view r).units ++ b.units; dds = (view r).dds ++ b.dds })
    (ap₂ apply.merged (singles_are b.single [] l) (singles_are (view r).single [] (length-single r m)))

-- ---- completed

completed_lacks : (a : Attributes) → (non_empty (single_of a C) && not (non_empty (single_of a ADMD))) ≡ true
    → completed a ≡ record { single = set a.single ADMD (32 ∷ []); units = a.units; dds = a.dds }
unfolding completed
completed_lacks a e = rw e

complete-shows : (r : Record) → Made r → view (complete r) ≡ completed (view r)
unfolding complete completed
complete-shows r m =
    let c = non_empty (single_of (view r) C) in
    let d = non_empty (single_of (view r) ADMD) in
    by_test (c && not d)
    (λ e. complete_lacks r m (and_left c (not d) e) (not-true d (and_right c (not d) e)) ∙ sym (completed_lacks (view r) e))
    (λ e. rw e)

-- what was added, and completed
added-shows : (b : Attributes) (r q : Record) → Made r → length b.single ≡ single_count → finish (add_all b r) ≡ read q → view q ≡ completed (merged (view r) b)
unfolding finish
added-shows b r q m l h =
    let o = add_all b r in
    by_test (eqb o.number 0)
    (λ e. let p : ◌≡◌ {A = Reading} (read (complete o.record')) (read q) = rw e at h in
    let z : complete o.record' ≡ q = cc in
    let g = all-added b r m (all_fit b r m (eqb-true o.number 0 e)) in
    ap view (sym z) ∙ complete-shows o.record' g.made ∙ ap completed (g.shows ∙ over_merged b r m l))
    (λ e. let p : ◌≡◌ {A = Reading} refused (read q) = rw e at h in
    let z : ◌≡◌ {A = ℕ} 0 1 = cc in absurd (omega arith))

-- ---- what is named

-- the number of the attributes that a record has once, where there are any
abbrev places : Option Attributes → ℕ
places none = single_count
places (some b) = length b.single

with_places : (gs : List Segment) (o : Option Name) → places (with_name gs o) ≡ single_count
unfolding with_name
with_places gs none = refl
with_places gs (some m) = refl

named-places : (gs : List Segment) → places (named gs) ≡ single_count
unfolding named
named-places gs =
    by_test (has_unknown gs || has_repeated gs || pn_meets gs || has_empty gs) (λ e. rw e) (λ e. rw e (with_places gs (name_of gs)))

-- ---- the local part

module _ (n : ℕ) (r q : Record) (s : List ℕ) (m : Made r) where
  abbrev Named : Type 0
  Named = (b : Attributes) × NamedBy s b × (view q ≡ completed (merged (view r) b))

  by_name_lem : (o : Option Name) → read_segments keys s ≡ none → read_name s ≡ o → read_as_name r o ≡ read q → Named
  unfolding read_as_name add_named name_alone
  by_name_lem none f e h = let z : ◌≡◌ {A = ℕ} 0 1 = cc in absurd (omega arith)
  by_name_lem (some x) f e h = (name_alone x, by_name x f e refl, added-shows (name_alone x) r q m refl h)

  by-named : (gs : List Segment) (o : Option Attributes) → read_segments keys s ≡ some gs → named gs ≡ o → add_named r o ≡ read q → Named
  unfolding add_named
  by-named gs none f e h = let z : ◌≡◌ {A = ℕ} 0 1 = cc in absurd (omega arith)
  by-named gs (some b) f e h = (b, by_segments gs f e, added-shows b r q m (ap places (sym e) ∙ named-places gs) h)

  by-reading : (o : Option (List Segment)) → read_segments keys s ≡ o → carried.over n r o (read_name s) ≡ read q → Named
  unfolding applied
  by-reading none f h = by_name_lem (read_name s) f refl h
  by-reading (some gs) f h =
      by_test (named_again n gs)
      (λ e. let p : ◌≡◌ {A = Reading} again (read q) = rw e at h in
      let z : ◌≡◌ {A = ℕ} 0 1 = cc in absurd (omega arith))
      (λ e. by-named gs (named gs) f refl (rw e at h))

-- A local part read over what is settled gives, value by value, what is settled and what it names.
pub whole-local : (n : ℕ) (r q : Record) (s : List ℕ) → Made r → read_local keys n r s ≡ read q
    → (b : Attributes) × NamedBy s b × (view q ≡ completed (merged (view r) b))
unfolding read_over
whole-local n r q s m h = by-reading n r q s m (read_segments keys s) refl (sym (local_over n r s) ∙ h)

-- A record text read by itself gives, value by value, what it names.
module _ (q : Record) (s : List ℕ) where
  text-named : (gs : List Segment) (o : Option Attributes) → read_segments keys s ≡ some gs → named gs ≡ o → add_named empty_record o ≡ read q → WholeText s q
  unfolding add_named
  text-named gs none f e h = let z : ◌≡◌ {A = ℕ} 0 1 = cc in absurd (omega arith)
  text-named gs (some b) f e h =
      record {
        segments = gs;
        names = b;
        reads = f;
        named = e;
        shows = added-shows b empty_record q made_empty (ap places (sym e) ∙ named-places gs) h;
      }

  text-segments : (o : Option (List Segment)) → read_segments keys s ≡ o → applied 0 empty_record o ≡ read q → WholeText s q
  unfolding applied
  text-segments none f h = let z : ◌≡◌ {A = ℕ} 0 1 = cc in absurd (omega arith)
  text-segments (some gs) f h =
      by_test (named_again 0 gs)
      (λ e. let p : ◌≡◌ {A = Reading} again (read q) = rw e at h in
      let z : ◌≡◌ {A = ℕ} 0 1 = cc in absurd (omega arith))
      (λ e. text-named gs (named gs) f refl (rw e at h))

  pub whole-text : read_text keys 0 empty_record s ≡ read q → WholeText s q
  unfolding read_text
  whole-text h = text-segments (read_segments keys s) refl h

  -- It has a place for each attribute that a record has once.
  pub text-places : read_text keys 0 empty_record s ≡ read q → length (view q).single ≡ single_count
  unfolding merged completed
  text-places h =
      let w = whole-text h in
      ap (λ (a : Attributes). length a.single) w.shows ∙ completed-places (merged (view empty_record) w.names) refl
    where
      completed-places : (a : Attributes) → length a.single ≡ single_count → length (completed a).single ≡ single_count
      completed-places a l =
          by_test (non_empty (single_of a C) && not (non_empty (single_of a ADMD)))
          (λ e. rw e (length-set a.single ADMD (32 ∷ []) ∙ l))
          (λ e. rw e l)

-- ---- what the domain settled

level_made : (k : ℕ) (t : Token) (r : Record) → Made r → Made (add_level k t r).record'
level_made k t r m =
    by_test (eqb (length t) 0)
    (λ e. rw (level_omitted k t r (eqb-true (length t) 0 e)) m)
    (λ e. by_test (ltb k 4)
    (λ l. let h = ltb-true k 4 l in rw (level_single k t r (eqb-false (length t) 0 e) h) (made_single r m k t (omega arith)))
    (λ l. rw (level_unit k t r (eqb-false (length t) 0 e) (ltb-false k 4 l)) (made_unit r m t)))

levels_made : (k : ℕ) (ts : List Token) (o : Outcome) → Made o.record' → Made (add_levels k ts o).record'
unfolding add_levels
levels_made k [] o m = m
levels_made k (t ∷ ts) o m =
    levels_made (suc k) ts (cond (eqb o.number 0) (add_level k t o.record') o)
    (by_test (eqb o.number 0) (λ e. rw e (level_made k t o.record' m)) (λ e. rw e m))

module _ (t : Table) (d : List ℕ) (n : ℕ) (r : Record) where
  by-outcome : (ts : List Token) → is_gateway t d ≡ false → resolve t.to_path d ≡ some ts → settled_as (length ts) (add_levels 0 ts (begun empty_record)) ≡ settled n r
      → SettledBy t d n r
  unfolding settled_as
  by-outcome ts g f h =
      let o = add_levels 0 ts (begun empty_record) in
      by_test (eqb o.number 0)
      (λ e. let p : ◌≡◌ {A = Settling} (settled (length ts) o.record') (settled n r) = rw e at h in
      let x : length ts ≡ n = cc in
      let y : o.record' ≡ r = cc in
      by_row ts g f (sym x) (ap₂ (λ i j. record { number = i; record' = j }) (eqb-true o.number 0 e) y))
      (λ e. let p : ◌≡◌ {A = Settling} past_bound (settled n r) = rw e at h in
      let z : ◌≡◌ {A = ℕ} 0 1 = cc in absurd (omega arith))

  by-levels : (o : Option (List Token)) → is_gateway t d ≡ false → resolve t.to_path d ≡ o → settled_from o ≡ settled n r → SettledBy t d n r
  unfolding settled_from
  by-levels none g f h = let z : ◌≡◌ {A = ℕ} 0 1 = cc in absurd (omega arith)
  by-levels (some ts) g f h =
      by_test (ltb 8 (length ts))
      (λ e. let p : ◌≡◌ {A = Settling} past_units (settled n r) = rw e at h in
      let z : ◌≡◌ {A = ℕ} 0 1 = cc in absurd (omega arith))
      (λ e. by-outcome ts g f (rw e at h))

  pub by-domain : settled_under t d ≡ settled n r → SettledBy t d n r
  unfolding settled_under settling
  by-domain h =
      by_test (is_gateway t d)
      (λ e. let p : ◌≡◌ {A = Settling} (settled 0 empty_record) (settled n r) = rw e at h in
      let x : 0 ≡ n = cc in
      let y : empty_record ≡ r = cc in
      at_gateway e (sym x) (sym y))
      (λ e. by-levels (resolve t.to_path d) e refl (rw e at h))

  settled_made : SettledBy t d n r → Made r
  settled_made (at_gateway g x y) = rw y made_empty
  settled_made (by_row ts g f x y) =
      subst (λ (o : Outcome). Made o.record') y (levels_made 0 ts (begun empty_record) made_empty)

-- ---- the theorem

by-settling : (t : Table) (a : Address) (q : Record) (x : Settling) → settled_under t a.domain ≡ x → read_over x (unquoted_local a) ≡ read q → Whole t a q
unfolding read_over
by-settling t a q no_row e h = let z : ◌≡◌ {A = ℕ} 0 1 = cc in absurd (omega arith)
by-settling t a q past_units e h = let z : ◌≡◌ {A = ℕ} 0 1 = cc in absurd (omega arith)
by-settling t a q past_bound e h = let z : ◌≡◌ {A = ℕ} 0 1 = cc in absurd (omega arith)
by-settling t a q (settled n r) e h =
    let d = by-domain t a.domain n r e in
    let w = whole-local n r q (unquoted_local a) (settled_made t a.domain n r d) h in
    record { count = n; under = r; names = w.0; settles = e; settled = d; named = w.1; shows = w.2 }

-- A record that is read from an address holds, value by value, what the domain settled and what the local part names.
pub whole_record : (t : Table) (a : Address) (q : Record) → result_of t a ≡ read q → Whole t a q
unfolding result_of
whole_record t a q h =
    by_test (is_readable (unquoted_local a))
    (λ e. by-settling t a q (settled_under t a.domain) refl (rw e at h))
    (λ e. let p : ◌≡◌ {A = Reading} unread (read q) = rw e at h in let z : ◌≡◌ {A = ℕ} 0 1 = cc in absurd (omega arith))

-- ---- of address to record

pub good-read : (x : Reading) → is_good x ≡ true → x ≡ read (record_in x)
unfolding is_good record_in
good-read unread h = true_not_false false h refl
good-read refused h = true_not_false false h refl
good-read again h = true_not_false false h refl
good-read (read r) h = refl

module _ (t : Table) (s : List ℕ) (a : Address) (f : shaping s ≡ Ok a) (c : carried_whole t a ≡ false) where
  is_good_lem : is_good (result_of t a) ≡ true
  is_good_lem =
      let g : is_good (read_well t a) ≡ true = by_test (is_good (read_well t a)) (λ e. e) (λ e. true_not_false (carried_whole t a) (rw (carried_is t a, e)) c) in
      ap is_good (good_result t a g) ∙ g

  -- the record that it returns for an address that is not carried whole
  returned : to_record t s ≡ mapped (record_in (result_of t a))
  unfolding to_record record_by
  returned = rw (f, c)

  -- is canonical, and whole
  pub returned_canonical : canonical_record (to_record t s).record' ≡ true
  unfolding mapped is_good
  returned_canonical =
      ap (λ (o : RecordResult). canonical_record o.record') returned ∙ ap is_good (sym (good-read (result_of t a) is_good_lem)) ∙ is_good_lem

  pub returned_whole : Whole t a (to_record t s).record'
  unfolding mapped
  returned_whole =
      subst (λ (o : RecordResult). Whole t a o.record') (sym returned) (whole_record t a (record_in (result_of t a)) (good-read (result_of t a) is_good_lem))
