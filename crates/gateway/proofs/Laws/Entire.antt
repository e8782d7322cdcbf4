-- No attribute is ever shortened: each value is entire in what is added, read and written.
-- Assumes nothing.
use Rattle.std.proofs.Common.{Result, Ok, Err}
use mathlib.Core.Path.{◌≡◌, refl, sym, ap, subst}
use mathlib.Core.Logic.{inl, inr}
use mathlib.Core.Bool.{Bool, true, false, ◌&&◌}
use mathlib.Core.List.{List, [], ◌∷◌, ◌++◌}
use mathlib.Core.Option.{Option, some}
use Prim.Native.Nat.{ℕ, ◌≤◌}
use native.Mathlib.Omega.{arith}
use borrow.Author.Tests.{le-ltb, ltb-true}
use lib.Dec.{eqb, ltb}
use lib.ListN.{length, get_or, set}
use Rattle.chars.specs.Lists.{member}
use Rattle.chars.proofs.Laws.Lists.{and_right, by_test}
use Rattle.oraddr.specs.Add.{add_dd, add_single, add_unit, outcome}
use Rattle.oraddr.specs.Attributes.{Dd}
use Rattle.oraddr.specs.Bounds.{most, rule}
use Rattle.oraddr.specs.Canonical.{canonical_record, is_dd, is_unit}
use Rattle.oraddr.specs.View.{dds_view, empty_record, singles_view, units_view, value_of, view}
use Rattle.oraddr.specs.declared.record.Record.{Record}
use Rattle.oraddr.proofs.Laws.Canonical.{canonical-view}
use Rattle.oraddr.proofs.Laws.View.{view_push_dd, view_push_unit, view-set-single}
use Rattle.ortext_segments.specs.Keys.{keys}
use Rattle.ortext_read.specs.Apply as apply
use Rattle.ortext_read.specs.Apply.{again, read, read_text, refused, unread}
use Rattle.ortext_name.proofs.Laws.Name.{name_short}
use Rattle.ortext_write.proofs.Laws.Written.{keys-good, written_back}
use Rattle.mailaddr.specs.Answers.{from_shape, shaping}
use Rattle.mailaddr.specs.declared.shape.AddressFault.{AddressFault}
use Rattle.mailaddr.specs.declared.shape.AddressFault.TheVariants.{NoShape, TooLong}
use Rattle.mailaddr.specs.Code.{coded}
use Rattle.mailaddr.specs.Shape.{Address, longest_address, shape_of}
use Rattle.table.specs.Formed.{Formed}
use Rattle.table.specs.Lines.{well_formed, TableOutcome, malformed}
use Rattle.table_load.specs.Load.{FormedBy}
use Rattle.table_load.proofs.Laws.Ready.{loaded_rules}
use Rattle.rowlist_load.proofs.Laws.Whole.{listed_rules}
use Rattle.table.specs.Table.{Table}
use Rattle.mapping.specs.Carried.{carried_whole, carrier_type, carrying, longest_coded}
use Rattle.mapping.specs.Results.{RecordResult, malformed_record, mapped, refused_record}
use Rattle.mapping.specs.ToRecord.{to_record, to_record_by, record_by}
use Rattle.mapping.specs.Whole.{Whole, WholeText}
use Rattle.mapping.proofs.Laws.CarriedBack.{carried-dds-text}
use Rattle.mapping.proofs.Laws.Whole.{returned_whole, whole-text}
use Rattle.gateway_text.specs.Texts.{read_outcome, record_of_text}
use Rattle.gateway.specs.Promises.{EndsAddition, Source, Struct, Unshortened, address_to, list, spelling, text, EndsRecord}

-- ---- what is added

pub addition_ends : (allowed : Bool) (new old : Record) → EndsAddition old (outcome allowed new old)
unfolding outcome
addition_ends true new old = inl refl
addition_ends false new old = inr (refl, refl)

added : (r : Record) (k : ℕ) (v : List ℕ) → (add_single r k v).number ≡ 0
    → view (add_single r k v).record' ≡ record { single = set (view r).single k v; units = (view r).units; dds = (view r).dds }
unfolding add_single outcome
added r k v h =
    by_test (rule k v && eqb (get_or r.singles.values k (value_of [])).len 0)
    (λ e. rw e (view-set-single r k v))
    (λ e. absurd (omega (arith, rw e at h)))

added_unit : (r : Record) (v : List ℕ) → Struct r → (add_unit r v).number ≡ 0
    → view (add_unit r v).record' ≡ record { single = (view r).single; units = (view r).units ++ (v ∷ []); dds = (view r).dds }
unfolding add_unit outcome view
added_unit r v s h =
    by_test (is_unit v && ltb r.units.count most)
    (λ e. let l = ltb-true r.units.count most (and_right (is_unit v) (ltb r.units.count most) e) in
    rw e (ap (λ (us : List (List ℕ)). record { single = singles_view r.singles; units = us; dds = dds_view r.dds }) (view_push_unit r.units v (omega (arith, s.units)))))
    (λ e. absurd (omega (arith, rw e at h)))

added-dd : (r : Record) (t v : List ℕ) → Struct r → (add_dd r t v).number ≡ 0
    → view (add_dd r t v).record' ≡ record { single = (view r).single; units = (view r).units; dds = (view r).dds ++ (record { kind = t; value = v } ∷ []) }
unfolding add_dd outcome view
added-dd r t v s h =
    let good : Bool = is_dd (record { kind = t; value = v }) in
    by_test (good && ltb r.dds.count most)
    (λ e. let l = ltb-true r.dds.count most (and_right good (ltb r.dds.count most) e) in
    rw e (ap (λ (ds : List Dd). record { single = singles_view r.singles; units = units_view r.units; dds = ds }) (view_push_dd r.dds t v (omega (arith, s.dds)))))
    (λ e. absurd (omega (arith, rw e at h)))

-- ---- what is read

module _ (s : List ℕ) where
  by-outcome : (x : apply.Reading) → read_text keys 0 empty_record s ≡ x → (read_outcome x).number ≡ 0 → WholeText s (read_outcome x).record'
  unfolding read_outcome
  by-outcome unread e h = absurd (omega arith)
  by-outcome refused e h = absurd (omega arith)
  by-outcome again e h = absurd (omega arith)
  by-outcome (read q) e h =
      by_test (canonical_record q)
      (λ c. rw c (whole-text q s e))
      (λ c. absurd (omega (arith, rw c at h)))

  text-read : (record_of_text s).number ≡ 0 → WholeText s (record_of_text s).record'
  unfolding record_of_text
  text-read h = by-outcome (read_text keys 0 empty_record s) refl h

-- the shape of a text that is not too long
pub short-shape : (s : List ℕ) (o : Option Address) → length s ≤ longest_address → shape_of s ≡ o → shaping s ≡ from_shape o
unfolding shaping
short-shape s o l h = rw (le-ltb longest_address (length s) l, h)

-- address to record under a table
pub under_table : (x : Source) (s : List ℕ) (t : Table) → spelling x ≡ well_formed t → address_to x s ≡ to_record t s
unfolding to_record_by
under_table x s t h = rw h

-- address to record: 0, or one of its numbers and an empty record
by_shape : (t : Table) (s : List ℕ) (x : Result Address AddressFault) → EndsRecord (1 ∷ 2 ∷ 3 ∷ 7 ∷ []) (record_by t s x).number (record_by t s x).record'
unfolding record_by refused_record carrying mapped member
by_shape t s (Err TooLong) = inr (refl, refl)
by_shape t s (Err NoShape) = inr (refl, refl)
by_shape t s (Ok a) =
    by_test (carried_whole t a)
    (λ c. by_test (ltb longest_coded (length (coded s))) (λ e. rw (c, e) (inr (refl, refl))) (λ e. rw (c, e) (inl refl)))
    (λ c. rw c (inl refl))

pub record_ends : (l : TableOutcome) (s : List ℕ) → EndsRecord (1 ∷ 2 ∷ 3 ∷ 7 ∷ []) (to_record_by l s).number (to_record_by l s).record'
unfolding to_record_by malformed_record to_record member
record_ends (malformed n) s = inr (refl, refl)
record_ends (well_formed t) s = by_shape t s (shaping s)

-- whatever spells a table, that keeps the rules of "The table text"
pub source_rules : (x : Source) → FormedBy (spelling x)
source_rules (text table) = loaded_rules table
source_rules (list s rows) = listed_rules s rows

pub source_formed : (x : Source) (t : Table) → spelling x ≡ well_formed t → Formed t
source_formed x t h = subst FormedBy h (source_rules x)

module _ (table : Source) (s : List ℕ) (t : Table) (a : Address) (h : spelling table ≡ well_formed t) (l : length s ≤ longest_address) (e : shape_of s ≡ some a) where
  has_shape : shaping s ≡ Ok a
  unfolding from_shape
  has_shape = short-shape s (some a) l e

  address_read : carried_whole t a ≡ false → Whole t a (address_to table s).record'
  address_read c = subst (λ (o : RecordResult). Whole t a o.record') (sym (under_table table s t h)) (returned_whole t s a has_shape c)

  address-carried : carried_whole t a ≡ true → (address_to table s).number ≡ 0
      → (view (address_to table s).record').dds ≡ record { kind = carrier_type; value = coded s } ∷ []
  address-carried c n = carried-dds-text (spelling table) s [] t a h (source_formed table t h) has_shape c n

-- ---- all of it

pub unshortened : Unshortened
unshortened =
    record {
      added = added;
      added_unit = added_unit;
      added-dd = added-dd;
      address_read = address_read;
      address-carried = address-carried;
      text-read = text-read;
      text-written = λ r n s c. written_back keys keys-good n (view r) (canonical-view r c) s.values;
      name_written = name_short;
    }
