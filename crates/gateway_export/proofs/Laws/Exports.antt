-- What is packed for C, from what the mappings and the check told, under what any table comes to.
-- Assumes nothing.
use Rattle.std.proofs.Common.{MatchResult, Result, Ok, Err, eqb}
use mathlib.Core.Path.{◌≡◌, refl, sym, ap, subst, ◌∙◌}
use mathlib.Core.Logic.{inl, inr}
use mathlib.Core.Bool.{true, false}
use mathlib.Core.List.{List, []}
use Prim.Native.Nat.{ℕ, ◌+◌, ◌*◌, ◌≤◌}
use native.Mathlib.Omega.{arith}
use borrow.Author.Tests.{ne_eqb}
use Rattle.chars.specs.Lists.{non_empty}
use Rattle.chars.proofs.Laws.Lists.{by_test, true_not_false}
use Rattle.oraddr.specs.Add.{Outcome, told}
use Rattle.oraddr.specs.Canonical.{canonical_record}
use Rattle.oraddr.specs.View.{empty_record, view}
use Rattle.oraddr.specs.declared.add.Addition.{Addition}
use Rattle.oraddr.specs.declared.record.Record.{Record}
use Rattle.oraddr.specs.Attributes.{single_of}
use Rattle.oraddr.proofs.Laws.Canonical.{canonical-parts, canonical-view}
use Rattle.oraddr.proofs.Laws.View.{view-empty}
use Rattle.ortext_read.specs.Apply as apply
use Rattle.ortext_read.specs.Apply.{again, read, read_text, refused, unread}
use Rattle.ortext_segments.specs.Keys.{keys}
use Rattle.ortext_write.specs.Write.{record_text, remaining}
use Rattle.ortext_write.proofs.Laws.Write.{text_bound}
use Rattle.table.specs.Lines.{TableOutcome, malformed, well_formed}
use Rattle.table.specs.Table.{Table}
use Rattle.table_load.specs.Load.{FormedBy}
use Rattle.mapping.specs.Answers.{address_bad_line, address_number, record_bad_line, record_number, told_address, told_record}
use Rattle.mapping.specs.Results.{AddressResult, RecordResult, malformed_record, placed, refused_address}
use Rattle.mapping.specs.ToAddress.{to_address, to_address_by}
use Rattle.mapping.specs.ToRecord.{to_record_by}
use Rattle.mapping.specs.declared.answers.AddressRefusal.{AddressRefusal}
use Rattle.mapping.specs.declared.answers.AddressRefusal.TheVariants as address-refusal
use Rattle.mapping.specs.declared.answers.RecordRefusal.{RecordRefusal}
use Rattle.mapping.specs.declared.answers.RecordRefusal.TheVariants as record-refusal
use Rattle.mapping.proofs.Laws.Returned.{done-canonical}
use Rattle.soundness.specs.Check.{CheckResult, Demand3}
use Rattle.gateway_pack.specs.Filled.{ShownText}
use Rattle.gateway_pack.specs.Packed.{most_count, number_limit, packed_count}
use Rattle.gateway_text.specs.Texts.{read_outcome, record_of_text}
use Rattle.gateway_text.proofs.Laws.Texts.{outcome-done, outcome-not}
use Rattle.gateway_export.specs.Exports.{Exported, ExportedCheck, Packable, PackableCheck, packed, reading_to_address, text_result, text_to_address_by}
use Rattle.gateway_export.proofs.Laws.Bounds.{Counted, address_bound, placed-line, placed-size, record_line_bound}

-- a refusal's number
pub number_small : (e : AddressRefusal) → address_number e ≤ 7
unfolding address_number
number_small address-refusal.NotCanonical = omega arith
number_small address-refusal.NoAddress = omega arith
number_small address-refusal.ShortBuffer = omega arith
number_small (address-refusal.Malformed l) = omega arith

pub refused-small : (e : RecordRefusal) → record_number e ≤ 7
unfolding record_number
refused-small record-refusal.NoShape = omega arith
refused-small record-refusal.TooLong = omega arith
refused-small record-refusal.TooLongCoded = omega arith
refused-small (record-refusal.Malformed l) = omega arith

-- a result as it was told, in one value
pub exported : (o : AddressResult) (w : Result ℕ AddressRefusal) (r : ℕ) (new : List ℕ) → told_address w new ≡ o → r ≡ packed (told_address w [])
    → Exported o r new
unfolding told_address
exported o (Ok n) r new e k = record { value = k ∙ ap packed e; buffer = ap (λ (x : AddressResult). x.buffer) e }
exported o (Err g) r new e k = record { value = k ∙ ap packed e; buffer = ap (λ (x : AddressResult). x.buffer) e }

-- a result of small counts
abbrev pub SmallCounts : Result ℕ AddressRefusal → Type 0
SmallCounts w = MatchResult w (λ n. n ≤ most_count) (λ e. address_bad_line e ≤ most_count)

small_counts : (w : Result ℕ AddressRefusal) (new : List ℕ) (o : AddressResult) → told_address w new ≡ o → o.size ≤ most_count → o.line ≤ most_count
    → SmallCounts w
unfolding told_address
small_counts (Ok n) new o e s l = omega (arith, ap (λ (x : AddressResult). x.size) e)
small_counts (Err g) new o e s l = omega (arith, ap (λ (x : AddressResult). x.line) e)

-- ---- an address to a record's text

table-canonical : (l : TableOutcome) (s : List ℕ) → FormedBy l → (to_record_by l s).number ≡ 0 → canonical_record (to_record_by l s).record' ≡ true
unfolding to_record_by malformed_record
table-canonical (malformed n) s f h = absurd (omega arith)
table-canonical (well_formed t) s f h = done-canonical t f s h

-- what a mapping tells can be packed
pub packable : (l : TableOutcome) (s : List ℕ) (o : RecordResult) → Counted l → FormedBy l → o ≡ to_record_by l s → Packable o
packable l s o h f e = subst Packable (sym e) (record { line = record_line_bound l s h; canonical = table-canonical l s f })

-- no refusal has the number of done
refused-not : (f : RecordRefusal) → eqb (record_number f) 0 ≡ false
unfolding record_number
refused-not record-refusal.NoShape = refl
refused-not record-refusal.TooLong = refl
refused-not record-refusal.TooLongCoded = refl
refused-not (record-refusal.Malformed l) = refl

pub text-not : (f : RecordRefusal) (old : List ℕ) (r : ℕ) → r ≡ packed_count (record_number f) (record_bad_line f) 0
    → Exported (text_result (told_record (Err f)) old) r old
unfolding text_result told_record
text-not f old r h = record { value = h ∙ rw (refused-not f); buffer = rw (refused-not f) }

-- the text of a canonical record is short
pub text-counts : (r : Record) (old new : List ℕ) (w : Result ℕ AddressRefusal) → canonical_record r ≡ true
    → told_address w new ≡ placed (record_text keys (view r)) old → SmallCounts w
unfolding remaining
text-counts r old new w c e =
    let s : List ℕ = record_text keys (view r) in
    small_counts w new (placed s old) e (omega (arith, placed-size s old, text_bound (view r) (canonical-view r c) 0)) (omega (arith, placed-line s old))

-- ---- a record text to an address

-- an empty record has no C
pub not-canonical : canonical_record empty_record ≡ false
unfolding non_empty single_of
not-canonical =
    by_test (canonical_record empty_record)
    (λ e. true_not_false false (rw view-empty at (canonical-parts (view empty_record) (canonical-view empty_record e)).country) refl)
    (λ e. e)

module _ (t : Table) (old : List ℕ) where
  refused-by : (r : Record) → canonical_record r ≡ false → to_address t r old ≡ refused_address 4 old
  unfolding to_address
  refused-by r c = rw c

  empty-refused : to_address t empty_record old ≡ refused_address 4 old
  empty-refused = refused-by empty_record not-canonical

  read-address : (x : apply.Reading) → to_address t (read_outcome x).record' old ≡ reading_to_address t x old
  unfolding read_outcome reading_to_address
  read-address unread = empty-refused
  read-address refused = empty-refused
  read-address again = empty-refused
  read-address (read r) =
      by_test (canonical_record r)
      (λ c. ap (λ (o : Outcome). to_address t o.record' old) (sym (outcome-done r c)))
      (λ c. ap (λ (o : Outcome). to_address t o.record' old) (sym (outcome-not r c)) ∙ empty-refused ∙ sym (refused-by r c))

read_by : (l : TableOutcome) (s old : List ℕ) → to_address_by l (record_of_text s).record' old ≡ text_to_address_by l s old
unfolding to_address_by text_to_address_by record_of_text
read_by (malformed n) s old = refl
read_by (well_formed t) s old = read-address t old (read_text keys 0 empty_record s)

pub text_to_address_lem : (l : TableOutcome) (s old : List ℕ) (d : Addition) → told d ≡ record_of_text s → to_address_by l d.«record» old ≡ text_to_address_by l s old
text_to_address_lem l s old d e = ap (λ (o : Outcome). to_address_by l o.record' old) e ∙ read_by l s old

pub address-counts : (l : TableOutcome) (r : Record) (old new : List ℕ) (w : Result ℕ AddressRefusal) → Counted l → FormedBy l
    → told_address w new ≡ to_address_by l r old → SmallCounts w
address-counts l r old new w h f e =
    let b = address_bound old l r h f in
    small_counts w new (to_address_by l r old) e b.0 b.1

-- ---- the check

-- a witness is canonical
pub witness-canonical : (l : TableOutcome) (o : CheckResult) → Demand3 l o → o.number ≡ 8 → canonical_record o.record' ≡ true
witness-canonical (malformed n) o d h = absurd (omega (arith, d.number))
witness-canonical (well_formed t) o (inl a) h = absurd (omega (arith, a.number))
witness-canonical (well_formed t) o (inr r) h = r.witness.canonical

pub tells_sound : (l : TableOutcome) (o : CheckResult) (old : List ℕ) → Demand3 l o → o.number ≡ 0 → ExportedCheck l old 0 old
unfolding packed_count
tells_sound (malformed n) o old d h = absurd (omega (arith, d.number))
tells_sound (well_formed t) o old (inl a) h = inl (record { sound = a.sound; value = refl; buffer = refl })
tells_sound (well_formed t) o old (inr r) h = absurd (omega (arith, r.number))

pub tells_witness : (l : TableOutcome) (o : CheckResult) (old new : List ℕ) (n : ℕ) → Demand3 l o → o.number ≡ 8 → ShownText (record_text keys (view o.record')) old n new
    → ExportedCheck l old (8 + number_limit * n) new
unfolding packed_count
tells_witness (malformed m) o old new n d h k = absurd (omega (arith, d.number))
tells_witness (well_formed t) o old new n (inl a) h k = absurd (omega (arith, a.number))
tells_witness (well_formed t) o old new n (inr r) h k =
    inr (record { shown = o.record'; witness = r.witness; value = ap (λ (m : ℕ). 8 + number_limit * m) k.size; buffer = k.buffer })

pub tells_malformed : (l : TableOutcome) (o : CheckResult) (old : List ℕ) → Demand3 l o → o.number ≡ 7 → ExportedCheck l old (7 + number_limit * o.line) old
unfolding packed_count
tells_malformed (malformed n) o old d h = record { value = ap (λ (m : ℕ). 7 + number_limit * m) d.line; buffer = refl }
tells_malformed (well_formed t) o old (inl a) h = absurd (omega (arith, a.number))
tells_malformed (well_formed t) o old (inr r) h = absurd (omega (arith, r.number))

-- what the check tells can be packed
pub packable_check : (l : TableOutcome) (o : CheckResult) → Counted l → Demand3 l o → PackableCheck o
packable_check (malformed n) o h d = record { line = omega (arith, d.line, h); canonical = witness-canonical (malformed n) o d }
packable_check (well_formed t) o h (inl a) = record { line = omega (arith, a.line); canonical = witness-canonical (well_formed t) o (inl a) }
packable_check (well_formed t) o h (inr r) = record { line = omega (arith, r.line); canonical = witness-canonical (well_formed t) o (inr r) }

pub shown-size : (r : Record) (old new : List ℕ) (n : ℕ) → canonical_record r ≡ true → ShownText (record_text keys (view r)) old n new → n ≤ most_count
unfolding remaining
shown-size r old new n c k = omega (arith, k.size, text_bound (view r) (canonical-view r c) 0)
