-- What the code's answers tell of a candidate: the record with a token behind its levels; whether an address becomes the record, by the
-- answer of address to record; and whether a record comes back, by the answer of record to address in a buffer that has room for any text.
-- Assumes nothing.
use Rattle.std.proofs.Common.{Ok, Err}
use mathlib.Core.Path.{◌≡◌, refl, sym, ap, ◌∙◌}
use mathlib.Core.Bool.{true, false, ◌&&◌, cond}
use mathlib.Core.List.{List, [], ◌∷◌, ◌++◌}
use mathlib.Core.Option.{Option, none, some}
use Prim.Native.Nat.{ℕ, suc, ◌+◌, ◌≤◌}
use native.Mathlib.Nat.{add-zero}
use native.Mathlib.Omega.{arith}
use borrow.Author.Tests.{eqb-true}
use lib.Dec.{eqb}
use lib.ListN.{length, take, length-map}
use Rattle.chars.specs.Write.{front}
use Rattle.chars.proofs.Laws.Lists.{by_test, true_not_false}
use Rattle.chars.proofs.Laws.Write.{length_front, take-front}
use Rattle.oraddr.specs.Add.{Outcome, told}
use Rattle.oraddr.specs.Canonical.{canonical_record}
use Rattle.oraddr.specs.Same.{same_record}
use Rattle.oraddr.specs.Bounds.{single_count}
use Rattle.oraddr.specs.View.{empty_record, singles_view, value_view, view}
use Rattle.oraddr.specs.declared.add.Addition.{Addition}
use Rattle.oraddr.specs.declared.record.Record.{Record}
use Rattle.table.specs.Formed.{Formed}
use Rattle.table_settle.specs.Settle.{add_level, add_levels, begun}
use Rattle.table.specs.Table.{Table, Token}
use Rattle.mapping.specs.Answers.{address_number, address_room, record_number, told_address, told_record}
use Rattle.mapping.specs.Results.{AddressResult, RecordResult}
use Rattle.mapping.specs.ToAddress.{to_address}
use Rattle.mapping.specs.ToRecord.{to_record}
use Rattle.mapping.specs.declared.answers.AddressRefusal.{AddressRefusal}
use Rattle.mapping.specs.declared.answers.AddressRefusal.TheVariants as address-refusal
use Rattle.mapping.specs.declared.answers.RecordRefusal.{RecordRefusal}
use Rattle.mapping.specs.declared.answers.RecordRefusal.TheVariants as record-refusal
use Rattle.mapping.proofs.Laws.Short.{address-most}
use Rattle.soundness.specs.Check.{candidate_of, with_surname}
use Rattle.soundness.specs.Sound.{IsStruct, back_by, comes_back, text_of}
use Rattle.soundness.proofs.Laws.Comes.{given, refused}

-- ---- a token behind the levels

levels-behind : (k : ℕ) (fs : List Token) (f : Token) (o : Outcome) → (add_levels k fs o).number ≡ 0
    → add_levels k (fs ++ f ∷ []) o ≡ add_level (k + length fs) f (add_levels k fs o).record'
unfolding add_levels
levels-behind k [] f o h = rw (h, add-zero k)
levels-behind k (g ∷ fs) f o h =
    let e : suc k + length fs ≡ k + suc (length fs) = omega arith in
    levels-behind (suc k) fs f (cond (eqb o.number 0) (add_level k g o.record') o) h ∙ rw e

-- the levels added to an empty record, and then the token
pub token-behind : (fs : List Token) (f : Token) (k : ℕ) (a b : Addition) → k ≡ length fs → (add_levels 0 fs (begun empty_record)).number ≡ 0
    → told a ≡ add_levels 0 fs (begun empty_record) → told b ≡ add_level k f a.«record» → with_surname b.«record» ≡ candidate_of (fs ++ f ∷ [])
unfolding candidate_of
token-behind fs f k a b l h p q =
    let n : k ≡ 0 + length fs = omega arith in
    let r : a.«record» ≡ (add_levels 0 fs (begun empty_record)).record' = ap (λ o. o.record') p in
    let m : add_level k f a.«record» ≡ add_levels 0 (fs ++ f ∷ []) (begun empty_record) = rw (r, n) (sym (levels-behind 0 fs f (begun empty_record) h)) in
    ap (λ (o : Outcome). with_surname o.record') (q ∙ m)

-- ---- whether an address becomes the record

-- no refusal has the number of done
record_refused : (f : RecordRefusal) → eqb (record_number f) 0 ≡ false
unfolding record_number
record_refused record-refusal.NoShape = refl
record_refused record-refusal.TooLong = refl
record_refused record-refusal.TooLongCoded = refl
record_refused (record-refusal.Malformed l) = refl

address_refused : (f : AddressRefusal) → eqb (address_number f) 0 ≡ false
unfolding address_number
address_refused address-refusal.NotCanonical = refl
address_refused address-refusal.NoAddress = refl
address_refused address-refusal.ShortBuffer = refl
address_refused (address-refusal.Malformed l) = refl

module _ (t : Table) (s : List ℕ) (r : Record) where
  pub back_done : (q : Record) → told_record (Ok q) ≡ to_record t s → same_record q r ≡ back_by t r (some s)
  unfolding told_record back_by
  back_done q e = ap (λ (o : RecordResult). eqb o.number 0 && same_record o.record' r) e

  pub back-not : (f : RecordRefusal) → told_record (Err f) ≡ to_record t s → false ≡ back_by t r (some s)
  unfolding told_record back_by
  back-not f e =
      let n : eqb (to_record t s).number 0 ≡ false = ap (λ (o : RecordResult). eqb o.number 0) (sym e) ∙ record_refused f in
      rw n

-- ---- whether a record comes back

-- an array has as many values as its type says
pub struct_of : (r : Record) → length r.singles.values ≡ single_count → IsStruct r
unfolding singles_view view
struct_of r h = length-map r.singles.values value_view ∙ h

module _ (t : Table) (f : Formed t) (r : Record) (struct : IsStruct r) where
  -- there is room for the text that a record goes out as
  text-most : (s : List ℕ) → text_of t r ≡ some s → length s ≤ address_room
  unfolding text_of
  text-most s e =
      by_test (canonical_record r)
      (λ c. address-most t f r s struct c (rw c at e))
      (λ c. let n : ◌≡◌ {A = Option (List ℕ)} none (some s) = rw c at e in let z : ◌≡◌ {A = ℕ} 0 1 = cc in absurd (omega arith))

  module _ (old new : List ℕ) (l : length old ≡ address_room) where
    placed-text : (s : List ℕ) → text_of t r ≡ some s → to_address t r old ≡ record { number = 0; line = 0; size = length s; buffer = front s old }
    placed-text s k = given t r s old k (omega (arith, text-most s k))

    -- the text that was written
    pub told_text : (n : ℕ) → told_address (Ok n) new ≡ to_address t r old → (text_of t r ≡ some (take n new)) × (n ≤ length new)
    unfolding told_address
    told_text n e = by-text (text_of t r) refl
      where
        by-text : (o : Option (List ℕ)) → text_of t r ≡ o → (text_of t r ≡ some (take n new)) × (n ≤ length new)
        by-text none k = absurd (refused t r old k (ap (λ (y : AddressResult). y.number) (sym e)))
        by-text (some s) k =
            let q = e ∙ placed-text s k in
            let m : n ≡ length s = ap (λ (y : AddressResult). y.size) q in
            let b : new ≡ front s old = ap (λ (y : AddressResult). y.buffer) q in
            (k ∙ ap some (rw (m, b) (sym (take-front s old))), rw (m, b) (omega (arith, length_front s old (omega (arith, text-most s k)), text-most s k)))

    -- there was none
    pub told-not : (g : AddressRefusal) → told_address (Err g) new ≡ to_address t r old → false ≡ comes_back t r
    unfolding told_address comes_back back_by
    told-not g e = by-text (text_of t r) refl
      where
        by-text : (o : Option (List ℕ)) → text_of t r ≡ o → false ≡ back_by t r o
        by-text none k = refl
        by-text (some s) k = true_not_false (eqb (address_number g) 0) (ap (λ (y : AddressResult). eqb y.number 0) (e ∙ placed-text s k)) (address_refused g)
