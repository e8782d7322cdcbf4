-- Room for one answer is enough for any text under a table: `Rooms` of the page of promises.
-- Assumes nothing.
use mathlib.Core.Path.{◌≡◌, refl}
use mathlib.Core.Bool.{true}
use mathlib.Core.Logic.{inl, inr}
use mathlib.Core.List.{List, [], ◌∷◌}
use mathlib.Core.Option.{Option, none, some}
use Prim.Native.Nat.{ℕ, ◌≤◌}
use native.Mathlib.Omega.{arith}
use borrow.Author.Tests.{eqb-true, le-ltb}
use lib.Dec.{eqb}
use lib.ListN.{length}
use Rattle.chars.specs.Lists.{member}
use Rattle.chars.proofs.Laws.Lists.{by_test, true_not_false}
use Rattle.oraddr.specs.Bounds.{single_count}
use Rattle.oraddr.specs.Canonical.{canonical_record}
use Rattle.oraddr.specs.View.{empty_record, view}
use Rattle.oraddr.specs.declared.record.Record.{Record}
use Rattle.oraddr.proofs.Laws.Canonical.{canonical-view}
use Rattle.ortext_read.specs.Apply as apply
use Rattle.ortext_read.specs.Apply.{again, read, read_text, refused, unread}
use Rattle.ortext_segments.specs.Keys.{keys}
use Rattle.ortext_write.specs.Write.{record_text, remaining}
use Rattle.ortext_write.proofs.Laws.Write.{text_bound}
use Rattle.table.specs.Formed.{Formed}
use Rattle.table.specs.Lines.{TableOutcome, malformed, well_formed}
use Rattle.table.specs.Table.{Table}
use Rattle.table_load.specs.Load.{FormedBy}
use Rattle.mapping.specs.Results.{malformed_address, malformed_record, placed, refused_address}
use Rattle.mapping.specs.ToAddress.{address_of, placed_in, to_address, to_address_by}
use Rattle.mapping.specs.ToRecord.{to_record, to_record_by}
use Rattle.mapping.proofs.Laws.Returned.{done-canonical}
use Rattle.mapping.proofs.Laws.Short.{address-most}
use Rattle.mapping.proofs.Laws.Whole.{text-places}
use Rattle.router_line.specs.Line.{answer_room}
use Rattle.gateway_text.specs.Texts.{text_of_record}
use Rattle.gateway_export.specs.Exports.{reading_to_address, text_result, text_to_address_by}
use Rattle.gateway.specs.Promises.{EndsRecord, Rooms, spelling}
use Rattle.gateway.proofs.Laws.Entire.{record_ends, source_rules}

-- a text that fits is placed
placed-fits : (s old : List ℕ) → length s ≤ length old → (placed s old).number ≡ 6 → ⊥
unfolding placed
placed-fits s old l h = let e : ◌≡◌ {A = ℕ} 0 6 = rw (le-ltb (length old) (length s) l) at h in absurd (omega arith)

text-fits : (r : Record) → canonical_record r ≡ true → length (record_text keys (view r)) ≤ answer_room
unfolding remaining
text-fits r c = omega (arith, text_bound (view r) (canonical-view r c) 0)

module _ (old : List ℕ) (l : answer_room ≤ length old) where
  -- record to address, of a record that is one
  by_address : (t : Table) → Formed t → (r : Record) → length (view r).single ≡ single_count → canonical_record r ≡ true → (o : Option (List ℕ)) → address_of t (view r) ≡ o
      → (placed_in old o).number ≡ 6 → ⊥
  unfolding placed_in refused_address
  by_address t f r p c none e h = absurd (omega arith)
  by_address t f r p c (some s) e h = placed-fits s old (omega (arith, address-most t f r s p c e)) h

  under_table : (t : Table) → Formed t → (r : Record) → length (view r).single ≡ single_count → (to_address t r old).number ≡ 6 → ⊥
  unfolding to_address refused_address
  under_table t f r p h =
      by_test (canonical_record r)
      (λ c. by_address t f r p c (address_of t (view r)) refl (rw c at h))
      (λ c. let e : ◌≡◌ {A = ℕ} 4 6 = rw c at h in absurd (omega arith))

  address-fits : (o : TableOutcome) → FormedBy o → (r : Record) → length (view r).single ≡ single_count → (to_address_by o r old).number ≡ 6 → ⊥
  unfolding to_address_by malformed_address
  address-fits (malformed n) f r p h = absurd (omega arith)
  address-fits (well_formed t) f r p h = under_table t f r p h

  -- a record's text by itself
  record_fits : (r : Record) → (text_of_record r old).number ≡ 6 → ⊥
  unfolding text_of_record refused_address
  record_fits r h =
      by_test (canonical_record r)
      (λ c. placed-fits (record_text keys (view r)) old (omega (arith, text-fits r c)) (rw c at h))
      (λ c. let e : ◌≡◌ {A = ℕ} 4 6 = rw c at h in absurd (omega arith))

  -- an address to a record's text: what address to record itself answers is no 6
  not-six : (n : ℕ) (r : Record) → EndsRecord (1 ∷ 2 ∷ 3 ∷ 7 ∷ []) n r → n ≡ 6 → ⊥
  unfolding member
  not-six n r (inl z) h = absurd (omega arith)
  not-six n r (inr e) h = true_not_false (member n (1 ∷ 2 ∷ 3 ∷ 7 ∷ [])) e.0 (rw h)

  mapped-fits : (o : TableOutcome) → FormedBy o → (s : List ℕ) → (text_result (to_record_by o s) old).number ≡ 6 → ⊥
  unfolding text_result to_record_by malformed_record to_record
  mapped-fits (malformed n) f s h = absurd (omega arith)
  mapped-fits (well_formed t) f s h =
      by_test (eqb (to_record t s).number 0)
      (λ e. let r : Record = (to_record t s).record' in
      let c : canonical_record r ≡ true = done-canonical t f s (eqb-true (to_record t s).number 0 e) in
      placed-fits (record_text keys (view r)) old (omega (arith, text-fits r c)) (rw e at h))
      (λ e. not-six (to_record t s).number (to_record t s).record' (record_ends (well_formed t) s) (rw e at h))

  -- a record text to an address
  by-reading : (t : Table) → Formed t → (x : apply.Reading) → ((r : Record) → x ≡ read r → length (view r).single ≡ single_count) → (reading_to_address t x old).number ≡ 6 → ⊥
  unfolding reading_to_address refused_address
  by-reading t f unread p h = absurd (omega arith)
  by-reading t f refused p h = absurd (omega arith)
  by-reading t f again p h = absurd (omega arith)
  by-reading t f (read r) p h = under_table t f r (p r refl) h

  sent_fits : (o : TableOutcome) → FormedBy o → (s : List ℕ) → (text_to_address_by o s old).number ≡ 6 → ⊥
  unfolding text_to_address_by malformed_address
  sent_fits (malformed n) f s h = absurd (omega arith)
  sent_fits (well_formed t) f s h = by-reading t f (read_text keys 0 empty_record s) (λ r e. text-places r s e) h

pub rooms : Rooms
rooms =
    record {
      to_address_lem = λ table r old p l h. address-fits old l (spelling table) (source_rules table) r p.values h;
      write_record = λ r old l h. record_fits old l r h;
      address-text = λ table s old l h. mapped-fits old l (spelling table) (source_rules table) s h;
      text-address = λ table s old l h. sent_fits old l (spelling table) (source_rules table) s h;
      witness = text-fits;
    }
