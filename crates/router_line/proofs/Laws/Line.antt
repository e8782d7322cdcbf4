-- Laws of a line's answer: what the answers of the readers and of the mappings come to as a line of output.
-- Assumes nothing.
use Rattle.std.proofs.Common.{Ok, Err, Result}
use mathlib.Core.Path.{◌≡◌, refl, sym, ap, ◌∙◌}
use mathlib.Core.Bool.{true, false, cond}
use mathlib.Core.List.{List, [], ◌∷◌, ◌++◌}
use mathlib.Core.Option.{Option, none, some}
use Prim.Native.Nat.{ℕ, ◌≤◌, ◌<◌}
use native.Mathlib.Omega.{arith}
use borrow.Author.Tests.{eqb-true, le-ltb, lt-ltb, ne_eqb}
use lib.Dec.{eqb, ltb}
use lib.ListN.{length, get_or, take, drop, length-append}
use lib.Seq.{drop_at, length-take-le, take-append-le}
use Rattle.chars.specs.Write.{Wrote}
use Rattle.chars.proofs.Laws.Lists.{by_test}
use Rattle.chars.proofs.Laws.Write.{wrote-length, wrote_over, wrote-within}
use Rattle.oraddr.specs.Bounds.{single_count}
use Rattle.oraddr.specs.Canonical.{canonical_record}
use Rattle.oraddr.specs.View.{empty_record, view}
use Rattle.oraddr.specs.declared.record.Record.{Record}
use Rattle.oraddr.proofs.Laws.Canonical.{canonical-view}
use Rattle.ortext_read.specs.Answers.{reading, reading_result, told_reading}
use Rattle.ortext_read.proofs.Laws.Answers.{reads_as}
use Rattle.ortext_read.specs.Apply as apply
use Rattle.ortext_read.specs.Apply.{again, read, read_text, refused, unread}
use Rattle.ortext_segments.specs.Keys.{keys}
use Rattle.ortext_read.specs.declared.read.TextFault.{TextFault}
use Rattle.ortext_read.specs.declared.read.TextFault.TheVariants.{Again, Refused, Unread}
use Rattle.ortext_write.specs.Write.{record_text, remaining}
use Rattle.ortext_write.proofs.Laws.Write.{text_bound}
use Rattle.table.specs.Formed.{Formed}
use Rattle.table.specs.Lines as lines
use Rattle.table.specs.Lines.{malformed, well_formed}
use Rattle.table_load.specs.Load.{FormedBy}
use Rattle.table.specs.Rows.{table_at}
use Rattle.table.specs.Table.{Table}
use Rattle.table.specs.declared.load.Loaded.{Loaded}
use Rattle.mapping.specs.Answers.{address_room, outward, record_number, told_record}
use Rattle.mapping.specs.Results.{RecordResult, malformed_record}
use Rattle.mapping.specs.ToAddress.{address_of}
use Rattle.mapping.specs.ToRecord.{to_record, to_record_by}
use Rattle.mapping.specs.declared.answers.RecordRefusal.{RecordRefusal}
use Rattle.mapping.specs.declared.answers.RecordRefusal.TheVariants as refusal
use Rattle.mapping.proofs.Laws.Returned.{done-canonical}
use Rattle.mapping.proofs.Laws.Short.{address-most}
use Rattle.mapping.proofs.Laws.Sides.{outward-same}
use Rattle.mapping.proofs.Laws.Whole.{text-places}
use Rattle.router_line.specs.Line.{answer_room, done_line, line_answer, longest_line, read_line, record_line, refused_line, sent_line, tagged_line, text_at, text_line}

-- an address that was written to the front of a part, behind the place of its number and tab, and the line put together over it
pub done_over : (k : ℕ) {o p new : List ℕ} {n j : ℕ} → Wrote (take k (drop text_at o)) 0 (take n p) n p → n ≤ length p → text_at ≤ length o
    → let q = take text_at o ++ (p ++ drop k (drop text_at o)) in Wrote q 0 (done_line (take n (drop text_at q))) j new → Wrote o 0 (done_line (take n p)) j new
unfolding done_line
done_over k {o} {p} {new} {n} {j} w h room v =
    let rest = drop k (drop text_at o) in
    let e : take n (drop text_at (take text_at o ++ (p ++ rest))) ≡ take n p =
    ap (take n) (drop_at (take text_at o) (p ++ rest) text_at (length-take-le text_at o room)) ∙ take-append-le n p rest h in
    wrote_over (wrote-within text_at k w (omega (arith, wrote-length w, length-take-le n p h)) room) (rw e at v) (omega arith)
    (omega (arith, length-append (take n p) (10 ∷ [])))

-- ---- an address

refused_not : (f : RecordRefusal) → eqb (record_number f) 0 ≡ false
unfolding record_number
refused_not refusal.NoShape = refl
refused_not refusal.TooLong = refl
refused_not refusal.TooLongCoded = refl
refused_not (refusal.Malformed l) = refl

module _ (t : Table) (s : List ℕ) where
  pub record_canonical : (q : Record) → told_record (Ok q) ≡ to_record t s → Formed t → canonical_record q ≡ true
  unfolding told_record
  record_canonical q e f =
      ap (λ (o : RecordResult). canonical_record o.record') e ∙ done-canonical t f s (ap (λ (o : RecordResult). o.number) (sym e))

  pub record_done : (q : Record) → told_record (Ok q) ≡ to_record t s → done_line (record_text keys (view q)) ≡ record_line (to_record t s)
  unfolding record_line told_record
  record_done q e = ap record_line e

  pub record_not : (f : RecordRefusal) → told_record (Err f) ≡ to_record t s → refused_line (record_number f) ≡ record_line (to_record t s)
  unfolding record_line told_record
  record_not f e = rw (refused_not f) at (ap record_line e)

-- ---- a record text

module _ (t : Table) (r : Record) where
  pub sent_not : canonical_record r ≡ false → refused_line 4 ≡ read_line t (read r)
  unfolding read_line
  sent_not h = rw h

  pub sent_as : (o : Option (List ℕ)) → canonical_record r ≡ true → address_of t (view r) ≡ o → sent_line o ≡ read_line t (read r)
  unfolding read_line
  sent_as o h k = rw (h, k)

  pub sent_done : (s : List ℕ) → canonical_record r ≡ true → address_of t (view r) ≡ some s → done_line s ≡ read_line t (read r)
  unfolding sent_line
  sent_done s h k = sent_as (some s) h k

  pub sent_none : canonical_record r ≡ true → address_of t (view r) ≡ none → refused_line 5 ≡ read_line t (read r)
  unfolding sent_line
  sent_none h k = sent_as none h k

-- the reading of a text, as the line that it comes to
module _ (t : Table) (e : Record) (s : List ℕ) (x : Result Record TextFault) (z : e ≡ empty_record) (k : told_reading x ≡ reading_result (read_text keys 0 e s)) where
  pub read_as : (y : apply.Reading) → reading x ≡ y → read_line t y ≡ text_line (well_formed t) s
  unfolding text_line
  read_as y h = ap (read_line t) (sym h ∙ reads_as x (read_text keys 0 e s) k ∙ ap (λ (r : Record). read_text keys 0 r s) z)

-- a text that gives no record
fault_line : (t : Table) (f : TextFault) → refused_line 4 ≡ read_line t (reading (Err f))
unfolding reading read_line
fault_line t Unread = refl
fault_line t Refused = refl
fault_line t Again = refl

pub read_not : (t : Table) (e : Record) (s : List ℕ) (f : TextFault) → e ≡ empty_record → told_reading (Err f) ≡ reading_result (read_text keys 0 e s)
    → refused_line 4 ≡ text_line (well_formed t) s
read_not t e s f z k = fault_line t f ∙ read_as t e s (Err f) z k (reading (Err f)) refl

-- record to address reads the gateway and the rows to a domain alone, and so does a line's answer
module _ (s ds rs : List ℕ) (t : Loaded) where
  pub line-under : (x : apply.Reading) → read_line (outward s rs t) x ≡ read_line (table_at s ds rs t) x
  unfolding read_line
  line-under unread = refl
  line-under refused = refl
  line-under again = refl
  line-under (read r) = ap (λ (o : Option (List ℕ)). cond (canonical_record r) (sent_line o) (refused_line 4)) (outward-same s ds rs t (view r))

  pub text-under : (a : List ℕ) → text_line (well_formed (outward s rs t)) a ≡ text_line (well_formed (table_at s ds rs t)) a
  unfolding text_line
  text-under a = line-under (read_text keys 0 empty_record a)

-- ---- the form of a line

module _ (l : lines.TableOutcome) (s : List ℕ) where
  pub tagged_address : (tag : ℕ) → tag ≡ 65 → record_line (to_record_by l s) ≡ tagged_line l tag s
  unfolding tagged_line
  tagged_address tag h = rw h

  pub tagged_text : (tag : ℕ) → (tag ≡ 65 → ⊥) → tag ≡ 79 → text_line l s ≡ tagged_line l tag s
  unfolding tagged_line
  tagged_text tag n h = rw h

  pub tagged_other : (tag : ℕ) → (tag ≡ 65 → ⊥) → (tag ≡ 79 → ⊥) → refused_line 1 ≡ tagged_line l tag s
  unfolding tagged_line
  tagged_other tag n m = rw (ne_eqb tag 65 n, ne_eqb tag 79 m)

  pub line_over : longest_line < length s → refused_line 1 ≡ line_answer l s
  unfolding line_answer
  line_over h = rw (lt-ltb longest_line (length s) h)

  pub line_untabbed : length s ≤ longest_line → (get_or s 1 0 ≡ 9 → ⊥) → refused_line 1 ≡ line_answer l s
  unfolding line_answer
  line_untabbed h n = rw (le-ltb longest_line (length s) h, ne_eqb (get_or s 1 0) 9 n)

  pub line_tagged : length s ≤ longest_line → get_or s 1 0 ≡ 9 → tagged_line l (get_or s 0 0) (drop 2 s) ≡ line_answer l s
  unfolding line_answer
  line_tagged h n = rw (le-ltb longest_line (length s) h, n)

-- a line with no second byte has no tab there
short_byte : (s : List ℕ) → length s < 2 → get_or s 1 0 ≡ 0
short_byte [] h = refl
short_byte (x ∷ []) h = refl
short_byte (x ∷ y ∷ s) h = absurd (omega arith)

pub line-short : (l : lines.TableOutcome) (s : List ℕ) → length s < 2 → refused_line 1 ≡ line_answer l s
line-short l s h = line_untabbed l s (omega arith) (λ e. let z = short_byte s h in absurd (omega arith))

-- ---- how long an answer can be

refused-length : (n : ℕ) → length (refused_line n) ≤ answer_room
unfolding refused_line
refused-length n = omega arith

done-length : (s : List ℕ) → length s ≤ address_room → length (done_line s) ≤ answer_room
unfolding done_line
done-length s h = omega (arith, length-append s (10 ∷ []))

module _ (t : Table) (f : Formed t) where
  record_length : (s : List ℕ) → length (record_line (to_record t s)) ≤ answer_room
  unfolding record_line remaining
  record_length s =
      by_test (eqb (to_record t s).number 0)
      (λ e.
      let r : Record = (to_record t s).record' in
      let c : canonical_record r ≡ true = done-canonical t f s (eqb-true (to_record t s).number 0 e) in
      rw e (done-length (record_text keys (view r)) (omega (arith, text_bound (view r) (canonical-view r c) 0))))
      (λ e. rw e (refused-length (to_record t s).number))

  sent_length : (r : Record) (o : Option (List ℕ)) → length (view r).single ≡ single_count → canonical_record r ≡ true → address_of t (view r) ≡ o
      → length (sent_line o) ≤ answer_room
  unfolding sent_line
  sent_length r none l c e = refused-length 5
  sent_length r (some s) l c e = done-length s (address-most t f r s l c e)

  read_length : (x : apply.Reading) → ((r : Record) → x ≡ read r → length (view r).single ≡ single_count) → length (read_line t x) ≤ answer_room
  unfolding read_line
  read_length unread l = refused-length 4
  read_length refused l = refused-length 4
  read_length again l = refused-length 4
  read_length (read r) l =
      by_test (canonical_record r)
      (λ c. rw c (sent_length r (address_of t (view r)) (l r refl) c refl))
      (λ c. rw c (refused-length 4))

-- under what a table text comes to
malformed-length : (n : ℕ) → length (record_line (malformed_record n)) ≤ answer_room
unfolding record_line malformed_record
malformed-length n = refused-length 7

address-length : (l : lines.TableOutcome) (s : List ℕ) → FormedBy l → length (record_line (to_record_by l s)) ≤ answer_room
unfolding to_record_by
address-length (malformed n) s f = malformed-length n
address-length (well_formed t) s f = record_length t f s

text-length : (l : lines.TableOutcome) (s : List ℕ) → FormedBy l → length (text_line l s) ≤ answer_room
unfolding text_line
text-length (malformed n) s f = refused-length 7
text-length (well_formed t) s f = read_length t f (read_text keys 0 empty_record s) (λ r e. text-places r s e)

tagged_length : (l : lines.TableOutcome) (tag : ℕ) (s : List ℕ) → FormedBy l → length (tagged_line l tag s) ≤ answer_room
unfolding tagged_line
tagged_length l tag s f =
    by_test (eqb tag 65)
    (λ e. rw e (address-length l s f))
    (λ e. by_test (eqb tag 79) (λ g. rw (e, g) (text-length l s f)) (λ g. rw (e, g) (refused-length 1)))

-- room for any answer
pub answer-length : (l : lines.TableOutcome) (s : List ℕ) → FormedBy l → length (line_answer l s) ≤ answer_room
unfolding line_answer
answer-length l s f =
    by_test (ltb longest_line (length s))
    (λ e. rw e (refused-length 1))
    (λ e.
    by_test (eqb (get_or s 1 0) 9)
    (λ g. rw (e, g) (tagged_length l (get_or s 0 0) (drop 2 s) f))
    (λ g. rw (e, g) (refused-length 1)))
