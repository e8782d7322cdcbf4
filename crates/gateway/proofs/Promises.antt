-- Every statement of `specs/Promises.antt` is so.
-- Assumes nothing.
use Rattle.std.specs.Prelude as code
use Rattle.std.proofs.Common.{Result, Ok, Err}
use mathlib.Core.Path.{◌≡◌, refl, sym, ap, subst, ◌∙◌}
use mathlib.Core.Logic.{inl, inr}
use mathlib.Core.Bool.{true, false, cond, ◌&&◌}
use mathlib.Core.List.{List, [], ◌∷◌}
use mathlib.Core.Option.{Option, none, some}
use Prim.Native.Nat.{ℕ, ◌+◌, ◌≤◌, ◌<◌}
use native.Mathlib.Omega.{arith}
use borrow.Author.Tests.{eqb-true, le-ltb, lt-ltb, ltb-false, eq-eqb, ne_eqb}
use lib.Dec.{eqb, ltb}
use lib.ListN.{length, take, drop, get_or, length-append}
use Rattle.chars.specs.Lists.{all, member}
use Rattle.chars.specs.Write.{Wrote, front, placed_text, refused_text}
use Rattle.chars.proofs.Laws.Lists.{by_test, true_not_false}
use Rattle.chars.proofs.Laws.Write.{drop-front, length_front, wrote-front, wrote_taken}
use Rattle.oraddr.specs.Canonical.{canonical_record, is_dd, is_unit}
use Rattle.oraddr.specs.View.{domain_defined_of, empty_record, value_of, view}
use Rattle.oraddr.specs.declared.record.Record.{Record}
use Rattle.ortext_read.specs.Apply as apply
use Rattle.ortext_read.specs.Apply.{again, read, read_text, refused, unread}
use Rattle.ortext_segments.specs.Keys.{keys}
use Rattle.ortext_write.specs.Write.{record_text}
use Rattle.mailaddr.specs.Answers.{from_shape, shaping}
use Rattle.mailaddr.specs.declared.shape.AddressFault.{AddressFault}
use Rattle.mailaddr.specs.declared.shape.AddressFault.TheVariants.{NoShape, TooLong}
use Rattle.mailaddr.specs.Code.{coded}
use Rattle.mailaddr.specs.Shape.{Address, longest_address, shape_of}
use Rattle.table.specs.Lines.{TableOutcome, malformed, well_formed}
use Rattle.table.specs.Table.{Table}
use Rattle.mapping.specs.Carried.{carried_whole, carrier_of, carrying, longest_coded, result_of}
use Rattle.mapping.specs.Results.{AddressResult, RecordResult, malformed_address, malformed_record, mapped, placed, refused_address, refused_record}
use Rattle.mapping.specs.ToAddress.{address_of, is_carrier, placed_in, record_to_address, to_address, to_address_by}
use Rattle.mapping.specs.ToRecord.{address_to_record, record_by, record_in, to_record, to_record_by}
use Rattle.mapping.proofs.Laws.CarriedBack.{carried-back-text}
use Rattle.mapping.proofs.Laws.Whole.{returned_canonical}
use Rattle.soundness.specs.Check.{CheckResult, Demand3}
use Rattle.soundness.specs.Sound.{IsReturned, Sound}
use Rattle.dates.specs.Convert.{converted, date_to_utc, utc_to_date}
use Rattle.date_read.specs.Read.{read_date, read_utc}
use Rattle.dates.specs.Write.{date_text, utc_text}
use Rattle.date_read.specs.declared.date.DateTime.{DateTime}
use Rattle.dates.proofs.Laws.Back.{date_back, utc_back}
use Rattle.dates.proofs.Laws.Convert.{date_date, utc_date_lem}
use Rattle.chars.specs.Class.{is_char}
use Rattle.restricted.specs.Code.{coded as codedRestricted, decoded as decodedRestricted}
use Rattle.restricted.specs.Convert.{restrict_text, unrestrict_text}
use Rattle.restricted.proofs.Laws.Atoms.{coded-atoms}
use Rattle.restricted.proofs.Laws.Back.{decoded-coded, not-coded-decoded}
use Rattle.restricted.proofs.Laws.Convert.{calls_back}
use Rattle.lexical.specs.Nesting.{nests_too_deep}
use Rattle.lexical.specs.Tokens.{longest_line}
use Rattle.lexical.proofs.Laws.Depth.{nested, nested_too_deep}
use Rattle.mailbox.specs.Mailbox.{Bare, bare_in, bare_text, mailbox_by, phrase_place, place_in, read_mailbox, reading, reading_of, text_by}
use Rattle.mailbox.proofs.Laws.Address.{address-reading}
use Rattle.mailbox.proofs.Laws.AddressSame.{address_needless, address_same}
use Rattle.mailbox.proofs.Laws.Again.{unnamed_text, written-again}
use Rattle.mailbox.proofs.Laws.Bare.{written-meaning, written-shape}
use Rattle.router.proofs.Laws.Calls.{call_moves, calls_whole}
use Rattle.rowlist.specs.declared.RowEntry.{RowEntry}
use Rattle.rowlist_load.proofs.Laws.FirstBad.{list-bad-first, list-first-bad, list-formed_well, list_well_formed}
use Rattle.rowlist_load.proofs.Laws.Whole.{listed_front, same-table as Listed-same}
use Rattle.rowlist_load.proofs.Laws.Written.{written}
use Rattle.gateway_mailbox.proofs.Laws.Mailboxes.{place_inside, result_inside}
use Rattle.gateway_pack.proofs.Laws.Packed.{count-back, count-number, number-back, size_back}
use Rattle.gateway_text.specs.Texts.{read_outcome, record_of_text, text_of_record}
use Rattle.gateway_export.specs.Exports.{reading_to_address, text_result, text_to_address_by}
use Rattle.gateway.specs.Exports.{address_to_text, text_to_address}
use Rattle.gateway.specs.Promises.{Accepted, AddressRules, Dates, Demand1, Demand2, Demand3Exactly, EndsBuffer, EndsRecord, Judgement, Limits, ListRules, MailboxRules, Mailboxes, Packing, Promises, RecordRules, Restricted, Returns, Router, SharedTails, Source, Struct, Texts, address_to, record_to, spelling, without_line}
use native.Mathlib.Nat.{zero-add}
use Rattle.chars.specs.Parts.{run}
use Rattle.oraddr.specs.Add.{add_dd, add_single, add_unit, push_dd, push_unit, set_single}
use Rattle.oraddr.specs.Bounds.{most, rule}
use Rattle.mailaddr.specs.Tail.{shared_tail, tail_place}
use Rattle.mailaddr.proofs.Laws.Tail.{tail-drop, tail-longest, tail-place, tail-second, tail-suffix}
use Rattle.soundness.proofs.Laws.Comes.{not-six-room, room-not-six}
use Rattle.router.specs.Run.{called, ended}
use Rattle.gateway.proofs.Laws.Rooms.{rooms}
use Rattle.gateway.proofs.Laws.Entire.{addition_ends, record_ends, short-shape, source_formed, source_rules, under_table, unshortened}
use Rattle.table.proofs.Laws.FirstBad.{bad-first, first-bad, formed_well, well_formed_lem}
use Rattle.mapping.proofs.Laws.Carried.{carried_is}
use Rattle.gateway_export.proofs.Laws.Exports.{not-canonical}

-- ---- a table text

texts : Texts
unfolding address_to_record record_to_address address_to_text text_to_address
texts = record { to_record_lem = λ table s. refl; to_address_lem = λ table r old. refl; address-text = λ table s old. refl; text-address = λ table s old. refl }

-- ---- demand 1

-- of a text in a buffer
module _ (numbers old : List ℕ) where
  left : (n : ℕ) → member n numbers ≡ true → EndsBuffer numbers old (refused_text n old)
  unfolding refused_text
  left n h = inr (record { number = h; size = refl; buffer = refl })

  text-placed : (s : List ℕ) → member 6 numbers ≡ true → EndsBuffer numbers old (placed_text s old)
  unfolding placed_text
  text-placed s h =
      by_test (ltb (length old) (length s))
      (λ e. rw e (left 6 h))
      (λ e.
      let f : length s ≤ length old = ltb-false (length old) (length s) e in
      rw e (inl (record { done = refl; fits = f; same = length_front s old f; rest = drop-front s old })))

-- record to address and record text say the same of their texts
placed-text : (s old : List ℕ) → placed_text s old ≡ without_line (placed s old)
unfolding placed_text placed refused_text refused_address
placed-text s old = by_test (ltb (length old) (length s)) (λ e. rw e) (λ e. rw e)

placed-ends : (numbers old s : List ℕ) → member 6 numbers ≡ true → EndsBuffer numbers old (without_line (placed s old))
placed-ends numbers old s h = subst (EndsBuffer numbers old) (placed-text s old) (text-placed numbers old s h)

-- of record to address
table-ends : (t : Table) (r : Record) (old : List ℕ) → EndsBuffer (4 ∷ 5 ∷ 6 ∷ 7 ∷ []) old (without_line (to_address t r old))
unfolding to_address member refused_address refused_text
table-ends t r old =
    by_test (canonical_record r)
    (λ c. rw c (by-text (address_of t (view r))))
    (λ c. rw c (left (4 ∷ 5 ∷ 6 ∷ 7 ∷ []) old 4 refl))
  where
    by-text : (o : Option (List ℕ)) → EndsBuffer (4 ∷ 5 ∷ 6 ∷ 7 ∷ []) old (without_line (placed_in old o))
    by-text none = left (4 ∷ 5 ∷ 6 ∷ 7 ∷ []) old 5 refl
    by-text (some s) = placed-ends (4 ∷ 5 ∷ 6 ∷ 7 ∷ []) old s refl

address-ends : (l : TableOutcome) (r : Record) (old : List ℕ) → EndsBuffer (4 ∷ 5 ∷ 6 ∷ 7 ∷ []) old (without_line (to_address_by l r old))
unfolding to_address_by member malformed_address refused_text
address-ends (malformed n) r old = left (4 ∷ 5 ∷ 6 ∷ 7 ∷ []) old 7 refl
address-ends (well_formed t) r old = table-ends t r old

-- of record text
outcome-ends : (x : apply.Reading) → EndsRecord (4 ∷ []) (read_outcome x).number (read_outcome x).record'
unfolding read_outcome member
outcome-ends unread = inr (refl, refl)
outcome-ends refused = inr (refl, refl)
outcome-ends again = inr (refl, refl)
outcome-ends (read r) = by_test (canonical_record r) (λ c. rw c (inl refl)) (λ c. rw c (inr (refl, refl)))

-- of the functions for C
one_more : (n : ℕ) → member n (1 ∷ 2 ∷ 3 ∷ 7 ∷ []) ≡ true → member n (1 ∷ 2 ∷ 3 ∷ 6 ∷ 7 ∷ []) ≡ true
unfolding member
one_more n h =
    by_test (eqb n 6)
    (λ e. let z : n ≡ 6 = eqb-true n 6 e in rw z)
    (λ e. rw e h)

text-ends : (o : RecordResult) (old : List ℕ) → EndsRecord (1 ∷ 2 ∷ 3 ∷ 7 ∷ []) o.number o.record' → EndsBuffer (1 ∷ 2 ∷ 3 ∷ 6 ∷ 7 ∷ []) old (without_line (text_result o old))
unfolding text_result member
text-ends o old (inl z) = rw z (placed-ends (1 ∷ 2 ∷ 3 ∷ 6 ∷ 7 ∷ []) old (record_text keys (view o.record')) refl)
text-ends o old (inr h) =
    by_test (eqb o.number 0)
    (λ e. rw e (placed-ends (1 ∷ 2 ∷ 3 ∷ 6 ∷ 7 ∷ []) old (record_text keys (view o.record')) refl))
    (λ e. rw e (inr (record { number = one_more o.number h.0; size = refl; buffer = refl })))

reading-ends : (t : Table) (x : apply.Reading) (old : List ℕ) → EndsBuffer (4 ∷ 5 ∷ 6 ∷ 7 ∷ []) old (without_line (reading_to_address t x old))
unfolding reading_to_address member refused_address refused_text
reading-ends t unread old = left (4 ∷ 5 ∷ 6 ∷ 7 ∷ []) old 4 refl
reading-ends t refused old = left (4 ∷ 5 ∷ 6 ∷ 7 ∷ []) old 4 refl
reading-ends t again old = left (4 ∷ 5 ∷ 6 ∷ 7 ∷ []) old 4 refl
reading-ends t (read r) old = table-ends t r old

sent_ends : (l : TableOutcome) (s old : List ℕ) → EndsBuffer (4 ∷ 5 ∷ 6 ∷ 7 ∷ []) old (without_line (text_to_address_by l s old))
unfolding text_to_address_by member malformed_address refused_text
sent_ends (malformed n) s old = left (4 ∷ 5 ∷ 6 ∷ 7 ∷ []) old 7 refl
sent_ends (well_formed t) s old = reading-ends t (read_text keys 0 empty_record s) old

written-ends : (r : Record) (old : List ℕ) → EndsBuffer (4 ∷ 6 ∷ []) old (without_line (text_of_record r old))
unfolding text_of_record member refused_address refused_text
written-ends r old =
    by_test (canonical_record r)
    (λ c. rw c (placed-ends (4 ∷ 6 ∷ []) old (record_text keys (view r)) refl))
    (λ c. rw c (left (4 ∷ 6 ∷ []) old 4 refl))

pub demand1 : Demand1
unfolding record_of_text add_single add_unit add_dd
demand1 =
    record {
      to_record_lem = λ table s. record_ends (spelling table) s;
      to_address_lem = λ table r old. address-ends (spelling table) r old;
      read_record = λ s. outcome-ends (read_text keys 0 empty_record s);
      write_record = written-ends;
      address-text = λ table s old. text-ends (address_to table s) old (record_ends (spelling table) s);
      text-address = λ table s old. sent_ends (spelling table) s old;
      add = λ r k v. addition_ends (rule k v && eqb (get_or r.singles.values k (value_of [])).len 0)
          (record { singles = set_single r.singles k v; units = r.units; dds = r.dds }) r;
      add_unit_lem = λ r v. addition_ends (is_unit v && ltb r.units.count most) (record { singles = r.singles; units = push_unit r.units v; dds = r.dds }) r;
      add-dd = λ r t v. addition_ends (is_dd (record { kind = t; value = v }) && ltb r.dds.count most)
          (record { singles = r.singles; units = r.units; dds = push_dd r.dds (domain_defined_of t v) }) r;
      unshortened = unshortened;
    }

-- ---- demand 2

-- the shape of a text that is too long
long_shape : (s : List ℕ) → longest_address < length s → shaping s ≡ Err TooLong
unfolding shaping
long_shape s l = rw (lt-ltb longest_address (length s) l)

-- what is read of an address that is not carried whole is a record
read_whole : (x : apply.Reading) → canonical_record (record_in x) ≡ true → x ≡ read (record_in x)
unfolding record_in
read_whole unread h = true_not_false (canonical_record empty_record) h not-canonical
read_whole refused h = true_not_false (canonical_record empty_record) h not-canonical
read_whole again h = true_not_false (canonical_record empty_record) h not-canonical
read_whole (read r) h = refl

module _ (table : Source) (s : List ℕ) where
  malformed-seven : (n : ℕ) → spelling table ≡ malformed n → address_to table s ≡ malformed_record n
  unfolding to_record_by
  malformed-seven n h = rw h

  module _ (t : Table) (h : spelling table ≡ well_formed t) where
    under : address_to table s ≡ to_record t s
    under = under_table table s t h

    by-shaping : (x : Result Address AddressFault) → shaping s ≡ x → address_to table s ≡ record_by t s x
    unfolding to_record
    by-shaping x e = under ∙ ap (record_by t s) e

    long_two : longest_address < length s → address_to table s ≡ refused_record 2
    unfolding record_by
    long_two l = by-shaping (Err TooLong) (long_shape s l)

    shapeless_one : length s ≤ longest_address → shape_of s ≡ none → address_to table s ≡ refused_record 1
    unfolding record_by from_shape
    shapeless_one l e = by-shaping (Err NoShape) (short-shape s none l e)

    module _ (a : Address) (l : length s ≤ longest_address) (e : shape_of s ≡ some a) where
      of_shape : shaping s ≡ Ok a
      unfolding from_shape
      of_shape = short-shape s (some a) l e

      is_carried_lem : carried_whole t a ≡ true → address_to table s ≡ carrying t.gateway.path s
      unfolding record_by
      is_carried_lem c = by-shaping (Ok a) of_shape ∙ rw c

      coded-three : carried_whole t a ≡ true → longest_coded < length (coded s) → address_to table s ≡ refused_record 3
      unfolding carrying
      coded-three c k = is_carried_lem c ∙ rw (lt-ltb longest_coded (length (coded s)) k)

      carried-whole : carried_whole t a ≡ true → length (coded s) ≤ longest_coded → address_to table s ≡ mapped (carrier_of t.gateway.path s)
      unfolding carrying
      carried-whole c k = is_carried_lem c ∙ rw (le-ltb longest_coded (length (coded s)) k)

      is_read : carried_whole t a ≡ false → address_to table s ≡ mapped (record_in (result_of t a))
      unfolding record_by
      is_read c = by-shaping (Ok a) of_shape ∙ rw c

      reads : carried_whole t a ≡ false → result_of t a ≡ read (record_in (result_of t a))
      unfolding mapped
      reads c =
          read_whole (result_of t a)
          (ap (λ (o : RecordResult). canonical_record o.record') (sym (is_read c)) ∙ ap (λ (o : RecordResult). canonical_record o.record') under ∙ returned_canonical t s a of_shape c)

  record_rules : RecordRules table s
  record_rules =
      record {
        seven = malformed-seven;
        two = λ t h l. long_two t h l;
        one = λ t h l e. shapeless_one t h l e;
        three = λ t a h l e c k. coded-three t h a l e c k;
        carried = λ t a h l e c k. carried-whole t h a l e c k;
        read_in = λ t a h l e c. (is_read t h a l e c, reads t h a l e c);
      }

module _ (table : Source) (r : Record) (old : List ℕ) where
  sent_seven : (n : ℕ) → spelling table ≡ malformed n → record_to table r old ≡ malformed_address n old
  unfolding to_address_by
  sent_seven n h = rw h

  module _ (t : Table) (h : spelling table ≡ well_formed t) where
    sent_under : record_to table r old ≡ to_address t r old
    unfolding to_address_by
    sent_under = rw h

    sent_four : canonical_record r ≡ false → record_to table r old ≡ refused_address 4 old
    unfolding to_address
    sent_four c = sent_under ∙ rw c

    sent_by : (o : Option (List ℕ)) → canonical_record r ≡ true → address_of t (view r) ≡ o → record_to table r old ≡ placed_in old o
    unfolding to_address
    sent_by o c e = sent_under ∙ rw (c, e)

    sent_five : canonical_record r ≡ true → address_of t (view r) ≡ none → record_to table r old ≡ refused_address 5 old
    unfolding placed_in
    sent_five c e = sent_by none c e

    module _ (s : List ℕ) (c : canonical_record r ≡ true) (e : address_of t (view r) ≡ some s) where
      sent_placed : record_to table r old ≡ placed s old
      unfolding placed_in
      sent_placed = sent_by (some s) c e

      sent_six : length old < length s → record_to table r old ≡ refused_address 6 old
      unfolding placed
      sent_six k = sent_placed ∙ rw (lt-ltb (length old) (length s) k)

      sent_done : length s ≤ length old → record_to table r old ≡ record { number = 0; line = 0; size = length s; buffer = front s old }
      unfolding placed
      sent_done k = sent_placed ∙ rw (le-ltb (length old) (length s) k)

  address-rules : AddressRules table r old
  address-rules =
      record {
        seven = sent_seven;
        four = λ t h c. sent_four t h c;
        five = λ t h c e. sent_five t h c e;
        six = λ t s h c e k. sent_six t h s c e k;
        done = λ t s h c e k. sent_done t h s c e k;
      }

-- of a list
list-rules : (s : List ℕ) (rows : List RowEntry) → ListRules s rows
list-rules s rows =
    record {
      first-bad = list-first-bad s rows;
      bad-first = list-bad-first s rows;
      well_formed_lem = list_well_formed s rows;
      formed_well = list-formed_well s rows;
      front = listed_front s rows;
      same = λ table l e f h. Listed-same s table rows l e f h;
      written = written s rows;
    }

pub demand2 : Demand2
unfolding from_shape
demand2 =
    record {
      tables = λ table.
          record { first-bad = first-bad table; bad-first = bad-first table; well_formed_lem = well_formed_lem table; formed_well = formed_well table };
      lists = list-rules;
      carried_exactly = λ t a. carried_is t a;
      to_record_lem = record_rules;
      to_address_lem = address-rules;
      carried-back = λ table s old t a h l e c n m. carried-back-text (spelling table) s old t a h (source_formed table t h) (short-shape s (some a) l e) c n m;
    }

-- ---- demand 3

-- a text comes to one thing
other_table : {A : Type 0} (t : Table) (n : ℕ) → well_formed t ≡ malformed n → A
other_table t n h = let z : ◌≡◌ {A = ℕ} 0 1 = cc in absurd (omega arith)

table_of : Table → TableOutcome → Table
table_of u (malformed n) = u
table_of u (well_formed t) = t

same-table : (t u : Table) → well_formed t ≡ well_formed u → t ≡ u
unfolding table_of
same-table t u h = ap (table_of u) h

-- what comes back under a table does so by the results under its text
returned_under : (table : Source) (t : Table) (r : Record) (old : List ℕ) → spelling table ≡ well_formed t → IsReturned t r (to_address t r old)
    → Returns table r old
returned_under table t r old h w =
    let o = to_address t r old in
    let e = sent_under table r old t h in
    record {
      written = ap (λ (x : AddressResult). x.number) e ∙ w.done;
      read = rw (e, under_table table (take o.size o.buffer) t h) (w.back.done, w.back.same);
    }

-- and the other way
under_returned : (table : Source) (t : Table) (r : Record) (old : List ℕ) → spelling table ≡ well_formed t → Returns table r old
    → IsReturned t r (to_address t r old)
under_returned table t r old h w =
    let o = to_address t r old in
    let e = sent_under table r old t h in
    let b = rw (e, under_table table (take o.size o.buffer) t h) at w.read in
    record { done = ap (λ (x : AddressResult). x.number) (sym e) ∙ w.written; back = record { done = b.0; same = b.1 } }

module _ (table : Source) (o : CheckResult) where
  -- a sound table, by the results of the two mappings
  all_return : (t u : Table) (r : Record) (old : List ℕ) → spelling table ≡ well_formed t → Sound t → spelling table ≡ well_formed u → Struct r
      → canonical_record r ≡ true → is_carrier u (view r) ≡ false → ((record_to table r old).number ≡ 6 → ⊥) → Returns table r old
  all_return t u r old e sound f s c free n =
      let z = same-table t u (sym e ∙ f) in
      let w = subst Sound z sound r s.values c free old
      (not-six-room u r old (λ k. n (ap (λ (x : AddressResult). x.number) (sent_under table r old u f) ∙ k))) in
      returned_under table u r old f w

  judgement : (l : TableOutcome) → spelling table ≡ l → Demand3 l o → Judgement table o
  unfolding member
  judgement (malformed n) e d =
      record {
        accepts = λ z. absurd (omega (arith, d.number));
        accepted = λ a. other_table a.spelled n (sym a.formed ∙ e);
        shows = λ z. absurd (omega (arith, d.number));
        malformed-line = λ z. e ∙ ap malformed (sym d.line);
        returns = λ t r old z f s c free n. absurd (omega (arith, d.number));
        witness = λ z. absurd (omega (arith, d.number));
        lost = λ z g. absurd (omega (arith, d.number));
        none_else = rw d.number;
        empty = λ n. d.empty;
        no_line = λ n. absurd (n d.number);
      }
  judgement (well_formed t) e (inl a) =
      record {
        accepts = λ z. record { spelled = t; formed = e; sound = a.sound };
        accepted = λ _. a.number;
        shows = λ z. absurd (omega (arith, a.number));
        malformed-line = λ z. absurd (omega (arith, a.number));
        returns = λ u r old z f s c free n. all_return t u r old e a.sound f s c free n;
        witness = λ z. absurd (omega (arith, a.number));
        lost = λ z g. absurd (omega (arith, a.number));
        none_else = rw a.number;
        empty = λ n. a.empty;
        no_line = λ n. a.line;
      }
  judgement (well_formed t) e (inr r) =
      record {
        accepts = λ z. absurd (omega (arith, r.number));
        accepted = λ a. absurd (lost a);
        shows = λ z. record { spelled = t; formed = e; witness = r.witness };
        malformed-line = λ z. absurd (omega (arith, r.number));
        returns = λ u q old z f s c free n. absurd (omega (arith, r.number));
        witness = λ z. (
          r.witness.struct,
          r.witness.canonical,
          λ u f. ap (λ (x : Table). is_carrier x (view o.record')) (same-table u t (sym f ∙ e)) ∙ r.witness.free,
        );
        lost = λ z g. r.witness.lost (λ old room.
            under_returned table t o.record' old e
            (g old (λ k. room-not-six t o.record' old room (ap (λ (x : AddressResult). x.number) (sym (sent_under table o.record' old t e)) ∙ k))));
        none_else = rw r.number;
        empty = λ n. absurd (n r.number);
        no_line = λ n. r.line;
      }
    where
      lost : Accepted table → ⊥
      lost a =
          let w = r.witness in
          w.lost (subst Sound (same-table a.spelled t (sym a.formed ∙ e)) a.sound o.record' w.struct w.canonical w.free)

pub demand3 : Demand3Exactly
demand3 =
    record {
      judges = λ table o d. judgement table o (spelling table) refl d;
      room = λ t r old. record { not-six = room-not-six t r old; has_room = not-six-room t r old };
    }

-- ---- the router

-- where no separator stops a run, there is none
no_separator : (s : List ℕ) → run 10 s ≡ length s → member 10 s ≡ false
unfolding run member
no_separator [] h = refl
no_separator (x ∷ s) h =
    by_test (eqb x 10)
    (λ e. absurd (omega (arith, rw e at h)))
    (λ e. rw (ne_eqb 10 x (λ z. true_not_false (eqb x 10) (eq-eqb x 10 (sym z)) e), no_separator s (omega (arith, rw e at h))))

written-front : (text old new : List ℕ) (n : ℕ) → Wrote old 0 text n new → n ≤ length old → (take n new ≡ text) × (drop n new ≡ drop n old)
written-front text old new n w h =
    let l : length text ≤ length old = omega (arith, w.moved) in
    (wrote_taken w l, rw (w.moved, zero-add, wrote-front w l) (drop-front text old))

pub router : Router
router =
    record {
      output = λ table input out c. calls_whole c;
      ended = λ table over. ended over;
      called = λ table kept chunk rest out old new over last r c k d. called over last kept chunk rest out old new r c k d;
      front = λ table s old new over last r c. written-front c.went.text old new r.written c.went.wrote c.went.room;
      moves = λ table s old new over last r c k z.
          let w = call_moves (source_rules table) c k z in
          (no_separator s w.unended, w.short, w.more);
    }

-- ---- a text in a lent buffer

pub packing : Packing
packing =
    record {
      number = number-back;
      size = size_back;
      count-number = count-number;
      count = count-back;
      packed-number = λ o h. count-number o.number o.line o.size h;
      packed-count = λ o h. count-back o.number o.line o.size h;
    }

-- ---- the shared tail

ends_there : (a b : List ℕ) → (tail_place a b).start + (tail_place a b).size ≡ length a
ends_there a b = let r = tail-suffix a b in omega (arith, ap length r.1, length-append r.0 (shared_tail a b))

pub shared_tails : SharedTails
unfolding shared_tail
shared_tails =
    record {
      place = tail-place;
      suffix = λ a b. (ends_there a b, tail-drop a b);
      parts = λ a b. (refl, tail-second a b);
      longest = tail-longest;
    }

-- ---- dates

date_ends : (text : DateTime → List ℕ) (o : code.Option DateTime) (old : List ℕ) → EndsBuffer (10 ∷ 6 ∷ []) old (converted text o old)
unfolding converted member
date_ends text code.None old = left (10 ∷ 6 ∷ []) old 10 refl
date_ends text (code.Some d) old = text-placed (10 ∷ 6 ∷ []) old (text d) refl

pub dates : Dates
unfolding utc_to_date date_to_utc
dates =
    record {
      to_822 = λ s old. date_ends date_text (read_utc s) old;
      to_x400 = λ s old. date_ends utc_text (read_date s) old;
      utc_back = utc_back;
      date_back = date_back;
      utc_is = utc_date_lem;
      date_is = date_date;
    }

-- ---- the restricted encoding

chars-ends : (s t old : List ℕ) → EndsBuffer (1 ∷ 6 ∷ []) old (cond (all is_char s) (placed_text t old) (refused_text 1 old))
unfolding member
chars-ends s t old =
    by_test (all is_char s)
    (λ e. rw e (text-placed (1 ∷ 6 ∷ []) old t refl))
    (λ e. rw e (left (1 ∷ 6 ∷ []) old 1 refl))

placed-whole : (s new : List ℕ) → length s ≤ length new → placed_text s new ≡ record { number = 0; size = length s; buffer = front s new }
unfolding placed_text
placed-whole s new h = rw (le-ltb (length new) (length s) h)

pub restricted : Restricted
unfolding restrict_text unrestrict_text
restricted =
    record {
      restrict = λ s old. chars-ends s (codedRestricted s) old;
      unrestrict = λ s old. chars-ends s (decodedRestricted s) old;
      back = decoded-coded;
      calls_back = λ s old new h k. calls_back s old new h ∙ placed-whole s new k;
      not_forth = not-coded-decoded.0;
      atoms = coded-atoms;
    }

-- ---- mailboxes

read-ends : (o : Option Bare) (old : List ℕ) → EndsBuffer (2 ∷ 9 ∷ 1 ∷ 6 ∷ []) old (text_by (reading_of o) old)
unfolding text_by reading_of member
read-ends none old = left (2 ∷ 9 ∷ 1 ∷ 6 ∷ []) old 1 refl
read-ends (some b) old = text-placed (2 ∷ 9 ∷ 1 ∷ 6 ∷ []) old (bare_text b) refl

mailbox-ends : (s old : List ℕ) → EndsBuffer (2 ∷ 9 ∷ 1 ∷ 6 ∷ []) old (read_mailbox s old).text
unfolding read_mailbox mailbox_by reading text_by member
mailbox-ends s old =
    by_test (ltb longest_line (length s))
    (λ e. rw e (left (2 ∷ 9 ∷ 1 ∷ 6 ∷ []) old 2 refl))
    (λ e. by_test (nests_too_deep s) (λ f. rw (e, f) (left (2 ∷ 9 ∷ 1 ∷ 6 ∷ []) old 9 refl)) (λ f. rw (e, f) (read-ends (bare_in s) old)))

mailbox-place : (s old : List ℕ) → (read_mailbox s old).text.number ≡ 0 → (read_mailbox s old).phrase ≡ phrase_place s
unfolding read_mailbox mailbox_by place_in phrase_place
mailbox-place s old h = rw (le-ltb 0 (text_by (reading s) old).number (omega arith))

mailbox-rules : (s old : List ℕ) → MailboxRules s old
unfolding read_mailbox mailbox_by reading reading_of text_by place_in
mailbox-rules s old =
    record {
      two = λ h. rw (lt-ltb longest_line (length s) h);
      nine = λ h d. rw (le-ltb longest_line (length s) h, d);
      one = λ h d e. rw (le-ltb longest_line (length s) h, d, e);
      done = λ b h d e. rw (le-ltb longest_line (length s) h, d, e);
      inside = result_inside s old;
      place = mailbox-place s old;
      empty-start = λ h. rw (lt-ltb 0 (text_by (reading s) old).number h);
    }

pub mailboxes : Mailboxes
unfolding nested
mailboxes =
    record {
      ends = mailbox-ends;
      rules = mailbox-rules;
      shape = written-shape;
      meaning = written-meaning;
      address = address-reading;
      same = address_same;
      same_only = address_needless;
      again = λ s b h k. (written-again s b h k, unnamed_text b);
      place-start = λ s. omega (arith, (place_inside s).1);
      place-size = λ s. omega (arith, (place_inside s).1);
      nested = nested_too_deep;
    }

-- ---- all of it

pub limits : Limits
limits =
    record {
      address = refl;
      coded_form = refl;
      line = (refl, refl);
      table = (refl, refl, refl, refl);
      entries = refl;
      attributes = refl;
      counts = (refl, refl, refl);
      answer = refl;
      packing = (refl, refl, refl);
    }

pub promises : Promises
promises =
    record {
      limits = limits;
      texts = texts;
      demand1 = demand1;
      demand2 = demand2;
      demand3 = demand3;
      rooms = rooms;
      router = router;
      packing = packing;
      shared_tails = shared_tails;
      dates = dates;
      restricted = restricted;
      mailboxes = mailboxes;
    }
