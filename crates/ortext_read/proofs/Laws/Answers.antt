-- What the readers' answers stand for, and the end of a reading by what was added.
-- Assumes nothing.
use mathlib.Core.Path.{◌≡◌, refl, sym, ap, ◌∙◌}
use mathlib.Core.Bool.{Bool, true, false, not, ◌&&◌, ◌||◌, cond}
use mathlib.Core.List.{List, [], ◌∷◌}
use mathlib.Core.Option.{Option, none, some}
use Prim.Native.Nat.{ℕ, ◌<◌}
use native.Mathlib.Omega.{arith}
use borrow.Author.Tests.{le-ltb}
use lib.ListN.{length}
use lib.Dec.{eqb}
use Rattle.chars.proofs.Laws.Lists.{and_both, by_test}
use Rattle.chars.proofs.Laws.Seq.{some-length, some_test}
use Rattle.chars.specs.Lists.{non_empty}
use Rattle.oraddr.specs.Attributes.{single_of}
use Rattle.oraddr.specs.Bounds.{ADMD, C}
use Rattle.oraddr.specs.View.{view}
use Rattle.oraddr.specs.Add.{Outcome, add_single}
use Rattle.oraddr.specs.declared.record.Record.{Record}
use Rattle.ortext_read.proofs.Laws.Apply.{complete_has}
use Rattle.ortext_read.specs.Answers.{ReadingResult, fault_reading, read_held, reading, reading_result, told_reading}
use Rattle.ortext_read.specs.Apply as apply
use Rattle.ortext_read.specs.Apply.{add_all, add_named, again, complete, finish, name_alone, or_name, read, read_as_name, read_local, read_text, refused, unread}
use Rattle.ortext_build.specs.Adding.{add_dds, add_singles, add_units, add_held, add_name, done, start}
use Rattle.ortext_segments.specs.Keys.{keys}
use Rattle.ortext_name.specs.Name.{Name, read_name}
use Rattle.ortext_named.specs.Named.{is_beside}
use Rattle.ortext_named.specs.declared.named.Named.{Named}
use Rattle.ortext_read.specs.declared.read.TextFault.{TextFault}
use Rattle.ortext_read.specs.declared.read.TextFault.TheVariants.{Again, Refused, Unread}
use Rattle.std.specs.Prelude.{◌⊎◌, Result, Ok, Err}
use Rattle.std.proofs.Common.{inl, inr}

-- what a reader came to is what its result says
outcome_is : (x : apply.Reading) → (reading_result x).outcome ≡ x
unfolding reading_result
outcome_is unread = refl
outcome_is refused = refl
outcome_is again = refl
outcome_is (read r) = refl

pub reads_as : (r : Result Record TextFault) (x : apply.Reading) → told_reading r ≡ reading_result x → reading r ≡ x
reads_as r x e = ap (λ (o : ReadingResult). o.outcome) e ∙ outcome_is x

fault_is : (f : TextFault) → told_reading (Err f) ≡ reading_result (reading (Err f))
unfolding reading fault_reading reading_result
fault_is Unread = refl
fault_is Refused = refl
fault_is Again = refl

told_is : (r : Result Record TextFault) → told_reading r ≡ reading_result (reading r)
unfolding reading reading_result
told_is (Ok r) = refl
told_is (Err f) = fault_is f

-- and its result is what it came to
pub told_as : (r : Result Record TextFault) (x : apply.Reading) → reading r ≡ x → told_reading r ≡ reading_result x
told_as r x e = told_is r ∙ ap reading_result e

pub answer-record : {x : apply.Reading} (q : Record) → x ≡ read q → told_reading (Ok q) ≡ reading_result x
unfolding reading
answer-record {x} q e = told_as (Ok q) x (sym e)

pub answer-unread : {x : apply.Reading} → x ≡ unread → told_reading (Err Unread) ≡ reading_result x
unfolding reading fault_reading
answer-unread {x} e = told_as (Err Unread) x (sym e)

pub answer-refused : {x : apply.Reading} → x ≡ refused → told_reading (Err Refused) ≡ reading_result x
unfolding reading fault_reading
answer-refused {x} e = told_as (Err Refused) x (sym e)

pub answer-again : {x : apply.Reading} → x ≡ again → told_reading (Err Again) ≡ reading_result x
unfolding reading fault_reading
answer-again {x} e = told_as (Err Again) x (sym e)

-- the end of a reading is told by the record, if nothing was refused
finishing : Option Record → apply.Reading
finishing none = refused
finishing (some r) = read (complete r)

finish_is : (o : Outcome) → finish o ≡ finishing (done o)
unfolding finish done finishing
finish_is o = by_test (eqb o.number 0) (λ e. rw e) (λ e. rw e)

pub finish-done : (o p : Outcome) → done o ≡ done p → finish o ≡ finish p
finish-done o p e = finish_is o ∙ ap finishing e ∙ sym (finish_is p)

pub finish-refused : (o : Outcome) → eqb o.number 0 ≡ false → finish o ≡ refused
unfolding finish
finish-refused o e = rw e

pub finish-start : (r : Record) → finish (start r) ≡ read (complete r)
unfolding finish
finish-start r = refl

-- ---- what is held, by the tests

module _ (s : List ℕ) (m : Named) (r : Record) where
  pub held_again : m.again ≡ true → read_held s m r ≡ again
  unfolding read_held
  held_again e = ap (λ b. cond b again (cond (m.bad || is_beside m) refused (finish (add_held s m r)))) e

  pub held_refused : m.again ≡ false → (m.bad || is_beside m) ≡ true → read_held s m r ≡ refused
  unfolding read_held
  held_refused e f = ap (λ b. cond b again (cond (m.bad || is_beside m) refused (finish (add_held s m r)))) e ∙ ap (λ b. cond b refused (finish (add_held s m r))) f

  pub held_finished : m.again ≡ false → (m.bad || is_beside m) ≡ false → read_held s m r ≡ finish (add_held s m r)
  unfolding read_held
  held_finished e f = ap (λ b. cond b again (cond (m.bad || is_beside m) refused (finish (add_held s m r)))) e ∙ ap (λ b. cond b refused (finish (add_held s m r))) f

-- ---- step 4

-- one space
abbrev space : List ℕ
space = 32 ∷ []

absent_test : (x : List ℕ) → length x ≡ 0 → non_empty x ≡ false
absent_test x e = sym (some_test x) ∙ le-ltb 0 (length x) (omega arith)

module _ (r : Record) where
  abbrev needs_admd : Bool
  needs_admd = non_empty (single_of (view r) C) && not (non_empty (single_of (view r) ADMD))

  complete_is : (t : Bool) → needs_admd ≡ t → complete r ≡ cond t (add_single r ADMD space).record' r
  unfolding complete
  complete_is t e = ap (λ b. cond b (add_single r ADMD space).record' r) e

  pub complete_no_c : length (single_of (view r) C) ≡ 0 → r ≡ complete r
  complete_no_c e = sym (complete_is false (ap (λ b. b && not (non_empty (single_of (view r) ADMD))) (absent_test (single_of (view r) C) e)))

  pub complete-admd : 0 < length (single_of (view r) ADMD) → r ≡ complete r
  complete-admd l = sym (complete_has r (some-length (single_of (view r) ADMD) l))

  pub complete_space : 0 < length (single_of (view r) C) → length (single_of (view r) ADMD) ≡ 0 → (add_single r ADMD space).record' ≡ complete r
  complete_space l e = sym (complete_is true (and_both (some-length (single_of (view r) C) l) (ap not (absent_test (single_of (view r) ADMD) e))))

-- ---- a name, where the text is no record text

pub name_alone_lem : (r : Record) (m : Name) → finish (add_name r (some m)) ≡ read_as_name r (some m)
unfolding read_as_name add_named name_alone add_all add_singles add_units add_dds non_empty add_name
name_alone_lem r m = refl

pub unread_name : (r : Record) → unread ≡ read_as_name r none
unfolding read_as_name
unread_name r = refl

-- where it does not read
pub answer-name : (r : Record) (s : List ℕ) (f : TextFault) → f ≡ Unread → read_as_name r (read_name s) ≡ or_name r s (fault_reading f)
unfolding or_name fault_reading
answer-name r s f e = rw e

pub answer-kept : (r : Record) (s : List ℕ) (f : TextFault) → (f ≡ Refused) ⊎ (f ≡ Again) → told_reading (Err f) ≡ reading_result (or_name r s (fault_reading f))
unfolding or_name reading fault_reading
answer-kept r s f (inl e) = rw e (told_as (Err Refused) refused refl)
answer-kept r s f (inr e) = rw e (told_as (Err Again) again refl)

-- the text as a local part, by what it came to as record text
module _ (n : ℕ) (r : Record) (s : List ℕ) where
  pub local-record : (q : Record) → told_reading (Ok q) ≡ reading_result (read_text keys n r s) → told_reading (Ok q) ≡ reading_result (read_local keys n r s)
  unfolding read_local or_name reading
  local-record q e = told_as (Ok q) (read_local keys n r s) (ap (or_name r s) (reads_as (Ok q) (read_text keys n r s) e))

  pub local-fault : (f : TextFault) → told_reading (Err f) ≡ reading_result (read_text keys n r s) → or_name r s (fault_reading f) ≡ read_local keys n r s
  unfolding read_local reading
  local-fault f e = ap (or_name r s) (reads_as (Err f) (read_text keys n r s) e)
