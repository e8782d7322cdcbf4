-- "Carried whole" against the four steps: no clause holds exactly where the domain is of domain parts, the local part can be read, and
-- the steps come to a canonical record.
-- Assumes nothing.
use mathlib.Core.Path.{◌≡◌, refl, sym, ap, ◌∙◌}
use mathlib.Core.Bool.{Bool, true, false, ◌&&◌, ◌||◌, not, cond}
use mathlib.Core.List.{List}
use mathlib.Core.Option.{Option, none, some}
use Prim.Native.Nat.{ℕ}
use lib.Dec.{eqb}
use Rattle.chars.specs.Lists.{all, non_empty}
use Rattle.chars.specs.Class.{is_quotable}
use Rattle.chars.specs.Spaces.{well_spaced}
use Rattle.chars.proofs.Laws.Lists.{and_left, and_right, by_test, true_not_false}
use Rattle.oraddr.specs.Add.{Outcome}
use Rattle.oraddr.specs.Attributes.{Attributes}
use Rattle.oraddr.specs.Canonical.{canonical_record}
use Rattle.oraddr.specs.declared.record.Record.{Record}
use Rattle.ortext_read.specs.Apply.{Reading, add_all, add_named, again, applied, finish, has_empty, has_repeated, has_unknown, name_alone, named, named_again, name_of, or_name, pn_meets, read, read_as_name, read_local, read_text, refused, unread, value_at, values_at, with_name}
use Rattle.ortext_segments.specs.Keys.{keys, pn_key}
use Rattle.ortext_name.specs.Name.{Name, read_name}
use Rattle.ortext_segments.specs.Segments.{Segment, read_segments}
use Rattle.mailaddr.specs.Domain.{is_domain}
use Rattle.mailaddr.specs.Shape.{Address, is_readable, unquoted_local}
use Rattle.table.specs.Table.{Table}
use Rattle.table_settle.specs.Settle.{Settling, no_row, past_bound, past_units, settled}
use Rattle.mapping.specs.Answers.{is_good, read_well}
use Rattle.mapping.specs.Carried.{again_over, carried_whole, has_key_fault, has_local_other, has_local_spaces, has_other_part, is_local_empty, is_no_name, is_no_row, is_none, is_not_canonical, is_other, is_past_bound, is_past_units, names_both, names_no_name, names_settled, names_twice, names_unknown, no_row_matches, on_segments, passes_bound, passes_units, read_over, reads_neither, result_of, segments_of, settled_under}

-- ---- what a reading is

abbrev is_unread : Reading → Bool
is_unread unread = true
is_unread refused = false
is_unread again = false
is_unread (read r) = false

abbrev is_again : Reading → Bool
is_again unread = false
is_again refused = false
is_again again = true
is_again (read r) = false

abbrev is_settled : Settling → Bool
is_settled no_row = false
is_settled past_units = false
is_settled past_bound = false
is_settled (settled n r) = true

unread-bad : (x : Reading) → is_unread x ≡ true → is_good x ≡ false
unfolding is_good
unread-bad unread h = refl
unread-bad refused h = refl
unread-bad again h = refl
unread-bad (read r) h = true_not_false false h refl

again-bad : (x : Reading) → is_again x ≡ true → is_good x ≡ false
unfolding is_good
again-bad unread h = refl
again-bad refused h = refl
again-bad again h = refl
again-bad (read r) h = true_not_false false h refl

-- ---- a clause that holds

open_bad : (b : Bool) (x : Reading) → is_good x ≡ false → is_good (cond b x unread) ≡ false
unfolding is_good
open_bad true x h = h
open_bad false x h = refl

-- a clause on the domain's row
no_row_lem : (st : Settling) → is_no_row st ≡ true → is_settled st ≡ false
unfolding is_no_row
no_row_lem no_row h = refl
no_row_lem past_units h = refl
no_row_lem past_bound h = refl
no_row_lem (settled n r) h = true_not_false false h refl

past_bound_lem : (st : Settling) → is_past_bound st ≡ true → is_settled st ≡ false
unfolding is_past_bound
past_bound_lem no_row h = refl
past_bound_lem past_units h = refl
past_bound_lem past_bound h = refl
past_bound_lem (settled n r) h = true_not_false false h refl

past_units_lem : (st : Settling) → is_past_units st ≡ true → is_settled st ≡ false
unfolding is_past_units
past_units_lem no_row h = refl
past_units_lem past_units h = refl
past_units_lem past_bound h = refl
past_units_lem (settled n r) h = true_not_false false h refl

unsettled : (st : Settling) (s : List ℕ) → is_settled st ≡ false → is_good (read_over st s) ≡ false
unfolding read_over is_good
unsettled no_row s h = refl
unsettled past_units s h = refl
unsettled past_bound s h = refl
unsettled (settled n r) s h = true_not_false true refl h

-- a local part read over settled levels, by what it is as record text and as a name
abbrev pub over : ℕ → Record → Option (List Segment) → Option Name → Reading
over n r none m = read_as_name r m
over n r (some gs) m = applied n r (some gs)

finish-read : (o : Outcome) → is_unread (finish o) || is_again (finish o) ≡ false
unfolding finish
finish-read o = by_test (eqb o.number 0) (λ e. rw e) (λ e. rw e)

added-read : (r : Record) (a : Option Attributes) → is_unread (add_named r a) || is_again (add_named r a) ≡ false
unfolding add_named
added-read r none = refl
added-read r (some a) = finish-read (add_all a r)

or-none : (a b : Bool) → a || b ≡ false → (a ≡ false) × (b ≡ false)
or-none true b h = true_not_false true refl h
or-none false b h = (refl, h)

or_name-kept : (r : Record) (s : List ℕ) (x : Reading) → is_unread x ≡ false → or_name r s x ≡ x
unfolding or_name
or_name-kept r s unread h = true_not_false true refl h
or_name-kept r s refused h = refl
or_name-kept r s again h = refl
or_name-kept r s (read q) h = refl

applied-read : (n : ℕ) (r : Record) (gs : List Segment) → is_unread (applied n r (some gs)) ≡ false
unfolding applied
applied-read n r gs = by_test (named_again n gs) (λ e. rw e) (λ e. rw e (or-none (is_unread (add_named r (named gs))) (is_again (add_named r (named gs))) (added-read r (named gs))).0)

read_over_lem : (n : ℕ) (r : Record) (s : List ℕ) (o : Option (List Segment)) → or_name r s (applied n r o) ≡ over n r o (read_name s)
unfolding or_name applied
read_over_lem n r s none = refl
read_over_lem n r s (some gs) = or_name-kept r s (applied n r (some gs)) (applied-read n r gs)

over_unread : (n : ℕ) (r : Record) (o : Option (List Segment)) (m : Option Name) → is_unread (over n r o m) ≡ (is_none o && is_none m)
unfolding is_none read_as_name
over_unread n r none none = refl
over_unread n r none (some m) = (or-none (is_unread (add_named r (some (name_alone m)))) (is_again (add_named r (some (name_alone m)))) (added-read r (some (name_alone m)))).0
over_unread n r (some gs) m = applied-read n r gs

over_again : (n : ℕ) (r : Record) (o : Option (List Segment)) (m : Option Name) → is_again (over n r o m) ≡ on_segments (named_again n) o
unfolding on_segments read_as_name applied
over_again n r none none = refl
over_again n r none (some m) = (or-none (is_unread (add_named r (some (name_alone m)))) (is_again (add_named r (some (name_alone m)))) (added-read r (some (name_alone m)))).1
over_again n r (some gs) m =
    by_test (named_again n gs)
    (λ e. rw e)
    (λ e. rw e (or-none (is_unread (add_named r (named gs))) (is_again (add_named r (named gs))) (added-read r (named gs))).1)

-- segments with a fault in their keys
fault_bad : (n : ℕ) (r : Record) (o : Option (List Segment)) (m : Option Name) (p : List Segment → Bool)
    → ((gs : List Segment) → p gs ≡ true → named gs ≡ none) → on_segments p o ≡ true → is_good (over n r o m) ≡ false
unfolding on_segments applied add_named is_good
fault_bad n r none m p f h = true_not_false false h refl
fault_bad n r (some gs) m p f h = by_test (named_again n gs) (λ e. rw e) (λ e. rw (e, f gs h))

-- the test that `named` makes first
abbrev faulty : List Segment → Bool
faulty gs = has_unknown gs || has_repeated gs || pn_meets gs || has_empty gs

or_true : (a : Bool) → a || true ≡ true
or_true true = refl
or_true false = refl

unknown-none : (gs : List Segment) → has_unknown gs ≡ true → named gs ≡ none
unfolding named
unknown-none gs h = rw h

repeated_none : (gs : List Segment) → has_repeated gs ≡ true → named gs ≡ none
unfolding named
repeated_none gs h = rw (h, or_true (has_unknown gs))

both_none : (gs : List Segment) → pn_meets gs ≡ true → named gs ≡ none
unfolding named
both_none gs h = rw (h, or_true (has_unknown gs || has_repeated gs))

none_is : {A : Type 0} (o : Option A) → is_none o ≡ true → o ≡ none
unfolding is_none
none_is none h = refl
none_is (some x) h = true_not_false false h refl

name_none : (gs : List Segment) → is_no_name gs ≡ true → named gs ≡ none
unfolding named is_no_name name_of with_name
name_none gs h =
    let p = and_left (non_empty (values_at pn_key gs)) (is_none (read_name (value_at pn_key gs))) h in
    let q = none_is (read_name (value_at pn_key gs)) (and_right (non_empty (values_at pn_key gs)) (is_none (read_name (value_at pn_key gs))) h) in
    by_test (faulty gs) (λ e. rw e) (λ e. rw (e, p, q))

-- the result is not canonical
other_bad : (fault : Bool) (x : Reading) → is_other fault x ≡ true → is_good x ≡ false
unfolding is_other is_good
other_bad fault unread h = refl
other_bad fault refused h = refl
other_bad fault again h = refl
other_bad fault (read r) h = by_test (canonical_record r) (λ e. true_not_false true refl (sym (rw e at h))) (λ e. e)

-- ---- no clause holds

none-good : (fault : Bool) (x : Reading) → is_unread x ≡ false → is_again x ≡ false → is_other fault x ≡ false → fault ≡ false → is_good x ≡ true
unfolding is_other is_good
none-good fault unread u a o f = true_not_false true refl u
none-good fault refused u a o f = true_not_false true refl (rw f at o)
none-good fault again u a o f = true_not_false true refl a
none-good fault (read r) u a o f = by_test (canonical_record r) (λ e. e) (λ e. true_not_false true refl (rw e at o))

settled_is : (st : Settling) → is_no_row st ≡ false → is_past_bound st ≡ false → is_past_units st ≡ false → is_settled st ≡ true
unfolding is_no_row is_past_bound is_past_units
settled_is no_row a b c = true_not_false true refl a
settled_is past_units a b c = true_not_false true refl c
settled_is past_bound a b c = true_not_false true refl b
settled_is (settled n r) a b c = refl

-- over settled levels
module _ (n : ℕ) (r : Record) (s : List ℕ) where
  pub local_over : read_over (settled n r) s ≡ over n r (read_segments keys s) (read_name s)
  unfolding read_over read_local read_text
  local_over = read_over_lem n r s (read_segments keys s)

  local-unread : is_unread (read_over (settled n r) s) ≡ (is_none (read_segments keys s) && is_none (read_name s))
  local-unread = ap is_unread local_over ∙ over_unread n r (read_segments keys s) (read_name s)

  local-again : is_again (read_over (settled n r) s) ≡ on_segments (named_again n) (read_segments keys s)
  local-again = ap is_again local_over ∙ over_again n r (read_segments keys s) (read_name s)

module _ (s : List ℕ) where
  neither_bad : (st : Settling) → (is_none (read_segments keys s) && is_none (read_name s)) ≡ true → is_good (read_over st s) ≡ false
  neither_bad no_row h = unsettled no_row s refl
  neither_bad past_units h = unsettled past_units s refl
  neither_bad past_bound h = unsettled past_bound s refl
  neither_bad (settled n r) h = unread-bad (read_over (settled n r) s) (local-unread n r s ∙ h)

  faults_bad : (st : Settling) (p : List Segment → Bool) → ((gs : List Segment) → p gs ≡ true → named gs ≡ none)
      → on_segments p (read_segments keys s) ≡ true → is_good (read_over st s) ≡ false
  faults_bad no_row p f h = unsettled no_row s refl
  faults_bad past_units p f h = unsettled past_units s refl
  faults_bad past_bound p f h = unsettled past_bound s refl
  faults_bad (settled n r) p f h = ap is_good (local_over n r s) ∙ fault_bad n r (read_segments keys s) (read_name s) p f h

  settled-bad : (st : Settling) → again_over st (read_segments keys s) ≡ true → is_good (read_over st s) ≡ false
  unfolding again_over
  settled-bad no_row h = unsettled no_row s refl
  settled-bad past_units h = unsettled past_units s refl
  settled-bad past_bound h = unsettled past_bound s refl
  settled-bad (settled n r) h = again-bad (read_over (settled n r) s) (local-again n r s ∙ h)

  all-good : (st : Settling) (fault : Bool) → is_settled st ≡ true → (is_none (read_segments keys s) && is_none (read_name s)) ≡ false
      → again_over st (read_segments keys s) ≡ false → is_other fault (read_over st s) ≡ false → fault ≡ false → is_good (read_over st s) ≡ true
  unfolding again_over
  all-good no_row fault h u a o f = true_not_false false h refl
  all-good past_units fault h u a o f = true_not_false false h refl
  all-good past_bound fault h u a o f = true_not_false false h refl
  all-good (settled n r) fault h u a o f =
      none-good fault (read_over (settled n r) s) (local-unread n r s ∙ u) (local-again n r s ∙ a) o f

-- ---- the whole

-- a chain of fourteen tests, each of which settles the answer where it passes
chain : (g a b c d e f h i j k l m n o : Bool)
    → (a ≡ true → g ≡ true) → (b ≡ true → g ≡ true) → (c ≡ true → g ≡ true) → (d ≡ true → g ≡ true) → (e ≡ true → g ≡ true)
    → (f ≡ true → g ≡ true) → (h ≡ true → g ≡ true) → (i ≡ true → g ≡ true) → (j ≡ true → g ≡ true) → (k ≡ true → g ≡ true)
    → (l ≡ true → g ≡ true) → (m ≡ true → g ≡ true) → (n ≡ true → g ≡ true) → (o ≡ true → g ≡ true)
    → (a ≡ false → b ≡ false → c ≡ false → d ≡ false → e ≡ false → f ≡ false → h ≡ false → i ≡ false → j ≡ false → k ≡ false → l ≡ false
    → m ≡ false → n ≡ false → o ≡ false → g ≡ false)
    → (a || b || c || d || e || f || h || i || j || k || l || m || n || o) ≡ g
chain g true b c d e f h i j k l m n o A B C D E F H I J K L M N O Z = sym (A refl)
chain g false true c d e f h i j k l m n o A B C D E F H I J K L M N O Z = sym (B refl)
chain g false false true d e f h i j k l m n o A B C D E F H I J K L M N O Z = sym (C refl)
chain g false false false true e f h i j k l m n o A B C D E F H I J K L M N O Z = sym (D refl)
chain g false false false false true f h i j k l m n o A B C D E F H I J K L M N O Z = sym (E refl)
chain g false false false false false true h i j k l m n o A B C D E F H I J K L M N O Z = sym (F refl)
chain g false false false false false false true i j k l m n o A B C D E F H I J K L M N O Z = sym (H refl)
chain g false false false false false false false true j k l m n o A B C D E F H I J K L M N O Z = sym (I refl)
chain g false false false false false false false false true k l m n o A B C D E F H I J K L M N O Z = sym (J refl)
chain g false false false false false false false false false true l m n o A B C D E F H I J K L M N O Z = sym (K refl)
chain g false false false false false false false false false false true m n o A B C D E F H I J K L M N O Z = sym (L refl)
chain g false false false false false false false false false false false true n o A B C D E F H I J K L M N O Z = sym (M refl)
chain g false false false false false false false false false false false false true o A B C D E F H I J K L M N O Z = sym (N refl)
chain g false false false false false false false false false false false false false true A B C D E F H I J K L M N O Z = sym (O refl)
chain g false false false false false false false false false false false false false false A B C D E F H I J K L M N O Z =
    sym (Z refl refl refl refl refl refl refl refl refl refl refl refl refl refl)

not_true : (b : Bool) → not b ≡ true → b ≡ false
not_true true h = true_not_false false h refl
not_true false h = refl

not_false : (b : Bool) → not b ≡ false → b ≡ true
not_false true h = refl
not_false false h = true_not_false true refl h

bad-not : {b : Bool} → b ≡ false → not b ≡ true
bad-not h = rw h

and_false : (a b : Bool) → b ≡ false → (a && b) ≡ false
and_false true b h = h
and_false false b h = refl

read_able : (s : List ℕ) → non_empty s ≡ true → well_spaced s ≡ true → all is_quotable s ≡ true → is_readable s ≡ true
unfolding is_readable
read_able s a b c = rw (a, b, c)

again-none : (st : Settling) → again_over st none ≡ false
unfolding again_over on_segments
again-none no_row = refl
again-none past_units = refl
again-none past_bound = refl
again-none (settled n r) = refl

module _ (t : Table) (a : Address) where
  -- the local part cannot be read
  unreadable : is_readable (unquoted_local a) ≡ false → is_good (read_well t a) ≡ false
  unfolding read_well result_of is_good
  unreadable h = open_bad (is_domain a.domain) (result_of t a) (rw h)

  -- the steps come to no canonical record
  misread : is_good (read_over (settled_under t a.domain) (unquoted_local a)) ≡ false → is_good (read_well t a) ≡ false
  unfolding read_well result_of
  misread h =
      open_bad (is_domain a.domain) (result_of t a) (open_bad (is_readable (unquoted_local a)) (read_over (settled_under t a.domain) (unquoted_local a)) h)

  -- the domain has another part
  other_domain : is_domain a.domain ≡ false → is_good (read_well t a) ≡ false
  unfolding is_good read_well
  other_domain h = rw h

  -- a clause on segments holds of those that are read
  module _ (f : Option (List Segment) → Bool) where
    on_read : f none ≡ false → f (segments_of a) ≡ true → f (read_segments keys (unquoted_local a)) ≡ true
    unfolding segments_of
    on_read n h = by_test (is_readable (unquoted_local a)) (λ e. rw e at h) (λ e. true_not_false false (sym n ∙ (rw e at h)) refl)

    on-unread : is_readable (unquoted_local a) ≡ true → f (segments_of a) ≡ false → f (read_segments keys (unquoted_local a)) ≡ false
    unfolding segments_of
    on-unread e h = rw e at h

  -- what was read is no canonical record
  result_bad : is_good (result_of t a) ≡ false → is_good (read_well t a) ≡ false
  unfolding read_well
  result_bad h = open_bad (is_domain a.domain) (result_of t a) h

  -- a local part that can be read is read over what is settled
  over_result : is_readable (unquoted_local a) ≡ true → result_of t a ≡ read_over (settled_under t a.domain) (unquoted_local a)
  unfolding result_of
  over_result e = rw e

  no_fault : names_unknown a ≡ false → names_twice a ≡ false → names_both a ≡ false → names_no_name a ≡ false → has_key_fault a ≡ false
  unfolding has_key_fault
  no_fault h9 h10 h11 h12 = rw (h9, h10, h11, h12)

  -- no clause holds
  whole : no_row_matches t a ≡ false → has_other_part a ≡ false → passes_bound t a ≡ false → passes_units t a ≡ false → is_local_empty a ≡ false
      → has_local_spaces a ≡ false → has_local_other a ≡ false → reads_neither a ≡ false → names_unknown a ≡ false → names_twice a ≡ false
      → names_both a ≡ false → names_no_name a ≡ false → names_settled t a ≡ false → is_not_canonical t a ≡ false
      → not (is_good (read_well t a)) ≡ false
  unfolding read_well no_row_matches has_other_part passes_bound passes_units is_local_empty has_local_spaces has_local_other reads_neither names_settled is_not_canonical
  whole h1 h2 h3 h4 h5 h6 h7 h8 h9 h10 h11 h12 h13 h14 =
      let st = settled_under t a.domain in
      let s = unquoted_local a in
      let e = read_able s (not_false (non_empty s) h5) (not_false (well_spaced s) h6) (not_false (all is_quotable s) h7) in
      rw (
        not_false (is_domain a.domain) h2,
        over_result e,
        all-good s st (has_key_fault a) (settled_is st h1 h3 h4) (rw e at h8) (on-unread (again_over st) e h13)
            (ap (is_other (has_key_fault a)) (sym (over_result e)) ∙ h14) (no_fault h9 h10 h11 h12),
      )

  -- document 01: "carried whole"
  pub carried_is : carried_whole t a ≡ not (is_good (read_well t a))
  unfolding carried_whole no_row_matches has_other_part passes_bound passes_units is_local_empty has_local_spaces has_local_other reads_neither names_unknown names_twice names_both names_no_name names_settled is_not_canonical is_readable on_segments
  carried_is =
      let st = settled_under t a.domain in
      let s = unquoted_local a in
      chain (not (is_good (read_well t a)))
      (no_row_matches t a) (has_other_part a) (passes_bound t a) (passes_units t a) (is_local_empty a) (has_local_spaces a) (has_local_other a)
      (reads_neither a) (names_unknown a) (names_twice a) (names_both a) (names_no_name a) (names_settled t a) (is_not_canonical t a)
      (λ h. bad-not (misread (unsettled st s (no_row_lem st h))))
      (λ h. bad-not (other_domain (not_true (is_domain a.domain) h)))
      (λ h. bad-not (misread (unsettled st s (past_bound_lem st h))))
      (λ h. bad-not (misread (unsettled st s (past_units_lem st h))))
      (λ h. bad-not (unreadable (rw (not_true (non_empty s) h))))
      (λ h. bad-not (unreadable (rw (not_true (well_spaced s) h, and_false (non_empty s) false refl))))
      (λ h. bad-not (unreadable (and_false (non_empty s && well_spaced s) (all is_quotable s) (not_true (all is_quotable s) h))))
      (λ h. bad-not (misread (neither_bad s st (and_right (is_readable s) (is_none (read_segments keys s) && is_none (read_name s)) h))))
      (λ h. bad-not (misread (faults_bad s st has_unknown unknown-none (on_read (on_segments has_unknown) refl h))))
      (λ h. bad-not (misread (faults_bad s st has_repeated repeated_none (on_read (on_segments has_repeated) refl h))))
      (λ h. bad-not (misread (faults_bad s st pn_meets both_none (on_read (on_segments pn_meets) refl h))))
      (λ h. bad-not (misread (faults_bad s st is_no_name name_none (on_read (on_segments is_no_name) refl h))))
      (λ h. bad-not (misread (settled-bad s st (on_read (again_over st) (again-none st) h))))
      (λ h. bad-not (result_bad (other_bad (has_key_fault a) (result_of t a) h)))
      (λ h1 h2 h3 h4 h5 h6 h7 h8 h9 h10 h11 h12 h13 h14. whole h1 h2 h3 h4 h5 h6 h7 h8 h9 h10 h11 h12 h13 h14)

  -- where it is not, the record is the one that was read
  pub good_result : is_good (read_well t a) ≡ true → result_of t a ≡ read_well t a
  unfolding is_good read_well
  good_result h = by_test (is_domain a.domain) (λ e. rw e) (λ e. true_not_false false (rw e at h) refl)
