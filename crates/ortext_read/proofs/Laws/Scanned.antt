-- What the places held come to once all is read: what the segments name, added to a record; and a text read as far as a place.
-- Assumes nothing.
use mathlib.Core.Path.{◌≡◌, refl, sym, ap, ◌∙◌}
use Prim.Native.Nat.{ℕ, ◌≤◌, ◌<◌}
use native.Mathlib.Omega.{arith}
use mathlib.Core.Bool.{Bool, true, false, not, ◌||◌, cond}
use mathlib.Core.List.{List, [], ◌∷◌, ◌++◌, append-nil, map, reverse}
use mathlib.Core.Option.{Option, none, some}
use borrow.Author.Tests.{eqb-true, eqb-false, ne_eqb, not-false}
use lib.Dec.{eqb, leb}
use lib.ListN.{length, take, drop, get_or, drop_of_length-le}
use lib.Seq.{append_snoc}
use Rattle.chars.specs.Lists.{all, non_empty}
use Rattle.chars.proofs.Laws.Seq.{elements, elements_taken}
use Rattle.chars.proofs.Laws.Lists.{and_both, by_test, or_left, or_right, true_not_false}
use Rattle.oraddr.specs.Bounds.{ADMD, C, CN, G, GQ, I, O, PRMD, S, single_count}
use Rattle.oraddr.specs.Add.{Outcome}
use Rattle.oraddr.specs.declared.record.Record.{Record}
use Rattle.ortext_segments.specs.Keys.{ou_key, pn_key, keys}
use Rattle.ortext_name.specs.Name.{Name, read_name}
use Rattle.ortext_segments.specs.Segments.{Segment, ahead, read_rest, read_segments}
use Rattle.ortext_segments.specs.Scan.{Segmented, found_segment, span_text}
use Rattle.ortext_read.specs.Apply.{add_all, add_named, again, applied, dds_of, finish, has_empty, has_repeated, has_unknown, name_of, named, named_again, pn_meets, read_text, refused, single_keys, unread, value_at, values_at, with_name}
use Rattle.ortext_build.specs.Adding.{add_dds, add_singles, add_units, and_then, add_held, add_name, add_pn, held_dds, held_singles, held_units, start}
use Rattle.ortext_named.specs.Named.{AllSound, is_absent, is_beside, no_span, nothing, place_at, take_found}
use Rattle.ortext_read.specs.Answers.{read_held}
use Rattle.ortext_segments.specs.declared.scan.Span.{Span}
use Rattle.ortext_segments.specs.declared.scan.Segment.{Segment as Found}
use Rattle.ortext_named.specs.declared.named.Named.{Named}
use Rattle.ortext_build.proofs.Laws.Adding.{dds-few, singles_stop, then_done, then_is, units-few}
use Rattle.ortext_read.proofs.Laws.Answers.{finish-refused}
use Rattle.ortext_segments.proofs.Laws.Segments.{read-start, rest_end_lem}
use Rattle.ortext_build.proofs.Laws.Spans.{span_none, span_some}
use Rattle.ortext_read.proofs.Laws.Values.{none-refused, named_none, nameless_none, attributes}
use Rattle.ortext_read.proofs.Laws.Held.{Once, Places, Fair, Held, held_more, held_nothing}

-- ---- the attributes that stand once

take_singles : {A : Type 0} (l : List A) (d : A) → single_count ≤ length l
    → take single_count l ≡ get_or l C d ∷ get_or l ADMD d ∷ get_or l PRMD d ∷ get_or l O d ∷ get_or l CN d ∷ get_or l S d ∷ get_or l G d ∷ get_or l I d ∷ get_or l GQ d ∷ []
unfolding elements
take_singles l d h = elements_taken l d 0 single_count h

single-once : (k : ℕ) → k < single_count → Once k
single-once k h = record { low = omega arith; no_unit = λ e. omega arith; no_dd_lem = λ e. omega arith }

pn_once : Once pn_key
pn_once = record { low = omega arith; no_unit = λ e. omega arith; no_dd_lem = λ e. omega arith }

or_left_none : (a b : Bool) → (a || b) ≡ false → a ≡ false
or_left_none true b e = true_not_false true refl e
or_left_none false b e = refl

or_right_none : (a b : Bool) → (a || b) ≡ false → b ≡ false
or_right_none true b e = true_not_false true refl e
or_right_none false b e = e

or-none : (a b c d : Bool) → a ≡ false → b ≡ false → c ≡ false → d ≡ false → (a || b || c || d) ≡ false
or-none a b c d e f g h = rw (e, f, g, h)

then_stop : (o : Outcome) (f : Record → Outcome) → eqb o.number 0 ≡ false → and_then o f ≡ o
unfolding and_then
then_stop o f e = rw e

all_nil : all {A = List ℕ} non_empty [] ≡ true
unfolding all
all_nil = refl

all_one : (x : List ℕ) → non_empty x ≡ true → all non_empty (x ∷ []) ≡ true
unfolding all
all_one x e = and_both e refl

ne_pos : (n : ℕ) → eqb n 0 ≡ false → 0 < n
ne_pos n e = omega (arith, eqb-false n 0 e)

then_singles : (o : Outcome) (f : Record → Outcome) (k : ℕ) (vs : List (List ℕ)) → ((q : Record) → f q ≡ add_singles k vs (start q)) → and_then o f ≡ add_singles k vs o
then_singles o f k vs g =
    by_test (eqb o.number 0)
    (λ e. let z = eqb-true o.number 0 e in
    then_is o f z ∙ g o.record' ∙ ap (λ n. add_singles k vs (record { number = n; record' = o.record' })) (sym z))
    (λ e. then_stop o f e ∙ sym (singles_stop k vs o e))

singles_nil : (k : ℕ) (o : Outcome) → add_singles k [] o ≡ o
unfolding add_singles
singles_nil k o = refl

-- the addition of PN
pn_none : (s : List ℕ) (p : Span) (q : Record) → is_absent p ≡ true → add_pn s p q ≡ add_singles 0 [] (start q)
unfolding add_pn add_singles
pn_none s p q e = ap (λ b. cond b (start q) (add_name q (read_name (span_text s p)))) e

pn_read : (s : List ℕ) (p : Span) (q : Record) (o : Option Name) → is_absent p ≡ false → read_name (span_text s p) ≡ o → add_pn s p q ≡ add_name q o
unfolding add_pn
pn_read s p q o e f = ap (λ b. cond b (start q) (add_name q (read_name (span_text s p)))) e ∙ ap (add_name q) f

name_is : (q : Record) (n : Name) → add_name q (some n) ≡ add_singles S (n.surname ∷ n.given ∷ n.initials ∷ []) (start q)
unfolding add_name
name_is q n = refl

name_no : (q : Record) → (add_name q none).number ≡ 0 → ⊥
unfolding add_name
name_no q e = omega arith

-- the values before a name, and four that are absent or the name's
singles_before : (a b c d e : List ℕ) (o : Outcome) → add_singles 0 (a ∷ b ∷ c ∷ d ∷ e ∷ [] ∷ [] ∷ [] ∷ [] ∷ []) o ≡ add_singles 0 (a ∷ b ∷ c ∷ d ∷ e ∷ []) o
unfolding add_singles non_empty
singles_before a b c d e o = refl

singles_name : (a b c d e x y z : List ℕ) (o : Outcome)
    → add_singles S (x ∷ y ∷ z ∷ []) (add_singles 0 (a ∷ b ∷ c ∷ d ∷ e ∷ []) o) ≡ add_singles 0 (a ∷ b ∷ c ∷ d ∷ e ∷ x ∷ y ∷ z ∷ [] ∷ []) o
unfolding add_singles non_empty
singles_name a b c d e x y z o = refl

module _ (s : List ℕ) (m : Named) (h : AllSound s m) (gs : List Segment) (p : Places s m gs) where
  present : (k : ℕ) → Once k → non_empty (values_at k gs) ≡ not (is_absent (place_at m k))
  unfolding non_empty
  present k o = ap non_empty (p.once k o) ∙ by_test (is_absent (place_at m k)) (λ e. rw e) (λ e. rw e)

  unique : (k : ℕ) → Once k → leb (length (values_at k gs)) 1 ≡ true
  unique k o = ap (λ l. leb (length l) 1) (p.once k o) ∙ by_test (is_absent (place_at m k)) (λ e. rw e) (λ e. rw e)

  filled : (k : ℕ) → Once k → all non_empty (values_at k gs) ≡ true
  filled k o = ap (all non_empty) (p.once k o) ∙ by_test (is_absent (place_at m k)) (λ e. rw e all_nil) (λ e. rw e (all_one (span_text s (place_at m k)) (span_some (h.once k) (ne_pos (place_at m k).len e))))

  value : (k : ℕ) → Once k → value_at k gs ≡ span_text s (place_at m k)
  unfolding value_at
  value k o = ap (λ l. get_or l 0 []) (p.once k o) ∙ by_test (is_absent (place_at m k)) (λ e. rw e (sym (span_none s (place_at m k) (eqb-true (place_at m k).len 0 e)))) (λ e. rw e)

  meets : pn_meets gs ≡ is_beside m
  unfolding pn_meets is_beside
  meets = rw (present pn_key pn_once, present S (single-once S (omega arith)), present G (single-once G (omega arith)), present I (single-once I (omega arith)), present GQ (single-once GQ (omega arith)))

  pub beside-refused : (r : Record) → is_beside m ≡ true → add_named r (named gs) ≡ refused
  beside-refused r e =
      none-refused r (named gs) (named_none gs (or_left (has_unknown gs || has_repeated gs || pn_meets gs) (has_empty gs) (or_right (has_unknown gs || has_repeated gs) (pn_meets gs) (meets ∙ e))))

  no_unknown : has_unknown gs ≡ false
  unfolding has_unknown non_empty
  no_unknown = rw p.known

  once-each : (P : ℕ → Bool) → ((k : ℕ) → Once k → P k ≡ true) → all P single_keys ≡ true
  unfolding all
  once-each P f =
      let g : (k : ℕ) → k < single_count → P k ≡ true = λ k l. f k (single-once k l) in
      rw (
        g C (omega arith),
        g ADMD (omega arith),
        g PRMD (omega arith),
        g O (omega arith),
        g CN (omega arith),
        g S (omega arith),
        g G (omega arith),
        g I (omega arith),
        g GQ (omega arith),
      )

  no_repeated : has_repeated gs ≡ false
  unfolding has_repeated all
  no_repeated = let P : ℕ → Bool = λ k. leb (length (values_at k gs)) 1 in ap not (and_both {a = P pn_key} (unique pn_key pn_once) (once-each P unique))

  no_empty : has_empty gs ≡ false
  unfolding has_empty
  no_empty = ap not (once-each (λ k. all non_empty (values_at k gs)) filled)

  named_is : is_beside m ≡ false → named gs ≡ with_name gs (name_of gs)
  unfolding named
  named_is e = ap (λ b. cond b none (with_name gs (name_of gs))) (or-none (has_unknown gs) (has_repeated gs) (pn_meets gs) (has_empty gs) no_unknown no_repeated (meets ∙ e) no_empty)

  -- the places of the attributes that a record has once
  abbrev at : ℕ → List ℕ
  at k = span_text s (place_at m k)

  each_held : held_singles s m ≡ at C ∷ at ADMD ∷ at PRMD ∷ at O ∷ at CN ∷ at S ∷ at G ∷ at I ∷ at GQ ∷ []
  each_held = ap (map (span_text s)) (take_singles m.once no_span (omega (arith, h.once-room)))

  single : (k : ℕ) → k < single_count → value_at k gs ≡ at k
  single k l = value k (single-once k l)

  -- all that is added, by its parts
  parts : (r : Record) (n : Name) (o : Outcome) → o ≡ add_singles 0 (attributes gs n).single (start r) → add_dds (held_dds s m) (add_units (held_units s m) o) ≡ add_all (attributes gs n) r
  unfolding add_all
  parts r n o e =
      ap (λ d. add_dds d (add_units (held_units s m) o)) (sym p.dds)
      ∙ ap (λ u. add_dds (dds_of gs) (add_units (reverse u) o)) (sym p.units)
      ∙ ap (λ x. add_dds (dds_of gs) (add_units (reverse (values_at ou_key gs)) x)) e

  module _ (r : Record) (e : is_beside m ≡ false) where
    abbrev singles : Outcome
    singles = add_singles 0 (held_singles s m) (start r)

    abbrev pn : Span
    pn = place_at m pn_key

    -- with no PN
    without_pn : is_absent pn ≡ true → finish (add_held s m r) ≡ add_named r (named gs)
    unfolding add_held add_named with_name name_of
    without_pn a =
        let n : Name = record { given = value_at G gs; initials = value_at I gs; surname = value_at S gs } in
        let o : name_of gs ≡ some n = ap (λ b. cond b (read_name (value_at pn_key gs)) (some n)) (present pn_key pn_once ∙ ap not a) in
        let x : and_then singles (add_pn s pn) ≡ add_singles 0 (attributes gs n).single (start r) =
        then_singles singles (add_pn s pn) 0 [] (λ q. pn_none s pn q a) ∙ singles_nil 0 singles ∙ ap (λ l. add_singles 0 l (start r)) (each_held ∙ same) in
        ap finish (parts r n (and_then singles (add_pn s pn)) x) ∙ sym (ap (add_named r) (named_is e ∙ ap (with_name gs) o))
      where
        same : at C ∷ at ADMD ∷ at PRMD ∷ at O ∷ at CN ∷ at S ∷ at G ∷ at I ∷ at GQ ∷ [] ≡ value_at C gs ∷ value_at ADMD gs ∷ value_at PRMD gs ∷ value_at O gs ∷ value_at CN gs ∷ value_at S gs ∷ value_at G gs ∷ value_at I gs ∷ value_at GQ gs ∷ []
        same = rw (single C (omega arith), single ADMD (omega arith), single PRMD (omega arith), single O (omega arith), single CN (omega arith), single S (omega arith), single G (omega arith), single I (omega arith), single GQ (omega arith))

    module _ (a : is_absent pn ≡ false) where
      -- none of S, G, I and GQ is named
      abbrev others : Bool
      others = not (is_absent (place_at m S)) || not (is_absent (place_at m G)) || not (is_absent (place_at m I))

      no_names : (others || not (is_absent (place_at m GQ))) ≡ false
      unfolding is_beside
      no_names = rw a at e

      absent : (k : ℕ) → not (is_absent (place_at m k)) ≡ false → at k ≡ []
      absent k f = span_none s (place_at m k) (eqb-true (place_at m k).len 0 (not-false (is_absent (place_at m k)) f))

      names-absent : (at S ≡ []) × (at G ≡ []) × (at I ≡ []) × (at GQ ≡ [])
      names-absent =
          let x = not (is_absent (place_at m S)) in
          let y = not (is_absent (place_at m G)) in
          let z = not (is_absent (place_at m I)) in
          let f = or_left_none others (not (is_absent (place_at m GQ))) no_names in
          let g = or_left_none (x || y) z f in
          (absent S (or_left_none x y g), absent G (or_right_none x y g), absent I (or_right_none (x || y) z f), absent GQ (or_right_none others (not (is_absent (place_at m GQ))) no_names))

      before_name : singles ≡ add_singles 0 (at C ∷ at ADMD ∷ at PRMD ∷ at O ∷ at CN ∷ []) (start r)
      before_name =
          ap (λ l. add_singles 0 l (start r)) (each_held ∙ rest) ∙ singles_before (at C) (at ADMD) (at PRMD) (at O) (at CN) (start r)
        where
          rest : at C ∷ at ADMD ∷ at PRMD ∷ at O ∷ at CN ∷ at S ∷ at G ∷ at I ∷ at GQ ∷ [] ≡ at C ∷ at ADMD ∷ at PRMD ∷ at O ∷ at CN ∷ [] ∷ [] ∷ [] ∷ [] ∷ []
          rest = rw (names-absent.0, names-absent.1, names-absent.2, names-absent.3)

      name_of_lem : name_of gs ≡ read_name (at pn_key)
      unfolding name_of
      name_of_lem =
          let n : Name = record { given = value_at G gs; initials = value_at I gs; surname = value_at S gs } in
          ap (λ b. cond b (read_name (value_at pn_key gs)) (some n)) (present pn_key pn_once ∙ ap not a) ∙ ap read_name (value pn_key pn_once)

      -- with a PN that is no name, and with one that is
      no_pn : read_name (at pn_key) ≡ none → finish (add_held s m r) ≡ add_named r (named gs)
      unfolding add_held
      no_pn f =
          finish-refused (add_held s m r)
          (ne_eqb _ 0 (λ z. let u = (dds-few (held_dds s m) (add_units (held_units s m) (and_then singles (add_pn s pn))) z).0 in
          let w = (units-few (held_units s m) (and_then singles (add_pn s pn)) u).0 in
          let q = singles.record' in
          name_no q (ap (λ x. x.number) (sym (pn_read s pn q none a f)) ∙ (then_done singles (add_pn s pn) w).1)))
          ∙ sym (none-refused r (named gs) (nameless_none gs (name_of_lem ∙ f)))

      some_pn : (n : Name) → read_name (at pn_key) ≡ some n → finish (add_held s m r) ≡ add_named r (named gs)
      unfolding add_held add_named with_name
      some_pn n f =
          let l = n.surname ∷ n.given ∷ n.initials ∷ [] in
          let x : and_then singles (add_pn s pn) ≡ add_singles 0 (attributes gs n).single (start r) =
          then_singles singles (add_pn s pn) S l (λ q. pn_read s pn q (some n) a f ∙ name_is q n)
          ∙ ap (add_singles S l) before_name ∙ singles_name (at C) (at ADMD) (at PRMD) (at O) (at CN) n.surname n.given n.initials (start r)
          ∙ ap (λ l. add_singles 0 l (start r)) same in
          ap finish (parts r n (and_then singles (add_pn s pn)) x) ∙ sym (ap (add_named r) (named_is e ∙ ap (with_name gs) (name_of_lem ∙ f)))
        where
          same : at C ∷ at ADMD ∷ at PRMD ∷ at O ∷ at CN ∷ n.surname ∷ n.given ∷ n.initials ∷ [] ∷ [] ≡ (attributes gs n).single
          same = rw (single C (omega arith), single ADMD (omega arith), single PRMD (omega arith), single O (omega arith), single CN (omega arith), single GQ (omega arith), names-absent.3)

      with_pn : finish (add_held s m r) ≡ add_named r (named gs)
      with_pn = by_name_lem (read_name (at pn_key)) refl
        where
          by_name_lem : (o : Option Name) → read_name (at pn_key) ≡ o → finish (add_held s m r) ≡ add_named r (named gs)
          by_name_lem none f = no_pn f
          by_name_lem (some n) f = some_pn n f

    -- what is held, added, is what the segments name, added
    pub held_added : finish (add_held s m r) ≡ add_named r (named gs)
    held_added = by_test (is_absent pn) without_pn with_pn

-- what comes of it is what comes of the segments
pub held_reads : (s : List ℕ) (n : ℕ) (m : Named) (gs : List Segment) (r : Record) → Held s n m gs → read_held s m r ≡ applied n r (some gs)
unfolding read_held applied
held_reads s n m gs r h =
    let rest = cond (m.bad || is_beside m) refused (finish (add_held s m r)) in
    ap (λ b. cond b again rest) h.again ∙ by_test (named_again n gs) (λ e. rw e) (λ e. rw e (fair (h.fair (h.again ∙ e))))
  where
    fair : Fair s m gs → cond (m.bad || is_beside m) refused (finish (add_held s m r)) ≡ add_named r (named gs)
    fair f =
        by_test m.bad
        (λ b. rw b (sym (ap (λ l. add_named r (named l)) (sym (append-nil gs)) ∙ f.bad b [] r)))
        (λ b. by_test (is_beside m)
        (λ e. rw (b, e) (sym (beside-refused s m h.sound gs (f.good b) r e)))
        (λ e. rw (b, e) (held_added s m h.sound gs (f.good b) r e)))

-- ---- a text read as far as a place

-- segments in front of those that were read, if they were
unfoldable pub behind : List Segment → Option (List Segment) → Option (List Segment)
behind gs none = none
behind gs (some hs) = some (gs ++ hs)

behind-none : (o : Option (List Segment)) → o ≡ behind [] o
unfolding behind
behind-none none = refl
behind-none (some hs) = refl

behind_more : (gs : List Segment) (g : Segment) (o : Option (List Segment)) → behind gs (ahead (some g) o) ≡ behind (gs ++ g ∷ []) o
unfolding behind ahead
behind_more gs g none = refl
behind_more gs g (some hs) = ap some (sym (append_snoc gs g hs))

-- the segments so far, what is left, and what is held
pub record Scanned (s : List ℕ) (n at : ℕ) (m : Named) : Type 0 where
  pub so_far : List Segment
  pub reads : read_segments keys s ≡ behind so_far (read_rest keys (drop at s))
  pub held : Held s n m so_far

module _ (s : List ℕ) (n : ℕ) where
  pub scanned_first : get_or s 0 0 ≡ 47 → 1 < length s → Scanned s n 1 nothing
  scanned_first e l = record { so_far = []; reads = read-start keys s e l ∙ behind-none (read_rest keys (drop 1 s)); held = held_nothing s n }

  pub scanned_more : (at : ℕ) (m : Named) (f : Found) → Scanned s n at m → Segmented s at f → Scanned s n f.next (take_found n m f)
  scanned_more at m f h g =
      record {
        so_far = h.so_far ++ found_segment s f ∷ [];
        reads = h.reads ∙ ap (behind h.so_far) g.reads ∙ behind_more h.so_far (found_segment s f) (read_rest keys (drop f.next s));
        held = held_more s n m h.so_far at f h.held g;
      }

  pub scanned_bad : (at : ℕ) (m : Named) (r : Record) → Scanned s n at m → read_rest keys (drop at s) ≡ none → read_text keys n r s ≡ unread
  unfolding read_text applied behind
  scanned_bad at m r h e = ap (applied n r) (h.reads ∙ ap (behind h.so_far) e)

  pub scanned_last : (at : ℕ) (m : Named) (r : Record) → Scanned s n at m → length s ≤ at → read_held s m r ≡ read_text keys n r s
  unfolding read_text applied behind
  scanned_last at m r h l =
      let gs = h.so_far in
      let e : read_segments keys s ≡ some gs = h.reads ∙ ap (λ t. behind gs (read_rest keys t)) (drop_of_length-le s l) ∙ ap (behind gs) (rest_end_lem keys) ∙ ap some (append-nil gs) in
      held_reads s n m gs r h.held ∙ sym (ap (applied n r) e)

  pub unread_other : (r : Record) → read_segments keys s ≡ none → read_text keys n r s ≡ unread
  unfolding read_text applied
  unread_other r e = ap (applied n r) e
