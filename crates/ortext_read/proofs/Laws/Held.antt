-- What the places held say of the segments read so far, and that a further segment keeps it.
-- Assumes nothing.
use mathlib.Core.Path.{◌≡◌, refl, sym, ap, ◌∙◌}
use Prim.Native.Nat.{ℕ, ◌+◌, ◌≤◌, ◌<◌, min}
use native.Mathlib.Numerals.{add-one}
use native.Mathlib.Omega.{arith}
use mathlib.Core.Bool.{true, false, not, ◌&&◌, cond, and-false, and-true}
use mathlib.Core.List.{List, [], ◌∷◌, ◌++◌, append_assoc, map, map-append}
use mathlib.Core.Option.{none}
use borrow.Author.Tests.{eqb-true, eqb-false, ltb-false, ltb-true, not-false, not-true}
use lib.Dec.{eqb, leb, ltb}
use lib.ListN.{length, take, get_or, set, length-append, length-map, length-take}
use lib.Seq.{get_or-set_other, get_or-set_same, take-suc-set}
use Rattle.chars.specs.Lists.{all, non_empty}
use Rattle.chars.specs.Parts.{run}
use Rattle.chars.proofs.Laws.Lists.{all_append, and_left, and_right, by_test, true_not_false}
use Rattle.oraddr.specs.Bounds.{most, own_levels, single_count}
use Rattle.ortext_segments.specs.Keys.{dd_key, ou_key, pn_key}
use Rattle.ortext_name.specs.Name.{after_given, after_initials, has_given, read_name}
use Rattle.ortext_segments.specs.Segments.{Segment, unknown}
use Rattle.ortext_segments.specs.Scan.{Segmented, found_segment, kind_text, span_text}
use Rattle.ortext_read.specs.Apply.{add_named, dds_of, name_of, named, named_again, value_at, values_at}
use Rattle.ortext_named.proofs.Laws.Sound.{get_d_own, sound-found, sound-nothing}
use Rattle.ortext_named.specs.Named.{AllSound, Sound, is_absent, no_span, nothing, place_at, spoiled, take_found, with_dd, with_found, with_once, with_unit}
use Rattle.ortext_build.specs.Adding.{dd_at}
use Rattle.ortext_segments.specs.declared.scan.Span.{Span}
use Rattle.ortext_segments.specs.declared.scan.Segment.{Segment as Found}
use Rattle.ortext_named.specs.declared.named.Named.{Named}
use Rattle.ortext_build.proofs.Laws.Spans.{span_none}
use Rattle.ortext_read.proofs.Laws.Values.{values-append, dds-append, values-here, values_other, dds-here, dds_other, Spoiled, none-refused, unknown-none, repeated_none, empty-none, nameless_none, many-units, many-dds, some_first}

-- ---- the places and the segments

-- what is named under a key that stands once
abbrev held_at : List ℕ → Span → List (List ℕ)
held_at s p = cond (is_absent p) [] (span_text s p ∷ [])

-- a key that stands once
pub record Once (k : ℕ) : Type 0 where
  pub low : k < unknown
  pub no_unit : k ≡ ou_key → ⊥
  pub no_dd_lem : k ≡ dd_key → ⊥

pub record Places (s : List ℕ) (m : Named) (gs : List Segment) : Type 0 where
  pub once : (k : ℕ) → Once k → values_at k gs ≡ held_at s (place_at m k)
  pub known : values_at unknown gs ≡ []
  pub units : values_at ou_key gs ≡ map (span_text s) (take m.unit_count m.units)
  pub dds : dds_of gs ≡ map (dd_at s) (take m.dd_count m.dds)

-- what is held of the segments read so far, unless a settled level is named again
pub record Fair (s : List ℕ) (m : Named) (gs : List Segment) : Type 0 where
  pub bad : m.bad ≡ true → Spoiled gs
  pub good : m.bad ≡ false → Places s m gs

pub record Held (s : List ℕ) (n : ℕ) (m : Named) (gs : List Segment) : Type 0 where
  pub sound : AllSound s m
  pub again : m.again ≡ named_again n gs
  pub fair : m.again ≡ false → Fair s m gs

-- an empty value under a key that stands once
no_name : (gs : List Segment) (rest : List (List ℕ)) → values_at pn_key gs ≡ [] ∷ rest → name_of gs ≡ none
unfolding name_of value_at non_empty read_name after_initials after_given has_given run
no_name gs rest e = rw e

empty-first : (gs : List Segment) (k : ℕ) (rest : List (List ℕ)) → Once k → values_at k gs ≡ [] ∷ rest → named gs ≡ none
unfolding all non_empty
empty-first gs k rest o e =
    by_test (ltb k single_count)
    (λ l. empty-none gs k (ltb-true k single_count l) (ap (all non_empty) e))
    (λ l. let q : k ≡ pn_key = omega (arith, ltb-false k single_count l, o.low, o.no_unit, o.no_dd_lem) in
    nameless_none gs (no_name gs rest (rw q at e)))

-- ---- a further segment whose key is no settled level's

module _ (s : List ℕ) (m : Named) (h : AllSound s m) (f : Found) (v : Sound s f.value) (low : f.key ≤ unknown) (gs : List Segment) where
  abbrev seg : Segment
  seg = record { key = f.key; kind = kind_text s f.key f.kind; value = span_text s f.value }

  abbrev next : List Segment
  next = gs ++ seg ∷ []

  more : Spoiled gs → Spoiled next
  more p hs r = ap (λ l. add_named r (named l)) (append_assoc gs (seg ∷ []) hs) ∙ p (seg ∷ hs) r

  module _ (p : Places s m gs) where
    -- what stands once, when it is named again or empty
    values_then : (k : ℕ) → f.key ≡ k → (hs : List Segment) → values_at k (next ++ hs) ≡ (values_at k gs ++ span_text s f.value ∷ []) ++ values_at k hs
    values_then k e hs = values-append k next hs ∙ ap (λ l. l ++ values_at k hs) (values-here gs seg k e)

    once-spoiled : Once f.key → (is_absent (place_at m f.key) && not (is_absent f.value)) ≡ false → Spoiled next
    once-spoiled o e hs r =
        by_test (is_absent (place_at m f.key))
        (λ a. let w : span_text s f.value ≡ [] = span_none s f.value (eqb-true f.value.len 0 (not-false (is_absent f.value) (rw a at e))) in
        let l : values_at f.key (next ++ hs) ≡ [] ∷ values_at f.key hs = values_then f.key refl hs ∙ rw (p.once f.key o, a, w) in
        none-refused r (named (next ++ hs)) (empty-first (next ++ hs) f.key (values_at f.key hs) o l))
        (λ a. let l : values_at f.key (next ++ hs) ≡ span_text s (place_at m f.key) ∷ span_text s f.value ∷ values_at f.key hs = values_then f.key refl hs ∙ rw (p.once f.key o, a) in
        none-refused r (named (next ++ hs)) (repeated_none (next ++ hs) f.key o.low o.no_unit o.no_dd_lem (omega (arith, ap length l))))

    unit_spoiled : f.key ≡ ou_key → ltb m.unit_count most ≡ false → Spoiled next
    unit_spoiled k e hs r =
        many-units (next ++ hs) r
        (omega (arith, ltb-false m.unit_count most e, length-take m.unit_count m.units, h.units-room, length-map (take m.unit_count m.units) (span_text s), simp length-append at (ap length (values_then ou_key k hs ∙ ap (λ l. (l ++ span_text s f.value ∷ []) ++ values_at ou_key hs) p.units))))

    dd-spoiled : f.key ≡ dd_key → ltb m.dd_count most ≡ false → Spoiled next
    dd-spoiled k e hs r =
        many-dds (next ++ hs) r
        (omega (arith, ltb-false m.dd_count most e, length-take m.dd_count m.dds, h.dds-room, length-map (take m.dd_count m.dds) (dd_at s), simp length-append at (ap length (dds-append next hs ∙ ap (λ l. l ++ dds_of hs) (dds-here gs seg k ∙ ap (λ l. l ++ record { kind = kind_text s f.key f.kind; value = span_text s f.value } ∷ []) p.dds)))))

    unknown-spoiled : f.key ≡ unknown → Spoiled next
    unknown-spoiled k hs r =
        none-refused r (named (next ++ hs)) (unknown-none (next ++ hs) (ap non_empty (values_then unknown k hs ∙ rw p.known) ∙ some_first (span_text s f.value) (values_at unknown hs)))

    unit_places : f.key ≡ ou_key → m.unit_count < most
        → Places s (record { once = m.once; units = set m.units m.unit_count f.value; unit_count = m.unit_count + 1; dds = m.dds; dd_count = m.dd_count; again = m.again; bad = m.bad }) next
    unit_places k l =
        record {
          once = λ j o. values_other gs seg j (λ e. o.no_unit (sym e ∙ k)) ∙ p.once j o;
          known = values_other gs seg unknown (λ e. omega arith) ∙ p.known;
          units = values-here gs seg ou_key k ∙ ap (λ l. l ++ span_text s f.value ∷ []) p.units ∙ sym (rw (add-one m.unit_count, take-suc-set m.units m.unit_count f.value (omega (arith, h.units-room)), map-append));
          dds = dds_other gs seg (λ e. omega arith) ∙ p.dds;
        }

    dd-places : f.key ≡ dd_key → m.dd_count < most
        → Places s (record { once = m.once; units = m.units; unit_count = m.unit_count; dds = set m.dds m.dd_count (record { kind = f.kind; value = f.value }); dd_count = m.dd_count + 1; again = m.again; bad = m.bad }) next
    dd-places k l =
        record {
          once = λ j o. values_other gs seg j (λ e. o.no_dd_lem (sym e ∙ k)) ∙ p.once j o;
          known = values_other gs seg unknown (λ e. omega arith) ∙ p.known;
          units = values_other gs seg ou_key (λ e. omega arith) ∙ p.units;
          dds =
              dds-here gs seg k ∙ ap (λ l. l ++ record { kind = kind_text s f.key f.kind; value = span_text s f.value } ∷ []) p.dds
              ∙ ap (λ j. map (dd_at s) (take m.dd_count m.dds) ++ record { kind = kind_text s j f.kind; value = span_text s f.value } ∷ []) k
              ∙ sym (rw (add-one m.dd_count, take-suc-set m.dds m.dd_count (record { kind = f.kind; value = f.value }) (omega (arith, h.dds-room)), map-append));
        }

    once-places : Once f.key → is_absent (place_at m f.key) ≡ true → is_absent f.value ≡ false
        → Places s (record { once = set m.once f.key f.value; units = m.units; unit_count = m.unit_count; dds = m.dds; dd_count = m.dd_count; again = m.again; bad = m.bad }) next
    once-places o a b =
        record {
          once = λ j q. by_test (eqb f.key j) (λ e. here j (eqb-true f.key j e)) (λ e. values_other gs seg j (eqb-false f.key j e) ∙ p.once j q ∙ ap (held_at s) (sym (get_or-set_other m.once f.key j f.value no_span (λ i. eqb-false f.key j e (sym i)))));
          known = values_other gs seg unknown (λ e. omega (arith, o.low)) ∙ p.known;
          units = values_other gs seg ou_key o.no_unit ∙ p.units;
          dds = dds_other gs seg o.no_dd_lem ∙ p.dds;
        }
      where
        here : (j : ℕ) → f.key ≡ j → values_at j next ≡ held_at s (get_or (set m.once f.key f.value) j no_span)
        here j e =
            rw (sym e) (values-here gs seg f.key refl ∙ rw (p.once f.key o, a, get_or-set_same m.once f.key f.value no_span (omega (arith, o.low, h.once-room)), b))

  module _ (fr : Fair s m gs) where
    -- where the segment spoils all
    fair_spoiled : (Places s m gs → Spoiled next) → Fair s (spoiled m) next
    fair_spoiled g =
        record {
          bad = λ e. by_test m.bad (λ b. more (fr.bad b)) (λ b. g (fr.good b));
          good = λ e. true_not_false true refl e;
        }

    fair_unit : f.key ≡ ou_key → Fair s (with_unit m f.value) next
    unfolding with_unit
    fair_unit k =
        by_test (ltb m.unit_count most)
        (λ e. rw e (record { bad = λ b. more (fr.bad b); good = λ b. unit_places (fr.good b) k (ltb-true m.unit_count most e) }))
        (λ e. rw e (fair_spoiled (λ p. unit_spoiled p k e)))

    fair_dd : f.key ≡ dd_key → Fair s (with_dd m (record { kind = f.kind; value = f.value })) next
    unfolding with_dd
    fair_dd k =
        by_test (ltb m.dd_count most)
        (λ e. rw e (record { bad = λ b. more (fr.bad b); good = λ b. dd-places (fr.good b) k (ltb-true m.dd_count most e) }))
        (λ e. rw e (fair_spoiled (λ p. dd-spoiled p k e)))

    fair_once : Once f.key → Fair s (with_once m f.key f.value) next
    unfolding with_once
    fair_once o =
        let a = is_absent (place_at m f.key) in
        let b = not (is_absent f.value) in
        by_test (a && b)
        (λ e. rw e (record { bad = λ b. more (fr.bad b); good = λ c. once-places (fr.good c) o (and_left a b e) (not-true (is_absent f.value) (and_right a b e)) }))
        (λ e. rw e (fair_spoiled (λ p. once-spoiled p o e)))

    fair_found : Fair s (with_found m f) next
    unfolding with_found
    fair_found =
        by_test (eqb f.key ou_key) (λ e. rw e (fair_unit (eqb-true f.key ou_key e)))
        (λ e. by_test (eqb f.key dd_key) (λ d. rw (e, d) (fair_dd (eqb-true f.key dd_key d)))
        (λ d. by_test (ltb f.key unknown)
        (λ l. rw (e, d, l) (fair_once (record { low = ltb-true f.key unknown l; no_unit = eqb-false f.key ou_key e; no_dd_lem = eqb-false f.key dd_key d })))
        (λ l. rw (e, d, l) (fair_spoiled (λ p. unknown-spoiled p (omega (arith, ltb-false f.key unknown l)))))))

-- ---- a further segment

again-more : (n : ℕ) (gs : List Segment) (g : Segment) → named_again n (gs ++ g ∷ []) ≡ not (all (λ x. leb (min n own_levels) x.key) gs && leb (min n own_levels) g.key)
unfolding named_again all
again-more n gs g = ap not (all_append (λ x. leb (min n own_levels) x.key) gs (g ∷ []) ∙ ap (λ b. all (λ x. leb (min n own_levels) x.key) gs && b) (and-true (leb (min n own_levels) g.key)))

found-again : (m : Named) (f : Found) → (with_found m f).again ≡ m.again
unfolding with_found with_unit with_dd with_once
found-again m f =
    by_test (eqb f.key ou_key) (λ e. rw e (by_test (ltb m.unit_count most) (λ a. rw a) (λ a. rw a)))
    (λ e. by_test (eqb f.key dd_key) (λ d. rw (e, d) (by_test (ltb m.dd_count most) (λ a. rw a) (λ a. rw a)))
    (λ d. by_test (ltb f.key unknown) (λ l. rw (e, d, l) (by_test (is_absent (place_at m f.key) && not (is_absent f.value)) (λ a. rw a) (λ a. rw a))) (λ l. rw (e, d, l))))

pub held_more : (s : List ℕ) (n : ℕ) (m : Named) (gs : List Segment) (from : ℕ) (f : Found) → Held s n m gs → Segmented s from f → Held s n (take_found n m f) (gs ++ found_segment s f ∷ [])
unfolding take_found found_segment named_again
held_more s n m gs from f h g =
    let v : Sound s f.value = record { inside = omega (arith, g.within, g.inside); half = g.half } in
    let k : Sound s f.kind = record { inside = omega (arith, g.kind-within, g.inside); half = g.kind-half } in
    let all-high = all (λ x. leb (min n own_levels) x.key) gs in
    let high = leb (min n own_levels) f.key in
    by_test high
    (λ e. rw e (record {
      sound = sound-found s m h.sound f v k;
      again = found-again m f ∙ h.again ∙ sym (again-more n gs (found_segment s f) ∙ ap (λ b. not (all-high && b)) e ∙ ap not (and-true all-high));
      fair = λ a. fair_found s m h.sound f v g.numbered gs (h.fair (sym (found-again m f) ∙ a));
    }))
    (λ e. rw e (record {
      sound = record { once-room = h.sound.once-room; units-room = h.sound.units-room; dds-room = h.sound.dds-room; once = h.sound.once; few-units = h.sound.few-units; few-dds = h.sound.few-dds; units = h.sound.units; kinds = h.sound.kinds; values = h.sound.values };
      again = sym (again-more n gs (found_segment s f) ∙ ap (λ b. not (all-high && b)) e ∙ ap not (and-false all-high));
      fair = λ a. true_not_false true refl a;
    }))

-- ---- the first and the last

pub held_nothing : (s : List ℕ) (n : ℕ) → Held s n nothing []
unfolding named_again all values_at dds_of
held_nothing s n =
    record {
      sound = sound-nothing s;
      again = refl;
      fair = λ a. record {
        bad = λ e. true_not_false true refl (sym e);
        good = λ e. record { once = λ k o. sym (ap (held_at s) (get_d_own unknown k no_span)); known = refl; units = refl; dds = refl };
      };
    }
