-- Laws of what was written, read: segments come back as they were, and so does a record.
-- Assumes nothing.
use mathlib.Core.Path.{◌≡◌, refl, sym, ap, ◌∙◌}
use mathlib.Core.Bool.{Bool, true, false, not, ◌&&◌, ◌||◌, cond}
use mathlib.Core.List.{List, [], ◌∷◌, ◌++◌, map, reverse, reverse_aux, append_assoc, append-nil, map-append, reverse-reverse}
use mathlib.Core.Option.{none, some}
use Prim.Native.Nat.{ℕ, zero, suc, ◌+◌, ◌-◌, ◌≤◌, ◌<◌, min}
use native.Mathlib.Nat.{le_of_suc-le-suc, not-suc-le-zero}
use native.Mathlib.Omega.{arith}
use borrow.Author.Tests.{eqb-true, eqb-false, le-leb, leb-true, ltb-false, lt-ltb, le-ltb, ltb-true, ne_eqb, not-true}
use lib.Dec.{eqb, leb, ltb}
use lib.ListN.{length, drop, get_or, replicate, length-append, length-drop, get_or-eq_default}
use lib.Seq.{get_or-drop}
use Rattle.chars.proofs.Laws.Seq.{absent_is, elements, elements_all}
use Rattle.chars.specs.Lists.{all, bytes, member, non_empty}
use Rattle.chars.specs.Class.{between, is_digit, is_label_char, is_letter, is_printable}
use Rattle.chars.specs.Case.{agree, fold_case, same_byte, same_text}
use Rattle.chars.specs.Parts.{is_part}
use Rattle.chars.specs.Spaces.{is_text, well_spaced}
use Rattle.chars.proofs.Laws.Case.{equal-path}
use Rattle.chars.proofs.Laws.Class.{digit_printable, letter_printable}
use Rattle.chars.proofs.Laws.Lists.{all_append, all-at, all_drop, all_map, all_weaken, first-at, and_both, and_left, and_right, and-three, by_test, or_cases, true_not_false}
use Rattle.oraddr.specs.Bounds.{ADMD, C, c_letters, CN, dd_type, dd_value, G, GQ, I, O, OU, PRMD, S, bound_of, is_country, is_space, is_value, own_levels, rule, single_count}
use Rattle.ortext_segments.specs.Keys.{Keys, dd_key, ou_key, pn_key, short_keys, is_key, key_number, keys}
use Rattle.ortext_segments.specs.Segments.{Segment, unknown, ahead, key_run, plain_key, plain_text, read_rest, read_segments, segment_of, symbols}
use Rattle.oraddr.specs.Attributes.{Attributes, Dd, single_of}
use Rattle.oraddr.specs.declared.record.Record.{Record}
use Rattle.oraddr.specs.Canonical.{all_kept, canonical, identified, is_dd, is_unit, kept}
use Rattle.oraddr.proofs.Laws.Canonical.{canonical-parts}
use Rattle.ortext_read.proofs.Laws.Values.{dds-append, values-append}
use Rattle.ortext_read.specs.Apply.{add_named, applied, read_text, dds_of, has_empty, has_repeated, has_unknown, name_of, named, named_again, pn_meets, single_keys, value_at, values_at, with_name}
use Rattle.ortext_name.specs.Name.{Name, is_short, name_text}
use Rattle.ortext_write.specs.Write.{dd_segment, plain_segment, segments_at, segments_in, order, record_text, remaining, has_short, joined, key_value, long_dd, quoted, segment_text, segments_text, short_key, spelled_attributes, spelled_dd}
use Rattle.ortext_segments.proofs.Laws.Keys.{dot, equals, key-clear, run_none, slash}
use Rattle.ortext_write.proofs.Laws.Write.{remaining-length, single_left, single_out}
use Rattle.ortext_segments.proofs.Laws.Segments.{good-segment, prepend, prepend_prepend, read_other, read-start, rest_end_lem, segment_sides, stopless, stopless_append, symbols-key, symbols-plain}
use Rattle.ortext_name.proofs.Laws.Name.{short_no_slash}
use Rattle.ortext_write.proofs.Laws.Quoted.{marked-plain, marked_stopless, marked_text, quoted-reads}

-- ---- a good table

-- each entry from the number k on is a key that has its own number
unfoldable pub good_from : Keys → ℕ → Keys → Bool
unfolding is_key key_number
good_from ks k [] = true
good_from ks k (s ∷ ss) = is_key s && eqb (key_number ks s) k && good_from ks (suc k) ss

-- a table that the laws hold for
unfoldable pub good_keys : Keys → Bool
unfolding good_from
good_keys ks = leb short_keys (length ks) && good_from ks 0 ks

pub keys-good : good_keys keys ≡ true
unfolding good_keys good_from keys bytes is_key is_part key_number same_text agree same_byte fold_case all non_empty is_label_char is_letter is_digit between
keys-good = refl

good-at : (ks : Keys) (k : ℕ) (ss : Keys) → good_from ks k ss ≡ true → (i : ℕ) → i < length ss
    → (is_key (get_or ss i []) ≡ true) × (key_number ks (get_or ss i []) ≡ k + i)
unfolding good_from
good-at ks k [] g i h = absurd (not-suc-le-zero h)
good-at ks k (s ∷ ss) g zero h =
    let e = and_left (is_key s && eqb (key_number ks s) k) (good_from ks (suc k) ss) g in
    (and_left (is_key s) (eqb (key_number ks s) k) e, omega (arith, eqb-true (key_number ks s) k (and_right (is_key s) (eqb (key_number ks s) k) e)))
good-at ks k (s ∷ ss) g (suc i) h =
    let r = good-at ks (suc k) ss (and_right (is_key s && eqb (key_number ks s) k) (good_from ks (suc k) ss) g) i (le_of_suc-le-suc h) in
    (r.0, omega (arith, r.1))

-- ---- segments

-- a segment as it comes back: a DD type that a short key spells case aside has the key's spelling
unfoldable pub spelled : Keys → Segment → Segment
unfolding has_short short_key
spelled ks g =
    cond (eqb g.key dd_key && has_short ks g.kind)
    (record { key = dd_key; kind = short_key ks g.kind; value = g.value })
    g

-- a segment that can be written: an attribute that a record has, with no type unless it is a DD, of printable string characters
unfoldable pub writable : Segment → Bool
unfolding all is_printable non_empty
writable g =
    (ltb g.key dd_key && not (non_empty g.kind) || eqb g.key dd_key && all is_printable g.kind)
    && all is_printable g.value

value_printable : (g : Segment) → writable g ≡ true → all is_printable g.value ≡ true
unfolding writable
value_printable g h =
    and_right (ltb g.key dd_key && not (non_empty g.kind) || eqb g.key dd_key && all is_printable g.kind) (all is_printable g.value) h

-- What stands before the equals sign, as it is written and as it reads: with any value it makes the segment.
record Left (ks : Keys) (g : Segment) : Type 0 where
  text : List ℕ
  marked : List ℕ
  written : segment_text ks g ≡ key_value text g.value
  reads : (s : List ℕ) → symbols (text ++ s) ≡ prepend marked (symbols s)
  free : stopless marked ≡ true
  makes : (w : List ℕ) → plain_text w ≡ g.value → segment_of ks marked w ≡ some (spelled ks g)

module _ (ks : Keys) (good : good_keys ks ≡ true) where
  table-length : short_keys ≤ length ks
  unfolding good_keys
  table-length = leb-true short_keys (length ks) (and_left (leb short_keys (length ks)) (good_from ks 0 ks) good)

  -- each key is of label characters, is not empty, stops nowhere, and has its own number
  module _ (k : ℕ) (h : k < length ks) where
    key-part : is_key (get_or ks k []) ≡ true
    unfolding good_keys
    key-part = (good-at ks 0 ks (and_right (leb short_keys (length ks)) (good_from ks 0 ks) good) k h).0

    key_own : key_number ks (get_or ks k []) ≡ k
    unfolding good_keys
    key_own = let e = (good-at ks 0 ks (and_right (leb short_keys (length ks)) (good_from ks 0 ks) good) k h).1 in omega (arith, e)

    key-some : non_empty (get_or ks k []) ≡ true
    unfolding is_key is_part
    key-some = let e = key-part in and_left (non_empty (get_or ks k [])) (all is_label_char (get_or ks k [])) e

    key-label : all is_label_char (get_or ks k []) ≡ true
    unfolding is_key is_part
    key-label = let e = key-part in and_right (non_empty (get_or ks k [])) (all is_label_char (get_or ks k [])) e

    key-free : stopless (get_or ks k []) ≡ true
    unfolding all
    key-free = and_both (key-clear 47 slash (get_or ks k []) key-label) (key-clear 61 equals (get_or ks k []) key-label)

    -- a key with no dot
    key_makes : (w : List ℕ) → segment_of ks (get_or ks k []) w ≡ some (plain_key ks k (plain_text w))
    unfolding non_empty key_run
    key_makes w =
        ap (λ (t : List ℕ). segment_of ks t w) (sym (append-nil (get_or ks k [])))
        ∙ segment_sides ks (get_or ks k []) [] w key-label refl
        ∙ rw (key-some, key_own)

  -- a segment that has a key with no dot, the table's kth
  key_left : (g : Segment) (k : ℕ) → k < length ks → segment_text ks g ≡ key_value (get_or ks k []) g.value
      → plain_key ks k g.value ≡ spelled ks g → Left ks g
  key_left g k h e f =
      record {
        text = get_or ks k [];
        marked = get_or ks k [];
        written = e;
        reads = λ s. symbols-key (get_or ks k []) s (key-label k h);
        free = key-free k h;
        makes = λ w r. rw (key_makes k h w, r, f);
      }

  -- an attribute that is no DD
  plain_left : (g : Segment) → ltb g.key dd_key ≡ true → non_empty g.kind ≡ false → Left ks g
  unfolding segment_text spelled plain_key
  plain_left g h e =
      let l : g.key < dd_key = ltb-true g.key dd_key h in
      let n : eqb g.key dd_key ≡ false = ne_eqb g.key dd_key (λ r. omega arith) in
      key_left g g.key (omega (arith, table-length)) (rw n)
      (rw (n, lt-ltb g.key short_keys (omega arith)) (ap (λ (t : List ℕ). record { key = g.key; kind = t; value = g.value }) (sym (absent_is g.kind e))))

  -- a DD that has a short key
  short_left : (g : Segment) → eqb g.key dd_key ≡ true → has_short ks g.kind ≡ true → Left ks g
  unfolding segment_text spelled plain_key has_short short_key
  short_left g h e =
      let n = key_number (drop short_keys ks) g.kind in
      let l : n < length (drop short_keys ks) = ltb-true n (length (drop short_keys ks)) e in
      let b : short_keys + n < length ks = omega (arith, simp length-drop at l) in
      key_left g (short_keys + n) b
      (rw (h, e, get_or-drop short_keys ks n []))
      (rw (h, e, get_or-drop short_keys ks n [], ne_eqb (short_keys + n) dd_key (λ r. omega arith), le-ltb (short_keys + n) short_keys (omega arith), lt-ltb (short_keys + n) (length ks) b))

  -- a DD that has none
  long_left : (g : Segment) → eqb g.key dd_key ≡ true → has_short ks g.kind ≡ false → all is_printable g.kind ≡ true → Left ks g
  unfolding segment_text long_dd spelled all non_empty key_run
  long_left g h e p =
      let d = get_or ks dd_key [] in
      let l : dd_key < length ks = omega (arith, table-length) in
      let k = g.kind in
      record {
        text = d ++ 46 ∷ quoted k;
        marked = d ++ 46 ∷ marked_text k;
        written = rw (h, e);
        reads = λ s.
            rw (append_assoc d (46 ∷ quoted k) s, symbols-key d (46 ∷ quoted k ++ s) (key-label dd_key l), symbols-plain 46 (quoted k ++ s) refl, quoted-reads k s p, prepend_prepend (46 ∷ []) (marked_text k) (symbols s))
            (prepend_prepend d (46 ∷ marked_text k) (symbols s));
        free = stopless_append d (46 ∷ marked_text k) (key-free dd_key l) (marked_stopless k);
        makes = λ w r.
            segment_sides ks d (46 ∷ marked_text k) w (key-label dd_key l) (run_none (46 ∷ marked_text k) dot)
            ∙ rw (key-some dd_key l, key_own dd_key l, marked-plain k p, r, h, e) (ap (λ (n : ℕ). some (record { key = n; kind = k; value = g.value })) (sym (eqb-true g.key dd_key h)));
      }

  left : (g : Segment) → writable g ≡ true → Left ks g
  unfolding writable
  left g h =
      let a = ltb g.key dd_key in
      let b = not (non_empty g.kind) in
      let c = eqb g.key dd_key in
      let d = all is_printable g.kind in
      or_cases (a && b) (c && d) (and_left (a && b || c && d) (all is_printable g.value) h)
      (λ e. plain_left g (and_left a b e) (not-true (non_empty g.kind) (and_right a b e)))
      (λ e. by_test (has_short ks g.kind)
      (λ f. short_left g (and_left c d e) f)
      (λ f. long_left g (and_left c d e) f (and_right c d e)))

  -- ---- the whole text

  -- one segment in front of others
  text-more : (g : Segment) (gs : List Segment) (l : Left ks g)
      → segments_text ks (g ∷ gs) ≡ 47 ∷ (l.text ++ 61 ∷ (quoted g.value ++ segments_text ks gs))
  unfolding segments_text joined key_value
  text-more g gs l =
      rw (l.written, append_assoc (l.text ++ 61 ∷ quoted g.value) (joined ks gs) (47 ∷ []))
      (ap (λ (t : List ℕ). 47 ∷ t) (append_assoc l.text (61 ∷ quoted g.value) (joined ks gs ++ 47 ∷ [])))

  text-start : (gs : List Segment) → all writable gs ≡ true → segments_text ks gs ≡ 47 ∷ drop 1 (segments_text ks gs)
  unfolding segments_text joined all
  text-start [] h = refl
  text-start (g ∷ gs) h = rw (text-more g gs (left g (and_left (writable g) (all writable gs) h)))

  -- a segment and the slash behind it
  part-reads : (g : Segment) (l : Left ks g) → all is_printable g.value ≡ true → (t : List ℕ)
      → symbols (l.text ++ 61 ∷ (quoted g.value ++ 47 ∷ t)) ≡ prepend (l.marked ++ 61 ∷ marked_text g.value ++ 47 ∷ []) (symbols t)
  part-reads g l p t =
      let v = g.value in
      let m = l.marked in
      rw (
        l.reads (61 ∷ (quoted v ++ 47 ∷ t)),
        symbols-plain 61 (quoted v ++ 47 ∷ t) refl,
        quoted-reads v (47 ∷ t) p,
        symbols-plain 47 t refl,
        prepend_prepend (marked_text v) (47 ∷ []) (symbols t),
        prepend_prepend (61 ∷ []) (marked_text v ++ 47 ∷ []) (symbols t),
        prepend_prepend m (61 ∷ (marked_text v ++ 47 ∷ [])) (symbols t),
      )
      (ap (λ (f : List ℕ). prepend f (symbols t)) (sym (append_assoc m (61 ∷ marked_text v) (47 ∷ []))))

  rest_read : (gs : List Segment) → all writable gs ≡ true → read_rest ks (drop 1 (segments_text ks gs)) ≡ some (map (spelled ks) gs)
  unfolding read_rest ahead segments_text joined all
  rest_read [] h = rest_end_lem ks
  rest_read (g ∷ gs) h =
      let w = and_left (writable g) (all writable gs) h in
      let ws = and_right (writable g) (all writable gs) h in
      let l = left g w in
      let v = g.value in
      let t = drop 1 (segments_text ks gs) in
      let p = value_printable g w in
      rw (
        text-more g gs l,
        text-start gs ws,
        part-reads g l p t,
        good-segment ks l.marked (marked_text v) l.free (marked_stopless v) (symbols t),
        l.makes (marked_text v) (marked-plain v p),
        rest_read gs ws,
      )

  -- segments that were written are read back, each DD type that a short key spells in the key's spelling
  pub read-segments : (gs : List Segment) → non_empty gs ≡ true → all writable gs ≡ true
      → read_segments ks (segments_text ks gs) ≡ some (map (spelled ks) gs)
  unfolding non_empty all
  read-segments [] e h = true_not_false true refl (sym e)
  read-segments (g ∷ gs) e h =
      let t = text-more g gs (left g (and_left (writable g) (all writable gs) h)) in
      read-start ks (segments_text ks (g ∷ gs)) (rw t) (rw t (simp length-append (omega arith))) ∙ rest_read (g ∷ gs) h

  -- a text has one reading
  pub one-reading : (gs hs : List Segment) → non_empty gs ≡ true → all writable gs ≡ true → non_empty hs ≡ true → all writable hs ≡ true
      → segments_text ks gs ≡ segments_text ks hs → map (spelled ks) gs ≡ map (spelled ks) hs
  one-reading gs hs e h f k q =
      let r : some (map (spelled ks) gs) ≡ some (map (spelled ks) hs) = sym (read-segments gs e h) ∙ ap (read_segments ks) q ∙ read-segments hs f k in cc

-- a short form of a name is no record text
pub short_never_text : (ks : Keys) (m : Name) (gq : List ℕ) → is_short m gq ≡ true → read_segments ks (name_text m) ≡ none
short_never_text ks m gq h = read_other ks (name_text m) (λ e. short_no_slash m gq h (first-at (name_text m) ∙ e))

-- ---- attributes

-- a value, if there is one
unfoldable one : List ℕ → List (List ℕ)
unfolding non_empty
one v = cond (non_empty v) (v ∷ []) []

-- the values that are written with the key k, which is not DD's
unfoldable own : Attributes → ℕ → List (List ℕ)
unfolding one single_of
own a k = cond (eqb k ou_key) (reverse a.units) (one (single_of a k))

at_plain : (a : Attributes) (k : ℕ) → eqb k dd_key ≡ false → segments_at a k ≡ map (plain_segment k) (own a k)
unfolding segments_at own one
at_plain a k e =
    by_test (eqb k ou_key)
    (λ f. rw (e, f, eqb-true k ou_key f))
    (λ f. by_test (non_empty (single_of a k)) (λ h. rw (e, f, h)) (λ h. rw (e, f, h)))

at-dds : (a : Attributes) (k : ℕ) → eqb k dd_key ≡ true → segments_at a k ≡ map dd_segment a.dds
unfolding segments_at
at-dds a k e = rw e

-- a test that is true whatever it is of, and one over equal elements
all_same : {A : Type 0} {t : Bool} (s : List A) → t ≡ true → all (λ x. t) s ≡ true
unfolding all
all_same [] h = refl
all_same (x ∷ s) h = and_both h (all_same s h)

all_replicate : {A : Type 0} (p : A → Bool) (n : ℕ) (x : A) → p x ≡ true → all p (replicate n x) ≡ true
unfolding all
all_replicate p zero x h = refl
all_replicate p (suc n) x h = and_both h (all_replicate p n x h)

-- what a segment comes back as, over the attributes
module _ (ks : Keys) where
  spelled-plain : (k : ℕ) → eqb k dd_key ≡ false → (vs : List (List ℕ)) → map (spelled ks) (map (plain_segment k) vs) ≡ map (plain_segment k) vs
  unfolding spelled plain_segment
  spelled-plain k e [] = refl
  spelled-plain k e (v ∷ vs) = rw (e, spelled-plain k e vs)

  spelled-dds : (ds : List Dd) → map (spelled ks) (map dd_segment ds) ≡ map dd_segment (map (spelled_dd ks) ds)
  unfolding spelled dd_segment spelled_dd
  spelled-dds [] = refl
  spelled-dds (d ∷ ds) = by_test (has_short ks d.kind) (λ e. rw (e, spelled-dds ds)) (λ e. rw (e, spelled-dds ds))

  spelled_at : (a : Attributes) (k : ℕ) → map (spelled ks) (segments_at a k) ≡ segments_at (spelled_attributes ks a) k
  unfolding spelled_attributes own single_of
  spelled_at a k =
      by_test (eqb k dd_key)
      (λ e. rw (at-dds a k e, at-dds (spelled_attributes ks a) k e) (spelled-dds a.dds))
      (λ e. rw (at_plain a k e, at_plain (spelled_attributes ks a) k e) (spelled-plain k e (own a k)))

  pub spelled_in : (a : Attributes) (js : List ℕ) → map (spelled ks) (segments_in a js) ≡ segments_in (spelled_attributes ks a) js
  unfolding segments_in
  spelled_in a [] = refl
  spelled_in a (j ∷ js) = rw (map-append (spelled ks) (segments_at a j) (segments_in a js), spelled_at a j, spelled_in a js)

-- ---- what the written segments name

values-plain : (k j : ℕ) (vs : List (List ℕ)) → values_at k (map (plain_segment j) vs) ≡ cond (eqb j k) vs []
unfolding values_at plain_segment
values-plain k j [] = by_test (eqb j k) (λ e. rw e) (λ e. rw e)
values-plain k j (v ∷ vs) =
    by_test (eqb j k) (λ e. rw (e, values-plain k j vs, e)) (λ e. rw (e, values-plain k j vs, e))

values-dds : (k : ℕ) → eqb dd_key k ≡ false → (ds : List Dd) → values_at k (map dd_segment ds) ≡ []
unfolding values_at dd_segment
values-dds k e [] = refl
values-dds k e (d ∷ ds) = rw e (values-dds k e ds)

dds-plain : (j : ℕ) → eqb j dd_key ≡ false → (vs : List (List ℕ)) → dds_of (map (plain_segment j) vs) ≡ []
unfolding dds_of plain_segment
dds-plain j e [] = refl
dds-plain j e (v ∷ vs) = rw e (dds-plain j e vs)

dds-dds : (ds : List Dd) → dds_of (map dd_segment ds) ≡ ds
unfolding dds_of dd_segment
dds-dds [] = refl
dds-dds (d ∷ ds) = ap (λ (t : List Dd). d ∷ t) (dds-dds ds)

one_value : (v : List ℕ) → (leb (length (one v)) 1 ≡ true) × (all non_empty (one v) ≡ true) × (get_or (one v) 0 [] ≡ v)
unfolding one non_empty all
one_value [] = (refl, refl, refl)
one_value (x ∷ v) = (refl, refl, refl)

some-values : (k : ℕ) (gs : List Segment) → non_empty (values_at k gs) ≡ true → non_empty gs ≡ true
unfolding values_at non_empty
some-values k [] h = h
some-values k (g ∷ gs) h = refl

some-dds : (gs : List Segment) → non_empty (dds_of gs) ≡ true → non_empty gs ≡ true
unfolding dds_of non_empty
some-dds [] h = h
some-dds (g ∷ gs) h = refl

-- each segment that is written with a key has it
at-keys : (a : Attributes) (j : ℕ) (p : ℕ → Bool) → p j ≡ true → all (λ g. p g.key) (segments_at a j) ≡ true
unfolding plain_segment dd_segment
at-keys a j p h =
    by_test (eqb j dd_key)
    (λ e. rw (at-dds a j e) (all_map (λ g. p g.key) dd_segment a.dds ∙ all_same a.dds (ap p (sym (eqb-true j dd_key e)) ∙ h)))
    (λ e. rw (at_plain a j e) (all_map (λ g. p g.key) (plain_segment j) (own a j) ∙ all_same (own a j) h))

-- how often a key stands in an order
unfoldable times : ℕ → List ℕ → ℕ
times k [] = 0
times k (j ∷ js) = cond (eqb j k) (suc (times k js)) (times k js)

-- a key of an attribute that a record has once: it stands once in the order of writing, and is no DD's and no unit's
unfoldable is_single : ℕ → Bool
unfolding times
is_single k = eqb (times k order) 1 && not (eqb dd_key k) && not (eqb k ou_key)

module _ (a : Attributes) where
  values-at : (k : ℕ) → eqb dd_key k ≡ false → (j : ℕ) → values_at k (segments_at a j) ≡ cond (eqb j k) (own a j) []
  values-at k e j =
      by_test (eqb j dd_key)
      (λ f. rw (at-dds a j f, values-dds k e a.dds, eqb-true j dd_key f, e))
      (λ f. rw (at_plain a j f) (values-plain k j (own a j)))

  values-none : (k : ℕ) → eqb dd_key k ≡ false → (js : List ℕ) → times k js ≡ 0 → values_at k (segments_in a js) ≡ []
  unfolding segments_in values_at times
  values-none k e [] t = refl
  values-none k e (j ∷ js) t =
      by_test (eqb j k)
      (λ f. absurd (omega (arith, rw f at t)))
      (λ f. rw (values-append k (segments_at a j) (segments_in a js), values-at k e j, f) (values-none k e js (rw f at t)))

  values-once : (k : ℕ) → eqb dd_key k ≡ false → (js : List ℕ) → times k js ≡ 1 → values_at k (segments_in a js) ≡ own a k
  unfolding segments_in values_at times
  values-once k e [] t = absurd (omega arith)
  values-once k e (j ∷ js) t =
      by_test (eqb j k)
      (λ f. let z : times k js ≡ 0 = omega (arith, rw f at t) in
      rw (values-append k (segments_at a j) (segments_in a js), values-at k e j, f, values-none k e js z, eqb-true j k f) (append-nil (own a k)))
      (λ f. rw (values-append k (segments_at a j) (segments_in a js), values-at k e j, f) (values-once k e js (rw f at t)))

  dds-none : (js : List ℕ) → all (λ j. not (eqb j dd_key)) js ≡ true → dds_of (segments_in a js) ≡ []
  unfolding segments_in dds_of all
  dds-none [] h = refl
  dds-none (j ∷ js) h =
      let e = not-true (eqb j dd_key) (and_left (not (eqb j dd_key)) (all (λ j. not (eqb j dd_key)) js) h) in
      rw (dds-append (segments_at a j) (segments_in a js), at_plain a j e, dds-plain j e (own a j))
      (dds-none js (and_right (not (eqb j dd_key)) (all (λ j. not (eqb j dd_key)) js) h))

  dds_in : dds_of (segments_in a order) ≡ a.dds
  unfolding segments_in all
  dds_in =
      let js = CN ∷ G ∷ I ∷ S ∷ GQ ∷ ou_key ∷ O ∷ PRMD ∷ ADMD ∷ C ∷ [] in
      dds-append (segments_at a dd_key) (segments_in a js) ∙ rw (dds-none js refl, at-dds a dd_key refl, dds-dds a.dds) (append-nil a.dds)

  -- each attribute that a record has once
  single_in : (k : ℕ) → is_single k ≡ true → values_at k (segments_in a order) ≡ one (single_of a k)
  unfolding is_single own
  single_in k h =
      let p = eqb (times k order) 1 in
      let q = not (eqb dd_key k) in
      let r = not (eqb k ou_key) in
      let e = and-three p q r h in
      values-once k (not-true (eqb dd_key k) e.1) order (eqb-true (times k order) 1 e.0) ∙ rw (not-true (eqb k ou_key) e.2)

  single-value : (k : ℕ) → is_single k ≡ true → value_at k (segments_in a order) ≡ single_of a k
  unfolding value_at
  single-value k h = rw (single_in k h) (one_value (single_of a k)).2

  -- what is written names the attributes
  pub named_in : length a.single ≡ single_count → named (segments_in a order) ≡ some a
  unfolding named has_unknown has_repeated pn_meets has_empty with_name name_of all non_empty is_single times own elements
  named_in l =
      let gs = segments_in a order in
      let n : values_at pn_key gs ≡ [] = values-none pn_key refl order refl in
      let few : (k : ℕ) → is_single k ≡ true → leb (length (values_at k gs)) 1 ≡ true = λ k h. rw (single_in k h) (one_value (single_of a k)).0 in
      let full : (k : ℕ) → is_single k ≡ true → all non_empty (values_at k gs) ≡ true = λ k h. rw (single_in k h) (one_value (single_of a k)).1 in
      rw (
        values-none unknown refl order refl,
        n,
        all_weaken is_single (λ k. leb (length (values_at k gs)) 1) few single_keys refl,
        all_weaken is_single (λ k. all non_empty (values_at k gs)) full single_keys refl,
        single-value C refl,
        single-value ADMD refl,
        single-value PRMD refl,
        single-value O refl,
        single-value CN refl,
        single-value S refl,
        single-value G refl,
        single-value I refl,
        single-value GQ refl,
        values-once ou_key refl order refl,
        reverse-reverse a.units,
        dds_in,
      )
      (ap (λ (ss : List (List ℕ)). some (record { single = ss; units = a.units; dds = a.dds })) (sym (elements_all a.single [] 0 single_count l)))

pub named-written : (ks : Keys) (a : Attributes) → length a.single ≡ single_count → named (map (spelled ks) (segments_in a order)) ≡ some (spelled_attributes ks a)
unfolding spelled_attributes
named-written ks a l = rw (spelled_in ks a order) (named_in (spelled_attributes ks a) l)

-- ---- what a canonical record has can be written

-- printable string characters throughout
pub record Printable (a : Attributes) : Type 0 where
  pub singles : all (all is_printable) a.single ≡ true
  pub units : all (all is_printable) a.units ≡ true
  pub dds : all (λ d. all is_printable d.kind && all is_printable d.value) a.dds ≡ true

value-text : (k : ℕ) (v : List ℕ) → is_value k v ≡ true → all is_printable v ≡ true
unfolding is_value is_text
value-text k v h =
    let t = and_right (leb (length v) (bound_of k)) (non_empty v && all is_printable v && well_spaced v) h in
    (and-three (non_empty v) (all is_printable v) (well_spaced v) t).1

country_text : (v : List ℕ) → is_country v ≡ true → all is_printable v ≡ true
unfolding is_country
country_text v h =
    let l = eqb (length v) (bound_of c_letters) in
    let d = eqb (length v) (bound_of C) in
    or_cases (l && all is_letter v) (d && all is_digit v) h
    (λ e. all_weaken is_letter is_printable letter_printable v (and_right l (all is_letter v) e))
    (λ e. all_weaken is_digit is_printable digit_printable v (and_right d (all is_digit v) e))

space_text : (v : List ℕ) → is_space v ≡ true → all is_printable v ≡ true
unfolding is_space is_printable bytes member is_letter is_digit between all
space_text v h = rw (equal-path v (32 ∷ []) h)

kept-text : (k : ℕ) (v : List ℕ) → kept k v ≡ true → all is_printable v ≡ true
unfolding kept non_empty rule all
kept-text k [] h = refl
kept-text k (x ∷ v) h =
    by_test (eqb k C)
    (λ e. country_text (x ∷ v) (rw e at h))
    (λ e. or_cases (is_value k (x ∷ v)) (eqb k ADMD && is_space (x ∷ v)) (rw e at h)
    (λ f. value-text k (x ∷ v) f)
    (λ f. space_text (x ∷ v) (and_right (eqb k ADMD) (is_space (x ∷ v)) f)))

kept-texts : (k : ℕ) (vs : List (List ℕ)) → all_kept k vs ≡ true → all (all is_printable) vs ≡ true
unfolding all_kept all
kept-texts k [] h = refl
kept-texts k (v ∷ vs) h =
    and_both (kept-text k v (and_left (kept k v) (all_kept (suc k) vs) h)) (kept-texts (suc k) vs (and_right (kept k v) (all_kept (suc k) vs) h))

pub canonical_printable : (a : Attributes) → canonical a ≡ true → Printable a
unfolding is_unit is_dd
canonical_printable a h =
    let p = canonical-parts a h in
    record {
      singles = kept-texts 0 a.single p.singles;
      units = all_weaken is_unit (all is_printable) (value-text OU) a.units p.units;
      dds =
          all_weaken is_dd (λ d. all is_printable d.kind && all is_printable d.value)
          (λ d e. and_both
          (value-text dd_type d.kind (and_left (is_value dd_type d.kind) (is_value dd_value d.value) e))
          (value-text dd_value d.value (and_right (is_value dd_type d.kind) (is_value dd_value d.value) e)))
          a.dds p.dds;
    }

writable_plain : (j : ℕ) → ltb j dd_key ≡ true → (vs : List (List ℕ)) → all writable (map (plain_segment j) vs) ≡ all (all is_printable) vs
unfolding all writable plain_segment non_empty
writable_plain j h [] = refl
writable_plain j h (v ∷ vs) = rw (h, writable_plain j h vs)

writable_dds : (ds : List Dd) → all writable (map dd_segment ds) ≡ all (λ d. all is_printable d.kind && all is_printable d.value) ds
unfolding all writable dd_segment
writable_dds [] = refl
writable_dds (d ∷ ds) = rw (writable_dds ds)

all_reversed : {A : Type 0} (p : A → Bool) (s r : List A) → all p s ≡ true → all p r ≡ true → all p (reverse_aux s r) ≡ true
unfolding all
all_reversed p [] r h k = k
all_reversed p (x ∷ s) r h k = all_reversed p s (x ∷ r) (and_right (p x) (all p s) h) (and_both (and_left (p x) (all p s) h) k)

-- what holds of all, and of the default, holds at any place
all_any : {A : Type 0} (p : A → Bool) (s : List A) (i : ℕ) (d : A) → all p s ≡ true → p d ≡ true → p (get_or s i d) ≡ true
all_any p s i d h k =
    by_test (ltb i (length s))
    (λ e. all-at p s i d h (ltb-true i (length s) e))
    (λ e. let l = ltb-false i (length s) e in rw (get_or-eq_default s d l) k)

own_printable : (a : Attributes) → Printable a → (j : ℕ) → all (all is_printable) (own a j) ≡ true
unfolding own one single_of all
own_printable a p j =
    by_test (eqb j ou_key)
    (λ e. rw e (all_reversed (all is_printable) a.units [] p.units refl))
    (λ e. by_test (non_empty (get_or a.single j []))
    (λ f. rw (e, f) (and_both (all_any (all is_printable) a.single j [] p.singles refl) refl))
    (λ f. rw (e, f)))

pub writable_in : (a : Attributes) → Printable a → (js : List ℕ) → all (λ j. leb j dd_key) js ≡ true → all writable (segments_in a js) ≡ true
unfolding segments_in all
writable_in a p [] h = refl
writable_in a p (j ∷ js) h =
    all_append writable (segments_at a j) (segments_in a js)
    ∙ and_both here (writable_in a p js (and_right (leb j dd_key) (all (λ j. leb j dd_key) js) h))
  where
    here : all writable (segments_at a j) ≡ true
    here =
        by_test (eqb j dd_key)
        (λ e. rw (at-dds a j e) (writable_dds a.dds ∙ p.dds))
        (λ e. let l = leb-true j dd_key (and_left (leb j dd_key) (all (λ j. leb j dd_key) js) h) in
        let m : ltb j dd_key ≡ true = lt-ltb j dd_key (omega (arith, eqb-false j dd_key e)) in
        rw (at_plain a j e) (writable_plain j m (own a j) ∙ own_printable a p j))

-- ---- what is left of a record

module _ (n : ℕ) (a : Attributes) where
  -- a level that went into a domain is absent, any other attribute is as it was
  pub remaining_printable : Printable a → Printable (remaining n a)
  unfolding remaining all
  remaining_printable p =
      record {
        singles =
            all_append (all is_printable) (replicate (min n own_levels) []) (drop (min n own_levels) a.single)
            ∙ and_both (all_replicate (all is_printable) (min n own_levels) [] refl) (all_drop (all is_printable) (min n own_levels) a.single p.singles);
        units = all_drop (all is_printable) (n - own_levels) a.units p.units;
        dds = p.dds;
      }

  -- no segment names a level that went into a domain
  keys-at : (j : ℕ) → all (λ g. leb (min n own_levels) g.key) (segments_at (remaining n a) j) ≡ true
  unfolding all own one non_empty
  keys-at j =
      by_test (ltb j (min n own_levels))
      (λ e. let l = ltb-true j (min n own_levels) e in
      rw (at_plain (remaining n a) j (ne_eqb j dd_key (λ r. omega arith)), ne_eqb j ou_key (λ r. omega arith), single_out n a j l))
      (λ e. at-keys (remaining n a) j (leb (min n own_levels)) (le-leb (min n own_levels) j (ltb-false j (min n own_levels) e)))

  keys_in : (js : List ℕ) → all (λ g. leb (min n own_levels) g.key) (segments_in (remaining n a) js) ≡ true
  unfolding segments_in all
  keys_in [] = refl
  keys_in (j ∷ js) =
      all_append (λ g. leb (min n own_levels) g.key) (segments_at (remaining n a) j) (segments_in (remaining n a) js) ∙ and_both (keys-at j) (keys_in js)

  -- S, CN or a DD is there
  some_in : identified a ≡ true → non_empty (segments_in (remaining n a) order) ≡ true
  unfolding identified is_single times one remaining
  some_in h =
      let b = remaining n a in
      or_cases (non_empty (single_of a S) || non_empty (single_of a CN)) (non_empty a.dds) h
      (λ f. or_cases (non_empty (single_of a S)) (non_empty (single_of a CN)) f
      (λ e. some-values S (segments_in b order) (rw (single_in b S refl, single_left n a S (omega arith), e)))
      (λ e. some-values CN (segments_in b order) (rw (single_in b CN refl, single_left n a CN (omega arith), e))))
      (λ e. some-dds (segments_in b order) (rw (dds_in b) e))

-- ---- the theorems

-- Reading what was written for a canonical record, any number of its leading levels left out, gives back its remaining
-- attributes, value for value and byte for byte, save that a DD type that a short key spells has the key's spelling.
module _ (ks : Keys) (good : good_keys ks ≡ true) (n : ℕ) (a : Attributes) (c : canonical a ≡ true) where
  record_read : read_segments ks (record_text ks (remaining n a)) ≡ some (map (spelled ks) (segments_in (remaining n a) order))
  unfolding record_text all
  record_read =
      read-segments ks good (segments_in (remaining n a) order)
      (some_in n a (canonical-parts a c).named)
      (writable_in (remaining n a) (remaining_printable n a (canonical_printable a c)) order refl)

  -- no level that was left out is named
  pub written-keys : (gs : List Segment) → read_segments ks (record_text ks (remaining n a)) ≡ some gs → named_again n gs ≡ false
  unfolding named_again spelled_attributes remaining
  written-keys gs e =
      let r = record_read in
      let q : gs ≡ map (spelled ks) (segments_in (remaining n a) order) = cc in
      rw (q, spelled_in ks (remaining n a) order, keys_in n (spelled_attributes ks a) order)

  module _ (l : length a.single ≡ single_count) where
    pub written_back : let b = remaining n a in (gs : List Segment) × (read_segments ks (record_text ks b) ≡ some gs) × (named gs ≡ some (spelled_attributes ks b))
    written_back = (map (spelled ks) (segments_in (remaining n a) order), record_read, named-written ks (remaining n a) (remaining-length n a l))

    -- read over a record that has the levels left out, it adds what was left of the record
    pub text-back : (r : Record) → read_text ks n r (record_text ks (remaining n a)) ≡ add_named r (some (spelled_attributes ks (remaining n a)))
    unfolding read_text applied
    text-back r =
        let w = written_back in
        rw (w.1, written-keys w.0 w.1, w.2)
