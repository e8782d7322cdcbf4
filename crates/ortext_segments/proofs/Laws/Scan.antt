-- Laws of a segment read by places: what is left of a text from a place on reads as the code says.
-- Assumes nothing.
use mathlib.Core.Path.{◌≡◌, refl, sym, ap, ◌∙◌}
use mathlib.Core.Bool.{true, false, ◌&&◌, cond, and-false}
use mathlib.Core.List.{List, [], ◌∷◌, ◌++◌, append-nil}
use mathlib.Core.Option.{none, some}
use Prim.Native.Nat.{ℕ, zero, suc, ◌+◌, ◌*◌, ◌-◌, ◌≤◌, ◌<◌}
use native.Mathlib.Nat.{add-zero}
use native.Mathlib.Numerals.{add-one}
use native.Mathlib.Omega.{arith}
use borrow.Author.Tests.{eqb-true, eq-eqb, ne_eqb, ltb-true, ltb-false}
use lib.Dec.{eqb, ltb}
use lib.ListN.{length, take, drop, get_or, length-drop, drop_of_length-le, take-append-drop}
use lib.Seq.{append_snoc, drop-cons, drop-drop, get_or-drop}
use Rattle.std.specs.Prelude.{Option, None, Some}
use Rattle.chars.proofs.Laws.Seq.{byte_inside}
use Rattle.chars.specs.Lists.{all, bytes, member, non_empty}
use Rattle.chars.specs.Class.{is_label_char, is_printable, is_letter, is_digit, between}
use Rattle.chars.proofs.Laws.Lists.{all_drop, and_both, by_test, true_not_false}
use Rattle.chars.proofs.Laws.Class.{label-below}
use Rattle.ortext_segments.specs.Keys.{keys, key_count, key_number, dd_key, short_keys}
use Rattle.ortext_segments.specs.Segments.{key_run, mark, plain_key, plain_text, read_rest, segment_of, symbols, unknown}
use Rattle.ortext_segments.specs.Scan.{Segmenting, found_segment, further, kind_from, kind_text, kind_up_to, span_text, stop_run, value_from, value_up_to}
use Rattle.ortext_segments.specs.declared.scan.Span.{Span}
use Rattle.ortext_segments.proofs.Laws.Keys.{dot, equals, key-behind, key-clear, key_labels, key-run_le, none-run, run_none, slash}
use Rattle.ortext_segments.proofs.Laws.Segments.{Stopped, Stops, bad_slash, bad_twice, bytes_only, good-segment, is_stop, lead_bad, no_slash, prepend, prepend_prepend, segment_sides, slash_free, some-append, some-ends, stop_equals, stop_half, stop_never, stop_next, stop_slash, stopless, stopless_append, stops, symbols-key, symbols-plain}

-- ---- how far a type or a value goes

further-further : (m n : ℕ) (o : Option ℕ) → further m (further n o) ≡ further (m + n) o
unfolding further
further-further m n None = refl
further-further m n (Some k) = let e : m + (n + k) ≡ m + n + k = omega arith in rw e

-- at a stop, at a byte that is no `$`, and at a `$`
run_stop : (x : ℕ) (t : List ℕ) → is_stop x ≡ true → stop_run (x ∷ t) ≡ Some 0
unfolding stop_run
run_stop x [] e = rw e
run_stop x (y ∷ t) e = rw e

run-plain : (x : ℕ) (t : List ℕ) → is_stop x ≡ false → eqb x 36 ≡ false → stop_run (x ∷ t) ≡ further 1 (stop_run t)
unfolding stop_run further
run-plain x [] e f = rw e
run-plain x (y ∷ t) e f = rw (e, f)

run-quoted : (x : ℕ) (t : List ℕ) → is_stop x ≡ false → eqb x 36 ≡ true
    → stop_run (x ∷ t) ≡ cond (is_printable (get_or t 0 0)) (further 2 (stop_run (drop 1 t))) None
unfolding stop_run further is_printable is_letter is_digit between bytes member
run-quoted x [] e f = rw e
run-quoted x (y ∷ t) e f = rw (e, f)

-- the same of what is left of a text from a place on
module _ (s : List ℕ) (i : ℕ) where
  pub end_stop : i < length s → is_stop (get_or s i 0) ≡ true → further i (stop_run (drop i s)) ≡ Some i
  unfolding further
  end_stop h e = rw (drop-cons s i 0 h, run_stop (get_or s i 0) (drop (suc i) s) e, add-zero i)

  pub end-plain : i < length s → is_stop (get_or s i 0) ≡ false → eqb (get_or s i 0) 36 ≡ false
      → further i (stop_run (drop i s)) ≡ further (i + 1) (stop_run (drop (i + 1) s))
  end-plain h e f = rw (drop-cons s i 0 h, run-plain (get_or s i 0) (drop (suc i) s) e f, further-further i 1 (stop_run (drop (suc i) s)), add-one i)

  next_byte : get_or (drop (suc i) s) 0 0 ≡ get_or s (i + 1) 0
  next_byte = let e : suc i + 0 ≡ i + 1 = omega arith in get_or-drop (suc i) s 0 0 ∙ rw e

  next_but_one : drop 1 (drop (suc i) s) ≡ drop (i + 2) s
  next_but_one = let e : suc i + 1 ≡ i + 2 = omega arith in drop-drop 1 (suc i) s ∙ rw e

  pub end-quoted : i < length s → is_stop (get_or s i 0) ≡ false → eqb (get_or s i 0) 36 ≡ true → is_printable (get_or s (i + 1) 0) ≡ true
      → further i (stop_run (drop i s)) ≡ further (i + 2) (stop_run (drop (i + 2) s))
  end-quoted h e f g =
      rw (drop-cons s i 0 h, run-quoted (get_or s i 0) (drop (suc i) s) e f, next_byte, g, next_but_one)
      (further-further i 2 (stop_run (drop (i + 2) s)))

  pub end-unquoted : i < length s → is_stop (get_or s i 0) ≡ false → eqb (get_or s i 0) 36 ≡ true → is_printable (get_or s (i + 1) 0) ≡ false
      → further i (stop_run (drop i s)) ≡ None
  unfolding further
  end-unquoted h e f g = rw (drop-cons s i 0 h, run-quoted (get_or s i 0) (drop (suc i) s) e f, next_byte, g)

  pub end_none : length s ≤ i → further i (stop_run (drop i s)) ≡ None
  unfolding further stop_run
  end_none h = rw (drop_of_length-le s h)

-- where the end of a text lies, or that it has none, in what follows from v on
module _ (s : List ℕ) (v : ℕ) where
  no_end : further v (stop_run (drop v s)) ≡ None → stop_run (drop v s) ≡ None
  unfolding further
  no_end = go (stop_run (drop v s))
    where
      go : (r : Option ℕ) → further v r ≡ None → r ≡ None
      go None e = refl
      go (Some n) e = let z : ◌≡◌ {A = ℕ} 0 1 = cc in absurd (omega arith)

  pub end-place : (e : ℕ) → further v (stop_run (drop v s)) ≡ Some e → (v ≤ e) × (e < length s) × (stop_run (drop v s) ≡ Some (e - v))
  unfolding further Stops
  end-place e = go (stop_run (drop v s)) (stops (drop v s))
    where
      go : (r : Option ℕ) → Stops (drop v s) r → further v r ≡ Some e → (v ≤ e) × (e < length s) × (r ≡ Some (e - v))
      go None q h = let z : ◌≡◌ {A = ℕ} 0 1 = cc in absurd (omega arith)
      go (Some n) q h =
          let w : v + n ≡ e = cc in
          let m : n ≡ e - v = omega arith in
          (omega arith, omega (arith, q.inside, length-drop v s), ap Some m)

  -- what a value or a type is read as, at its end
  pub value_nowhere : (key : ℕ) (kind : Span) → further v (stop_run (drop v s)) ≡ None → value_from s key kind v ≡ None
  unfolding value_from value_up_to
  value_nowhere key kind h = rw (no_end h)

  pub value-at : (key : ℕ) (kind : Span) (e : ℕ) → further v (stop_run (drop v s)) ≡ Some e
      → value_from s key kind v ≡ cond (eqb (get_or s e 0) 47) (Some (record { key = key; kind = kind; value = record { start = v; len = e - v }; next = e + 1 })) None
  unfolding value_from value_up_to
  value-at key kind e h =
      let p = end-place e h in
      let m : v + (e - v) ≡ e = omega (arith, p.0) in
      rw (p.2, m)

  pub kind_nowhere : further v (stop_run (drop v s)) ≡ None → kind_from s v ≡ None
  unfolding kind_from kind_up_to
  kind_nowhere h = rw (no_end h)

  pub kind_at : (e : ℕ) → further v (stop_run (drop v s)) ≡ Some e
      → kind_from s v ≡ cond (eqb (get_or s e 0) 61) (value_from s dd_key (record { start = v; len = e - v }) (e + 1)) None
  unfolding kind_from kind_up_to
  kind_at e h =
      let p = end-place e h in
      let m : v + (e - v) ≡ e = omega (arith, p.0) in
      rw (p.2, m)

-- a printable character is not 0
pub printable_some : (b : ℕ) → is_printable b ≡ true → 0 < b
unfolding is_printable is_letter is_digit between bytes member
printable_some zero h = true_not_false true refl (sym h)
printable_some (suc n) h = omega arith

some-take : (n : ℕ) (t : List ℕ) → 0 < n → n ≤ length t → non_empty (take n t) ≡ true
unfolding non_empty
some-take zero t h l = absurd (omega arith)
some-take (suc n) [] h l = absurd (omega arith)
some-take (suc n) (x ∷ t) h l = refl

-- what stands up to a stop begins with no label character where the text does not
marked-run : (u : List ℕ) (n : ℕ) (h : Stopped u n) → key_run u ≡ 0 → key_run h.marked ≡ 0
unfolding is_label_char is_letter is_digit between
marked-run u n h e = run_none h.marked (h.first is_label_char (λ b t. omega (arith, label-below b t)) refl (none-run u e))

-- the segment of a key with no dot, as the code finds it: of a short key the type has no place
plain-found : (s : List ℕ) (n : ℕ) (v : List ℕ)
    → plain_key keys n v ≡ record { key = (plain_key keys n []).key; kind = kind_text s (plain_key keys n []).key (record { start = 0; len = 0 }); value = v }
unfolding plain_key kind_text keys
plain-found s n v =
    by_test (eqb n dd_key)
    (λ e. rw e)
    (λ e. by_test (ltb n short_keys)
    (λ f. rw (e, f, e))
    (λ f. by_test (ltb n key_count)
    (λ g. let h : n ≡ short_keys = omega (arith, ltb-true n key_count g, ltb-false n short_keys f) in rw h)
    (λ g. rw (e, f, g))))

-- a key's number in a segment
plain-numbered : (n : ℕ) → (plain_key keys n []).key ≤ unknown
unfolding plain_key keys
plain-numbered n =
    by_test (eqb n dd_key)
    (λ e. rw e (omega arith))
    (λ e. by_test (ltb n short_keys)
    (λ f. rw (e, f) (omega (arith, ltb-true n short_keys f)))
    (λ f. by_test (ltb n key_count) (λ g. rw (e, f, g) (omega arith)) (λ g. rw (e, f, g) (omega arith))))

module _ (s : List ℕ) (from : ℕ) where
  -- the text behind a stop
  past_stop : (v n : ℕ) → drop (suc n) (drop v s) ≡ drop (v + n + 1) s
  past_stop v n = let e : v + suc n ≡ v + n + 1 = omega arith in rw (drop-drop (suc n) v s, e)

  -- what was read so far, a part up to its stop, and what stands behind the stop
  front_next : (f : List ℕ) (v n : ℕ) (q : Stopped (drop v s) n) (x : ℕ) → symbols (drop from s) ≡ prepend f (symbols (drop v s))
      → get_or s (v + n) 0 ≡ x → eqb x 36 ≡ false
      → symbols (drop from s) ≡ prepend (f ++ q.marked ++ x ∷ []) (symbols (drop (v + n + 1) s))
  front_next f v n q x e t d = e ∙ stop_next f (drop v s) n q x (get_or-drop v s n 0 ∙ t) d ∙ rw (past_stop v n)

  -- a segment whose left side a is read already, up to where its value starts
  value-reads : bytes_only s ≡ true → (v key : ℕ) (kind : Span) (a : List ℕ) → stopless a ≡ true
      → symbols (drop from s) ≡ prepend (a ++ 61 ∷ []) (symbols (drop v s))
      → ((w : List ℕ) → segment_of keys a w ≡ some (record { key = key; kind = kind_text s key kind; value = plain_text w }))
      → from < v → kind.start + kind.len < v → kind.len ≤ 2 * length (span_text s kind) → key ≤ unknown
      → Segmenting s from (value_from s key kind v)
  unfolding value_from value_up_to Segmenting Stops read_rest all span_text found_segment
  value-reads b v key kind a h e g l m y k = go (stop_run (drop v s)) (stops (drop v s))
    where
      front : (n : ℕ) (q : Stopped (drop v s) n) (x : ℕ) → get_or s (v + n) 0 ≡ x → eqb x 36 ≡ false
          → symbols (drop from s) ≡ prepend (a ++ 61 ∷ q.marked ++ x ∷ []) (symbols (drop (v + n + 1) s))
      front n q x t d = front_next (a ++ 61 ∷ []) v n q x e t d ∙ rw (append_snoc a 61 q.marked)

      go : (r : Option ℕ) → Stops (drop v s) r → Segmenting s from (value_up_to s key kind v r)
      go None q =
          rw e (stop_never keys (a ++ 61 ∷ []) (drop v s) (slash_free a [] h refl) (some-append (a ++ 61 ∷ []) (drop v s) (some-ends a 61)) q)
      go (Some n) q =
          by_test (eqb (get_or s (v + n) 0) 47)
          (λ t. rw t
          (record {
            reads = rw (front n q 47 (eqb-true (get_or s (v + n) 0) 47 t) refl, good-segment keys a q.marked h q.free (symbols (drop (v + n + 1) s)), g q.marked, q.text (all_drop (λ x. ltb x mark) v s b));
            moves = omega arith;
            inside = omega (arith, q.inside, length-drop v s);
            behind = omega arith;
            within = omega arith;
            half = stop_half (drop v s) n q;
            kind-within = omega arith;
            kind-half = y;
            numbered = k;
          }))
          (λ t. rw (t, front n q 61 (sym (get_or-drop v s n 0) ∙ stop_equals (drop v s) n q (rw (get_or-drop v s n 0) t)) refl)
          (bad_twice keys a q.marked h q.free (symbols (drop (v + n + 1) s))))

  -- a segment of a DD that is read already up to where its type starts
  kind-reads : bytes_only s ≡ true → (k : ℕ) (f : List ℕ) → stopless f ≡ true → non_empty f ≡ true
      → symbols (drop from s) ≡ prepend f (symbols (drop k s))
      → ((m w : List ℕ) → segment_of keys (f ++ m) w ≡ some (record { key = dd_key; kind = plain_text m; value = plain_text w }))
      → from < k
      → Segmenting s from (kind_from s k)
  unfolding kind_from kind_up_to Segmenting Stops read_rest all kind_text span_text
  kind-reads b k f h z e g l = go (stop_run (drop k s)) (stops (drop k s))
    where
      go : (r : Option ℕ) → Stops (drop k s) r → Segmenting s from (kind_up_to s k r)
      go None q = rw e (stop_never keys f (drop k s) (no_slash f h) (some-append f (drop k s) z) q)
      go (Some n) q =
          by_test (eqb (get_or s (k + n) 0) 61)
          (λ t. rw t
          (value-reads b (k + n + 1) dd_key (record { start = k; len = n }) (f ++ q.marked)
          (stopless_append f q.marked h q.free)
          (front_next f k n q 61 e (eqb-true (get_or s (k + n) 0) 61 t) refl)
          (λ w. g q.marked w ∙ rw (q.text (all_drop (λ x. ltb x mark) k s b), ne_eqb k 0 (λ r. omega arith)))
          (omega arith) (omega arith) (stop_half (drop k s) n q) (omega arith)))
          (λ t. rw (t, front_next f k n q 47 e (sym (get_or-drop k s n 0) ∙ stop_slash (drop k s) n q (rw (get_or-drop k s n 0) t)) refl)
          (bad_slash keys (f ++ q.marked) (stopless_append f q.marked h q.free) (symbols (drop (k + n + 1) s))))

  -- ---- the key that starts there, and ends at e

  module _ (e : ℕ) (q : e ≡ from + key_run (drop from s)) (key : List ℕ) (r : key ≡ take (key_run (drop from s)) (drop from s)) where
    key-text : drop from s ≡ key ++ drop e s
    key-text = sym (take-append-drop (key_run (drop from s)) (drop from s)) ∙ rw (r, q, drop-drop (key_run (drop from s)) from s)

    key-all : all is_label_char key ≡ true
    key-all = rw r (key_labels (drop from s))

    key-free : stopless key ≡ true
    unfolding all
    key-free = and_both (key-clear 47 slash key key-all) (key-clear 61 equals key key-all)

    key-symbols : symbols (drop from s) ≡ prepend key (symbols (drop e s))
    key-symbols = ap symbols key-text ∙ symbols-key key (drop e s) key-all

    behind-run : key_run (drop e s) ≡ 0
    behind-run = rw (q, sym (drop-drop (key_run (drop from s)) from s)) (key-behind (drop from s))

    -- the key, the byte behind it, and the rest
    key_next : (x : ℕ) → get_or s e 0 ≡ x → eqb x 36 ≡ false → e < length s
        → symbols (drop from s) ≡ prepend (key ++ x ∷ []) (symbols (drop (e + 1) s))
    key_next x t d l =
        key-symbols ∙ rw (add-one e, drop-cons s e 0 l, t, symbols-plain x (drop (suc e) s) d) (prepend_prepend key (x ∷ []) (symbols (drop (suc e) s)))

    key-some : (e ≡ from → ⊥) → non_empty key ≡ true
    key-some h = rw r (some-take (key_run (drop from s)) (drop from s) (omega arith) (key-run_le (drop from s)))

    -- no key
    pub key_missing : e ≡ from → from < length s → read_rest keys (drop from s) ≡ none
    unfolding read_rest non_empty
    key_missing h l =
        let n : key_run (drop from s) ≡ 0 = omega arith in
        let z : key ≡ [] = r ∙ rw n in
        rw key-symbols
        (lead_bad keys key (drop e s) key-free (rw (← key-text, drop-cons s from 0 l))
        (λ n g t w. segment_sides keys key g.marked w key-all (marked-run (drop e s) n g behind-run) ∙ rw z))

    -- a key, and behind it neither an equals sign nor, for a DD, a dot
    pub key-bad : (get_or s e 0 ≡ 61 → ⊥) → (eqb (get_or s e 0) 46 && eqb (key_number keys key) dd_key) ≡ false → (e ≡ from → ⊥)
        → read_rest keys (drop from s) ≡ none
    unfolding read_rest
    key-bad h d k =
        rw key-symbols
        (lead_bad keys key (drop e s) key-free (some-append key (drop e s) (key-some k))
        (λ n g t w.
        segment_sides keys key g.marked w key-all (marked-run (drop e s) n g behind-run)
        ∙ rw (key-some k, g.kept (later n t), dotted n g)))
      where
        at-end : get_or (drop e s) 0 0 ≡ get_or s e 0
        at-end = get_or-drop e s 0 0 ∙ rw (add-zero e)

        later : (n : ℕ) → get_or (drop e s) n 0 ≡ 61 → 0 < n
        later zero t = absurd (h (sym at-end ∙ t))
        later (suc n) t = omega arith

        dotted : (n : ℕ) (g : Stopped (drop e s) n) → (eqb (get_or g.marked 0 0) 46 && eqb (key_number keys key) dd_key) ≡ false
        dotted n g =
            by_test (eqb (get_or s e 0) 46)
            (λ t. rw ((rw t at d), and-false))
            (λ t. rw (g.first (λ x. eqb x 46) (λ x f. omega (arith, eqb-true x 46 f)) refl (rw at-end t)))

    -- a key and an equals sign
    pub key-plain : bytes_only s ≡ true → get_or s e 0 ≡ 61 → (e ≡ from → ⊥)
        → Segmenting s from (value_from s (plain_key keys (key_number keys key) []).key (record { start = 0; len = 0 }) (e + 1))
    unfolding non_empty key_run
    key-plain b t k =
        value-reads b (e + 1) (plain_key keys (key_number keys key) []).key (record { start = 0; len = 0 }) key key-free
        (key_next 61 t refl (byte_inside s e (omega arith)))
        (λ w. ap (λ (a : List ℕ). segment_of keys a w) (sym (append-nil key)) ∙ segment_sides keys key [] w key-all refl
        ∙ rw (key-some k) (ap some (plain-found s (key_number keys key) (plain_text w))))
        (omega arith) (omega arith) (omega arith) (plain-numbered (key_number keys key))

    -- DD, a dot and a type
    pub key_typed : bytes_only s ≡ true → get_or s e 0 ≡ 46 → key_number keys key ≡ dd_key → (e ≡ from → ⊥) → Segmenting s from (kind_from s (e + 1))
    unfolding non_empty key_run all
    key_typed b t d k =
        kind-reads b (e + 1) (key ++ 46 ∷ []) (stopless_append key (46 ∷ []) key-free refl) (some-ends key 46)
        (key_next 46 t refl (byte_inside s e (omega arith)))
        (λ m w. rw (append_snoc key 46 m) (segment_sides keys key (46 ∷ m) w key-all (run_none (46 ∷ m) dot) ∙ rw (key-some k, eq-eqb (key_number keys key) dd_key d)))
        (omega arith)
