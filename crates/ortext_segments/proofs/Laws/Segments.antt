-- Laws of record text read by places: what stands up to a stop, and what a text reads as.
-- Assumes nothing.
use mathlib.Core.Path.{◌≡◌, refl, sym, ap, ◌∙◌}
use mathlib.Core.Bool.{Bool, true, false, not, ◌&&◌, ◌||◌, cond}
use mathlib.Core.List.{List, [], ◌∷◌, ◌++◌, tail, append_assoc}
use mathlib.Core.Option.{Option, none, some}
use Rattle.std.specs.Prelude as std
use Rattle.std.specs.Prelude.{None, Some}
use mathlib.Core.Logic.{◌⊎◌, inl, inr}
use Prim.Native.Nat.{ℕ, suc, ◌+◌, ◌*◌, ◌≤◌, ◌<◌}
use native.Mathlib.Omega.{arith}
use borrow.Author.Tests.{eqb-true, eqb-false, ne_eqb, le-ltb}
use lib.Dec.{eqb, ltb}
use lib.ListN.{length, take, drop, get_or}
use lib.Seq.{append_snoc, drop-cons, length-take-le, take_at, drop_at}
use Rattle.chars.specs.Lists.{all, non_empty}
use Rattle.chars.specs.Class.{is_label_char, is_printable}
use Rattle.chars.specs.Parts.{before, join, split}
use Rattle.chars.proofs.Laws.Lists.{all_append, and_both, and_left, and_right, by_test, or_cases, true_not_false}
use Rattle.chars.proofs.Laws.Parts.{clear, join-split, split-at_sep, split_one, split-some}
use Rattle.ortext_segments.specs.Keys.{Keys, key_number, dd_key}
use Rattle.ortext_segments.specs.Segments.{Segment, ahead, both_sides, closed, closed_marked, in_slashes, key_run, mark, onto, plain, plain_key, plain_text, read_marked, read_rest, read_segments, segment, segment_of, symbols, unquoted}
use Rattle.ortext_segments.specs.Scan.{further, stop_run}
use Rattle.ortext_segments.proofs.Laws.Keys.{dollar, key-append}

-- ---- symbols

-- characters in front of what was read, if it was
unfoldable pub prepend : List ℕ → Option (List ℕ) → Option (List ℕ)
prepend m none = none
prepend m (some s) = some (m ++ s)

pub prepend_prepend : (a b : List ℕ) (o : Option (List ℕ)) → prepend a (prepend b o) ≡ prepend (a ++ b) o
unfolding prepend
prepend_prepend a b none = refl
prepend_prepend a b (some s) = ap some (sym (append_assoc a b s))

pub prepend_nil : (o : Option (List ℕ)) → prepend [] o ≡ o
unfolding prepend
prepend_nil none = refl
prepend_nil (some s) = refl

onto_prepend : (b : ℕ) (o : Option (List ℕ)) → onto b o ≡ prepend (b ∷ []) o
unfolding prepend onto
onto_prepend b none = refl
onto_prepend b (some s) = refl

none-some : {X : Type 0} {m : List ℕ} → ◌≡◌ {A = Option (List ℕ)} none (some m) → X
none-some e = let z : ◌≡◌ {A = ℕ} 0 1 = cc in absurd (omega arith)

-- what was read behind the first character
onto-some : (b : ℕ) (o : Option (List ℕ)) (m : List ℕ) → onto b o ≡ some m → o ≡ some (tail m)
unfolding onto
onto-some b none m h = none-some h
onto-some b (some s) m h = let e : b ∷ s ≡ m = cc in ap (λ (l : List ℕ). some (tail l)) e

onto-more : (b : ℕ) (o : Option (List ℕ)) (m : List ℕ) → onto b o ≡ some m → non_empty m ≡ true
unfolding onto non_empty
onto-more b none m h = none-some h
onto-more b (some s) m h = let e : b ∷ s ≡ m = cc in ap non_empty (sym e)

-- of a text that is not empty something is read
symbols-some : (x : ℕ) (s m : List ℕ) → symbols (x ∷ s) ≡ some m → non_empty m ≡ true
unfolding symbols non_empty
symbols-some x [] m h =
    by_test (eqb x 36)
    (λ e. none-some (rw e at h))
    (λ e. let f : some (x ∷ []) ≡ some m = rw e at h in let g : x ∷ [] ≡ m = cc in ap non_empty (sym g))
symbols-some x (y ∷ s) m h =
    by_test (eqb x 36)
    (λ e. by_test (is_printable y)
    (λ f. onto-more (y + mark) (symbols s) m (rw (e, f) at h))
    (λ f. none-some (rw (e, f) at h)))
    (λ e. onto-more x (symbols (y ∷ s)) m (rw e at h))

-- one character that is no `$`, and one that is quoted
pub symbols-plain : (x : ℕ) (s : List ℕ) → eqb x 36 ≡ false → symbols (x ∷ s) ≡ prepend (x ∷ []) (symbols s)
unfolding symbols onto prepend
symbols-plain x [] e = rw e
symbols-plain x (y ∷ s) e = rw e (onto_prepend x (symbols (y ∷ s)))

pub symbols-quoted : (x y : ℕ) (s : List ℕ) → eqb x 36 ≡ true → is_printable y ≡ true
    → symbols (x ∷ y ∷ s) ≡ prepend ((y + mark) ∷ []) (symbols s)
unfolding symbols
symbols-quoted x y s e f = rw (e, f) (onto_prepend (y + mark) (symbols s))

unquoted-plain : (x : ℕ) (s : List ℕ) → eqb x 36 ≡ false → unquoted (x ∷ s) ≡ x ∷ unquoted s
unfolding unquoted
unquoted-plain x [] e = rw e
unquoted-plain x (y ∷ s) e = rw e

-- a text that begins with a key
pub symbols-key : (p s : List ℕ) → all is_label_char p ≡ true → symbols (p ++ s) ≡ prepend p (symbols s)
unfolding all
symbols-key [] s h = sym (prepend_nil (symbols s))
symbols-key (x ∷ p) s h =
    symbols-plain x (p ++ s) (ne_eqb x 36 (λ r. true_not_false (is_label_char x) (and_left (is_label_char x) (all is_label_char p) h) (ap is_label_char r ∙ dollar)))
    ∙ rw (symbols-key p s (and_right (is_label_char x) (all is_label_char p) h)) (prepend_prepend (x ∷ []) p (symbols s))

-- ---- up to a stop

-- a byte, so that no mark is on it
abbrev pub bytes_only : List ℕ → Bool
unfolding all
bytes_only t = all (λ x. ltb x mark) t

abbrev pub is_stop : ℕ → Bool
is_stop x = eqb x 47 || eqb x 61

-- no stop stands in marked text that is not quoted
abbrev pub stopless : List ℕ → Bool
unfolding all
stopless m = clear 47 m && clear 61 m

pub no_slash : (m : List ℕ) → stopless m ≡ true → clear 47 m ≡ true
unfolding all
no_slash m h = and_left (clear 47 m) (clear 61 m) h

no_equals : (m : List ℕ) → stopless m ≡ true → clear 61 m ≡ true
unfolding all
no_equals m h = and_right (clear 47 m) (clear 61 m) h

-- What stands before the first stop, the nth byte of t: what it is with the marks, and with the quoting taken off.
pub record Stopped (t : List ℕ) (n : ℕ) : Type 0 where
  pub marked : List ℕ
  pub free : stopless marked ≡ true
  pub front : symbols (take n t) ≡ some marked
  pub reads : symbols t ≡ prepend marked (symbols (drop n t))
  pub text : bytes_only t ≡ true → plain_text marked ≡ unquoted (take n t)
  pub inside : n < length t
  pub stop : is_stop (get_or t n 0) ≡ true
  pub kept : 0 < n → non_empty marked ≡ true
  -- it begins as t does, or with a quoted character: a test of plain characters that fails at t's first fails at its first
  pub first : (p : ℕ → Bool) → ((b : ℕ) → p b ≡ true → b < mark) → p 0 ≡ false → p (get_or t 0 0) ≡ false → p (get_or marked 0 0) ≡ false

-- A text that has no stop, and reads.
pub record Unstopped (t : List ℕ) : Type 0 where
  pub marked : List ℕ
  pub free : stopless marked ≡ true
  pub reads : symbols t ≡ some marked

-- where a text stops; one that does not stop reads with no stop, or not at all
unfoldable pub Stops : List ℕ → std.Option ℕ → Type 0
Stops t (Some n) = Stopped t n
Stops t None = (symbols t ≡ none) ⊎ Unstopped t

pub stopless_append : (a b : List ℕ) → stopless a ≡ true → stopless b ≡ true → stopless (a ++ b) ≡ true
unfolding all
stopless_append a b h k =
    and_both
    (all_append (λ x. not (eqb x 47)) a b ∙ and_both (no_slash a h) (no_slash b k))
    (all_append (λ x. not (eqb x 61)) a b ∙ and_both (no_equals a h) (no_equals b k))

pub stopless_one : (x : ℕ) → is_stop x ≡ false → stopless (x ∷ []) ≡ true
unfolding all
stopless_one x e =
    by_test (eqb x 47)
    (λ f. true_not_false true refl (rw f at e))
    (λ f. rw (f, rw f at e))

pub quoted-free : (y : ℕ) → is_stop (y + mark) ≡ false
quoted-free y = rw (ne_eqb (y + mark) 47 (λ r. omega arith), ne_eqb (y + mark) 61 (λ r. omega arith))

stop_here : (x : ℕ) (s : List ℕ) → is_stop x ≡ true → Stops (x ∷ s) (Some 0)
unfolding Stops symbols plain_text unquoted all non_empty
stop_here x s e =
    record {
      marked = [];
      free = refl;
      front = refl;
      reads = sym (prepend_nil (symbols (x ∷ s)));
      text = λ _. refl;
      inside = omega arith;
      stop = e;
      kept = λ h. absurd (omega arith);
      first = λ p f z g. z;
    }

pub plain_byte : (x : ℕ) → ltb x mark ≡ true → plain x ≡ x
unfolding plain
plain_byte x e = rw e

pub plain-quoted : (y : ℕ) → plain (y + mark) ≡ y
unfolding plain
plain-quoted y = rw (le-ltb (y + mark) mark (omega arith)) (omega arith)

one_plus : (n : ℕ) → 1 + n ≡ suc n
one_plus n = omega arith

two_plus : (n : ℕ) → 2 + n ≡ suc (suc n)
two_plus n = omega arith

-- one character more in front, as it is or quoted: what it is with the marks goes before the rest
stop_plain : (x : ℕ) (s : List ℕ) → is_stop x ≡ false → eqb x 36 ≡ false → (r : std.Option ℕ) → Stops s r → Stops (x ∷ s) (further 1 r)
unfolding Stops further prepend plain_text all non_empty
stop_plain x s e f None (inl h) = inl (rw (symbols-plain x s f, h))
stop_plain x s e f None (inr h) =
    inr (record {
      marked = x ∷ h.marked;
      free = stopless_append (x ∷ []) h.marked (stopless_one x e) h.free;
      reads = rw (symbols-plain x s f, h.reads);
    })
stop_plain x s e f (Some n) h =
    rw (one_plus n)
    (record {
      marked = x ∷ h.marked;
      free = stopless_append (x ∷ []) h.marked (stopless_one x e) h.free;
      front = rw (symbols-plain x (take n s) f, h.front);
      reads = rw (symbols-plain x s f, h.reads) (prepend_prepend (x ∷ []) h.marked (symbols (drop n s)));
      text = λ b.
          rw (plain_byte x (and_left (ltb x mark) (bytes_only s) b), h.text (and_right (ltb x mark) (bytes_only s) b))
          (sym (unquoted-plain x (take n s) f));
      inside = omega (arith, h.inside);
      stop = h.stop;
      kept = λ _. refl;
      first = λ p l z g. g;
    })

stop_quoted : (x y : ℕ) (s : List ℕ) → eqb x 36 ≡ true → is_printable y ≡ true → (r : std.Option ℕ) → Stops s r → Stops (x ∷ y ∷ s) (further 2 r)
unfolding Stops further prepend plain_text unquoted all non_empty
stop_quoted x y s e f None (inl h) = inl (rw (symbols-quoted x y s e f, h))
stop_quoted x y s e f None (inr h) =
    inr (record {
      marked = (y + mark) ∷ h.marked;
      free = stopless_append ((y + mark) ∷ []) h.marked (stopless_one (y + mark) (quoted-free y)) h.free;
      reads = rw (symbols-quoted x y s e f, h.reads);
    })
stop_quoted x y s e f (Some n) h =
    rw (two_plus n)
    (record {
      marked = (y + mark) ∷ h.marked;
      free = stopless_append ((y + mark) ∷ []) h.marked (stopless_one (y + mark) (quoted-free y)) h.free;
      front = rw (symbols-quoted x y (take n s) e f, h.front);
      reads = rw (symbols-quoted x y s e f, h.reads) (prepend_prepend ((y + mark) ∷ []) h.marked (symbols (drop n s)));
      text = λ b.
          rw (e, plain-quoted y, h.text (and_right (ltb y mark) (bytes_only s) (and_right (ltb x mark) (bytes_only (y ∷ s)) b)));
      inside = omega (arith, h.inside);
      stop = h.stop;
      kept = λ _. refl;
      first = λ p l z g. by_test (p (y + mark)) (λ t. absurd (omega (arith, l (y + mark) t))) (λ t. t);
    })

-- what stands up to the stop that `stop_run` finds
pub stops : (t : List ℕ) → Stops t (stop_run t)
unfolding stop_run Stops symbols all non_empty
stops [] = inr (record { marked = []; free = refl; reads = refl })
stops (x ∷ []) =
    by_test (is_stop x)
    (λ e. rw e (stop_here x [] e))
    (λ e. by_test (eqb x 36)
    (λ f. rw e (inl (rw f)))
    (λ f. rw e (stop_plain x [] e f None (inr (record { marked = []; free = refl; reads = refl })))))
stops (x ∷ y ∷ s) =
    by_test (is_stop x)
    (λ e. rw e (stop_here x (y ∷ s) e))
    (λ e. by_test (eqb x 36)
    (λ f. by_test (is_printable y)
    (λ g. rw (e, f, g) (stop_quoted x y s f g (stop_run s) (stops s)))
    (λ g. rw (e, f, g) (inl (rw (f, g)))))
    (λ f. rw (e, f) (stop_plain x (y ∷ s) e f (stop_run (y ∷ s)) (stops (y ∷ s)))))

-- ---- marked text

-- a text that has a separator, or none
data Cut (sep : ℕ) : List ℕ → Type 0 where
  whole : (p : List ℕ) → clear sep p ≡ true → Cut sep p
  parted : (p r : List ℕ) → clear sep p ≡ true → Cut sep (p ++ sep ∷ r)

cut_more : (sep x : ℕ) (s : List ℕ) → eqb x sep ≡ false → Cut sep s → Cut sep (x ∷ s)
unfolding all
cut_more sep x s e (whole p h) = whole (x ∷ p) (rw e h)
cut_more sep x s e (parted p r h) = parted (x ∷ p) r (rw e h)

cut : (sep : ℕ) (s : List ℕ) → Cut sep s
unfolding all
cut sep [] = whole [] refl
cut sep (x ∷ s) =
    by_test (eqb x sep)
    (λ e. rw (eqb-true x sep e) (parted [] s refl))
    (λ e. cut_more sep x s e (cut sep s))

pub some-append : (f r : List ℕ) → non_empty f ≡ true → non_empty (f ++ r) ≡ true
unfolding non_empty
some-append [] r e = true_not_false true refl (sym e)
some-append (x ∷ f) r e = refl

pub some-ends : (a : List ℕ) (x : ℕ) → non_empty (a ++ x ∷ []) ≡ true
unfolding non_empty
some-ends [] x = refl
some-ends (y ∷ a) x = refl

pub slash_free : (a b : List ℕ) → stopless a ≡ true → clear 47 b ≡ true → clear 47 (a ++ 61 ∷ b) ≡ true
unfolding all
slash_free a b h k = all_append (λ x. not (eqb x 47)) a (61 ∷ b) ∙ and_both (no_slash a h) k

-- a front, and what comes up to a stop: the text goes on behind the stop
pub stop_next : (f u : List ℕ) (n : ℕ) (h : Stopped u n) (x : ℕ) → get_or u n 0 ≡ x → eqb x 36 ≡ false
    → prepend f (symbols u) ≡ prepend (f ++ h.marked ++ x ∷ []) (symbols (drop (suc n) u))
stop_next f u n h x e d =
    rw (h.reads, drop-cons u n 0 h.inside, e, symbols-plain x (drop (suc n) u) d, prepend_prepend h.marked (x ∷ []) (symbols (drop (suc n) u)), prepend_prepend f (h.marked ++ x ∷ []) (symbols (drop (suc n) u)), append_assoc f h.marked (x ∷ []))

some_as : (f u m : List ℕ) → symbols u ≡ some m → non_empty (f ++ u) ≡ true → non_empty (f ++ m) ≡ true
unfolding non_empty
some_as [] [] m q e = true_not_false true refl (sym e)
some_as [] (x ∷ u) m q e = symbols-some x u m q
some_as (x ∷ f) u m q e = refl

-- a stop that is no slash is an equals sign
pub stop_equals : (u : List ℕ) (n : ℕ) → Stopped u n → eqb (get_or u n 0) 47 ≡ false → get_or u n 0 ≡ 61
stop_equals u n h e = let g = h.stop in eqb-true (get_or u n 0) 61 (rw e at g)

pub stop_slash : (u : List ℕ) (n : ℕ) → Stopped u n → eqb (get_or u n 0) 61 ≡ false → get_or u n 0 ≡ 47
stop_slash u n h e =
    or_cases (eqb (get_or u n 0) 47) (eqb (get_or u n 0) 61) h.stop (λ f. eqb-true (get_or u n 0) 47 f) (λ f. true_not_false true refl (sym f ∙ e))

module _ (ks : Keys) where
  ahead_none : (g : Option Segment) → ahead g none ≡ none
  unfolding ahead
  ahead_none none = refl
  ahead_none (some g) = refl

  closed-more : (p : List ℕ) (ps : List (List ℕ)) → non_empty ps ≡ true → closed ks (p ∷ ps) ≡ ahead (segment ks p) (closed ks ps)
  unfolding closed non_empty
  closed-more p [] h = true_not_false true refl (sym h)
  closed-more p (q ∷ ps) h = refl

  -- a part up to a slash, and one with no slash behind it
  closed_slash : (p r : List ℕ) → clear 47 p ≡ true → closed ks (split 47 (p ++ 47 ∷ r)) ≡ ahead (segment ks p) (closed ks (split 47 r))
  closed_slash p r h = rw (split-at_sep 47 p r h) (closed-more p (split 47 r) (split-some 47 r))

  closed-end : (p : List ℕ) → clear 47 p ≡ true → non_empty p ≡ true → closed ks (split 47 p) ≡ none
  unfolding closed
  closed-end p h e = rw (split_one 47 p h, e)

  -- a front that makes no segment, whatever follows in its part
  bad-front : (f : List ℕ) → clear 47 f ≡ true → non_empty f ≡ true → ((p : List ℕ) → segment ks (f ++ p) ≡ none)
      → (o : Option (List ℕ)) → closed_marked ks (prepend f o) ≡ none
  unfolding closed_marked prepend all ahead
  bad-front f h e g none = refl
  bad-front f h e g (some r) = behind r (cut 47 r)
    where
      joined : (p : List ℕ) → clear 47 p ≡ true → clear 47 (f ++ p) ≡ true
      joined p k = all_append (λ x. not (eqb x 47)) f p ∙ and_both h k

      behind : (r : List ℕ) → Cut 47 r → closed ks (split 47 (f ++ r)) ≡ none
      behind r (whole p k) = closed-end (f ++ p) (joined p k) (some-append f p e)
      behind r (parted p q k) = rw (sym (append_assoc f p (47 ∷ q)), closed_slash (f ++ p) q (joined p k), g p)

  segment_equals : (a p : List ℕ) → clear 61 a ≡ true → segment ks (a ++ 61 ∷ p) ≡ both_sides ks (a ∷ split 61 p)
  unfolding segment
  segment_equals a p h = rw (split-at_sep 61 a p h)

  -- no segment: with no equals sign, with a left side that is no key, with two equals signs
  segment-none : (p : List ℕ) → clear 61 p ≡ true → segment ks p ≡ none
  unfolding segment both_sides
  segment-none p h = rw (split_one 61 p h)

  sides_none : (a : List ℕ) (ps : List (List ℕ)) → ((v : List ℕ) → segment_of ks a v ≡ none) → both_sides ks (a ∷ ps) ≡ none
  unfolding both_sides
  sides_none a [] h = refl
  sides_none a (v ∷ []) h = h v
  sides_none a (v ∷ w ∷ ps) h = refl

  sides_more : (a v : List ℕ) (ps : List (List ℕ)) → non_empty ps ≡ true → both_sides ks (a ∷ v ∷ ps) ≡ none
  unfolding both_sides non_empty
  sides_more a v [] h = true_not_false true refl (sym h)
  sides_more a v (w ∷ ps) h = refl

  -- a left side that is no key, and a second equals sign
  pub bad_left : (a : List ℕ) → stopless a ≡ true → ((v : List ℕ) → segment_of ks a v ≡ none)
      → (o : Option (List ℕ)) → closed_marked ks (prepend (a ++ 61 ∷ []) o) ≡ none
  unfolding all
  bad_left a h g o =
      bad-front (a ++ 61 ∷ []) (slash_free a [] h refl) (some-ends a 61)
      (λ p. rw (append_snoc a 61 p, segment_equals a p (no_equals a h)) (sides_none a (split 61 p) g))
      o

  pub bad_twice : (a v : List ℕ) → stopless a ≡ true → stopless v ≡ true
      → (o : Option (List ℕ)) → closed_marked ks (prepend (a ++ 61 ∷ v ++ 61 ∷ []) o) ≡ none
  unfolding all
  bad_twice a v h k o =
      bad-front (a ++ 61 ∷ v ++ 61 ∷ [])
      (rw (append_assoc a (61 ∷ v) (61 ∷ [])) (slash_free a (v ++ 61 ∷ []) h (slash_free v [] k refl)))
      (some-ends (a ++ 61 ∷ v) 61)
      (λ p. rw (append_snoc (a ++ 61 ∷ v) 61 p, append_assoc a (61 ∷ v) (61 ∷ p), segment_equals a (v ++ 61 ∷ p) (no_equals a h), split-at_sep 61 v p (no_equals v k))
      (sides_more a v (split 61 p) (split-some 61 p)))
      o

  -- a part up to a slash that has no equals sign
  pub bad_slash : (a : List ℕ) → stopless a ≡ true → (o : Option (List ℕ)) → closed_marked ks (prepend (a ++ 47 ∷ []) o) ≡ none
  unfolding closed_marked prepend ahead
  bad_slash a h none = refl
  bad_slash a h (some r) =
      rw (append_snoc a 47 r, closed_slash a r (no_slash a h), segment-none a (no_equals a h))

  -- a segment up to its slash
  pub good-segment : (a v : List ℕ) → stopless a ≡ true → stopless v ≡ true
      → (o : Option (List ℕ)) → closed_marked ks (prepend (a ++ 61 ∷ v ++ 47 ∷ []) o) ≡ ahead (segment_of ks a v) (closed_marked ks o)
  unfolding closed_marked prepend both_sides
  good-segment a v h k none = sym (ahead_none (segment_of ks a v))
  good-segment a v h k (some r) =
      rw (append_snoc (a ++ 61 ∷ v) 47 r, closed_slash (a ++ 61 ∷ v) r (slash_free a v h (no_slash v k)), segment_equals a v (no_equals a h), split_one 61 v (no_equals v k))

  -- ---- the stop of a part of the text, with what was read before it in front

  -- with no stop behind it, a front that has no slash reads as nothing
  pub stop_never : (f u : List ℕ) → clear 47 f ≡ true → non_empty (f ++ u) ≡ true → Stops u None → closed_marked ks (prepend f (symbols u)) ≡ none
  unfolding Stops closed_marked prepend all
  stop_never f u h e (inl q) = rw q
  stop_never f u h e (inr q) =
      rw q.reads
      (closed-end (f ++ q.marked)
      (all_append (λ x. not (eqb x 47)) f q.marked ∙ and_both h (no_slash q.marked q.free))
      (some_as f u q.marked q.reads e))

  -- what begins with a front f and goes on with u is no text, where what stands up to an equals sign is no key
  pub lead_bad : (f u : List ℕ) → stopless f ≡ true → non_empty (f ++ u) ≡ true
      → ((n : ℕ) (h : Stopped u n) → get_or u n 0 ≡ 61 → (w : List ℕ) → segment_of ks (f ++ h.marked) w ≡ none)
      → closed_marked ks (prepend f (symbols u)) ≡ none
  unfolding Stops
  lead_bad f u h e g = go (stop_run u) (stops u)
    where
      go : (r : std.Option ℕ) → Stops u r → closed_marked ks (prepend f (symbols u)) ≡ none
      go None q = stop_never f u (no_slash f h) e q
      go (Some n) q =
          by_test (eqb (get_or u n 0) 47)
          (λ t. rw (stop_next f u n q 47 (eqb-true (get_or u n 0) 47 t) refl)
          (bad_slash (f ++ q.marked) (stopless_append f q.marked h q.free) (symbols (drop (suc n) u))))
          (λ t. rw (stop_next f u n q 61 (stop_equals u n q t) refl)
          (bad_left (f ++ q.marked) (stopless_append f q.marked h q.free) (g n q (stop_equals u n q t)) (symbols (drop (suc n) u))))

  -- ---- the left side

  -- the left side of a segment: a key, and what follows it
  pub segment_sides : (k q w : List ℕ) → all is_label_char k ≡ true → key_run q ≡ 0
      → segment_of ks (k ++ q) w ≡
      cond (non_empty k)
      (cond (non_empty q)
      (cond (eqb (get_or q 0 0) 46 && eqb (key_number ks k) dd_key)
      (some (record { key = dd_key; kind = plain_text (drop 1 q); value = plain_text w }))
      none)
      (some (plain_key ks (key_number ks k) (plain_text w))))
      none
  unfolding segment_of
  segment_sides k q w h e =
      let n : length k ≡ key_run (k ++ q) = omega (arith, key-append k q h) in
      rw (take_at k q (key_run (k ++ q)) n, drop_at k q (key_run (k ++ q)) n)

  -- ---- the whole text

  -- nothing is left behind the last slash
  pub rest_end_lem : read_rest ks [] ≡ some []
  unfolding read_rest closed_marked symbols split closed non_empty
  rest_end_lem = refl

  in_slashes_lem : (m : List ℕ) → non_empty m ≡ true → (ps : List (List ℕ)) → join 47 ps ≡ m → non_empty ps ≡ true
      → in_slashes ks ([] ∷ ps) ≡ closed ks ps
  unfolding in_slashes closed non_empty join
  in_slashes_lem m h [] e f = true_not_false true refl (sym f)
  in_slashes_lem m h (q ∷ []) e f = rw (e, h)
  in_slashes_lem m h (q ∷ r ∷ ps) e f = refl

  -- a text that begins with a slash, and has more, is read behind it
  pub read-start : (s : List ℕ) → get_or s 0 0 ≡ 47 → 1 < length s → read_segments ks s ≡ read_rest ks (drop 1 s)
  unfolding read_segments read_marked read_rest closed_marked prepend split non_empty
  read-start [] e h = absurd (omega arith)
  read-start (x ∷ []) e h = absurd (omega arith)
  read-start (x ∷ y ∷ t) e h = rw (e, symbols-plain 47 (y ∷ t) refl) (go (symbols (y ∷ t)) refl)
    where
      go : (o : Option (List ℕ)) → symbols (y ∷ t) ≡ o → read_marked ks (prepend (47 ∷ []) o) ≡ closed_marked ks o
      go none q = refl
      go (some m) q = in_slashes_lem m (symbols-some y t m q) (split 47 m) (join-split 47 m) (split-some 47 m)

  -- one that is empty, or one character, or does not begin with a slash, is no record text
  marked_other : (x : ℕ) → eqb x 47 ≡ false → (o : Option (List ℕ)) → read_marked ks (prepend (x ∷ []) o) ≡ none
  unfolding read_marked prepend split
  marked_other x e none = refl
  marked_other x e (some m) = rw e (go (split 47 m))
    where
      go : (ps : List (List ℕ)) → in_slashes ks (before x ps) ≡ none
      go [] = refl
      go (p ∷ []) = refl
      go (p ∷ q ∷ []) = refl
      go (p ∷ q ∷ r ∷ ps) = refl

  pub read_other : (s : List ℕ) → (get_or s 0 0 ≡ 47 → ⊥) → read_segments ks s ≡ none
  unfolding read_segments read_marked symbols split in_slashes
  read_other [] h = refl
  read_other (x ∷ s) h =
      by_test (eqb x 36)
      (λ e. quote s e)
      (λ e. rw (symbols-plain x s e) (marked_other x (ne_eqb x 47 h) (symbols s)))
    where
      quote : (t : List ℕ) → eqb x 36 ≡ true → read_marked ks (symbols (x ∷ t)) ≡ none
      quote [] e = rw e
      quote (y ∷ t) e =
          by_test (is_printable y)
          (λ f. rw (symbols-quoted x y t e f) (marked_other (y + mark) (ne_eqb (y + mark) 47 (λ r. omega arith)) (symbols t)))
          (λ f. rw (e, f))

  pub read_short : (s : List ℕ) → length s ≤ 1 → read_segments ks s ≡ none
  unfolding read_segments read_marked symbols split before in_slashes
  read_short [] h = refl
  read_short (x ∷ []) h = by_test (eqb x 47) (λ e. rw (eqb-true x 47 e)) (λ e. read_other (x ∷ []) (eqb-false x 47 e))
  read_short (x ∷ y ∷ s) h = absurd (omega arith)

-- ---- how long a text is with the quoting taken off

pub unquoted-length : (t : List ℕ) → length (unquoted t) ≤ length t
unfolding unquoted
unquoted-length [] = omega arith
unquoted-length (x ∷ []) = by_test (eqb x 36) (λ e. rw e (omega arith)) (λ e. rw e (omega arith))
unquoted-length (x ∷ y ∷ s) =
    by_test (eqb x 36)
    (λ e. rw e (omega (arith, unquoted-length s)))
    (λ e. rw e (omega (arith, unquoted-length (y ∷ s))))

-- each `$` quotes a character
pub unquoted-half : (t m : List ℕ) → symbols t ≡ some m → length t ≤ 2 * length (unquoted t)
unfolding unquoted symbols
unquoted-half [] m h = omega arith
unquoted-half (x ∷ []) m h =
    by_test (eqb x 36)
    (λ e. none-some (rw e at h))
    (λ e. rw e (omega arith))
unquoted-half (x ∷ y ∷ s) m h =
    by_test (eqb x 36)
    (λ e. by_test (is_printable y)
    (λ f. rw e (omega (arith, unquoted-half s (tail m) (onto-some (y + mark) (symbols s) m (rw (e, f) at h)))))
    (λ f. none-some (rw (e, f) at h)))
    (λ e. rw e (omega (arith, unquoted-half (y ∷ s) (tail m) (onto-some x (symbols (y ∷ s)) m (rw e at h)))))

-- what stands up to a stop is at most twice as long as it is with the quoting taken off
pub stop_half : (t : List ℕ) (n : ℕ) → Stopped t n → n ≤ 2 * length (unquoted (take n t))
stop_half t n h =
    let l : n ≤ length t = omega (arith, h.inside) in
    omega (arith, unquoted-half (take n t) h.marked h.front, length-take-le n t l)
