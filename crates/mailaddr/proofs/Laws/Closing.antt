-- Laws of the quoted string: a byte of it at a time, by places in a text, what one that closes has, and texts that are
-- escaped and unescaped.
-- Assumes nothing.
use mathlib.Core.Path.{◌≡◌, refl, sym, ap, ◌∙◌}
use mathlib.Core.Bool.{true, false, not, ◌&&◌, ◌||◌, cond}
use mathlib.Core.List.{List, [], ◌∷◌, ◌++◌}
use Rattle.std.proofs.Common.{Option, None, Some}
use Prim.Native.Nat.{ℕ, zero, suc, ◌+◌, ◌-◌, ◌*◌, ◌≤◌, ◌<◌}
use native.Mathlib.Numerals.{add-one}
use native.Mathlib.Omega.{arith}
use borrow.Author.Tests.{eqb-true, leb-true, ltb-true, ltb-false}
use lib.Dec.{eqb, leb, ltb}
use lib.ListN.{length, take, drop, get_or, get_or-eq_default, length-append, drop_of_length-le}
use lib.Seq.{sets, drop-cons, length-take-le, take-take}
use Rattle.chars.specs.Lists.{all}
use Rattle.chars.specs.Class.{between}
use Rattle.chars.specs.Write.{Wrote}
use Rattle.chars.proofs.Laws.Lists.{and_left, and_right, by_test, true_not_false}
use Rattle.chars.proofs.Laws.Lists.{neither}
use Rattle.std.proofs.lemmas.Option.{none-some, same_Some}
use Rattle.chars.proofs.Laws.Seq.{beyond, drop-take, second}
use Rattle.chars.proofs.Laws.Write.{sets-append}
use Rattle.mailaddr.specs.Shape.{closing, escaped, inner, is_text, more, unescaped}

-- ---- how far a quoted string goes

pub more-more : (m n : ℕ) (o : Option ℕ) → more m (more n o) ≡ more (m + n) o
unfolding more
more-more m n None = refl
more-more m n (Some k) = let e : m + (n + k) ≡ m + n + k = omega arith in rw e

-- at the closing quote, at a backslash, and at another byte
close_quote : (x : ℕ) (t : List ℕ) → eqb x 34 ≡ true → closing (x ∷ t) ≡ Some 1
unfolding closing
close_quote x [] e = rw e
close_quote x (y ∷ t) e = rw e

close_escape : (x : ℕ) (t : List ℕ) → eqb x 34 ≡ false → eqb x 92 ≡ true
    → closing (x ∷ t) ≡ cond (is_text (get_or t 0 0)) (more 2 (closing (drop 1 t))) None
unfolding closing is_text between
close_escape x [] e f = rw e
close_escape x (y ∷ t) e f = rw (e, f)

close_text_lem : (x : ℕ) (t : List ℕ) → eqb x 34 ≡ false → eqb x 92 ≡ false → closing (x ∷ t) ≡ cond (is_text x) (more 1 (closing t)) None
unfolding closing more
close_text_lem x [] e f = by_test (is_text x) (λ g. rw (e, g)) (λ g. rw (e, g))
close_text_lem x (y ∷ t) e f = rw (e, f)

-- the same of what is left of a text from a place on
module _ (s : List ℕ) (i : ℕ) where
  pub at_quote : i < length s → eqb (get_or s i 0) 34 ≡ true → more i (closing (drop i s)) ≡ Some (i + 1)
  unfolding more
  at_quote h e = rw (drop-cons s i 0 h, close_quote (get_or s i 0) (drop (suc i) s) e)

  pub at-text : i < length s → eqb (get_or s i 0) 34 ≡ false → eqb (get_or s i 0) 92 ≡ false → is_text (get_or s i 0) ≡ true
      → more i (closing (drop i s)) ≡ more (i + 1) (closing (drop (i + 1) s))
  at-text h e f g = rw (drop-cons s i 0 h, close_text_lem (get_or s i 0) (drop (suc i) s) e f, g, more-more i 1 (closing (drop (suc i) s)), add-one i)

  pub at_other : i < length s → eqb (get_or s i 0) 34 ≡ false → eqb (get_or s i 0) 92 ≡ false → is_text (get_or s i 0) ≡ false
      → more i (closing (drop i s)) ≡ None
  unfolding more
  at_other h e f g = rw (drop-cons s i 0 h, close_text_lem (get_or s i 0) (drop (suc i) s) e f, g)

  pub at_escape : i < length s → eqb (get_or s i 0) 34 ≡ false → eqb (get_or s i 0) 92 ≡ true → is_text (get_or s (i + 1) 0) ≡ true
      → more i (closing (drop i s)) ≡ more (i + 2) (closing (drop (i + 2) s))
  at_escape h e f g =
      rw (drop-cons s i 0 h, close_escape (get_or s i 0) (drop (suc i) s) e f, second s i, g, beyond s i)
      (more-more i 2 (closing (drop (i + 2) s)))

  pub at_broken : i < length s → eqb (get_or s i 0) 34 ≡ false → eqb (get_or s i 0) 92 ≡ true → is_text (get_or s (i + 1) 0) ≡ false
      → more i (closing (drop i s)) ≡ None
  unfolding more
  at_broken h e f g = rw (drop-cons s i 0 h, close_escape (get_or s i 0) (drop (suc i) s) e f, second s i, g)

  pub at-end : length s ≤ i → more i (closing (drop i s)) ≡ None
  unfolding more closing
  at-end h = rw (drop_of_length-le s h)

-- the same by where the next character stands, as the code asks
module _ (s : List ℕ) (i : ℕ) (h : i < length s) (o : eqb (get_or s i 0) 34 ≡ false) (f : ℕ)
    (q : f ≡ cond (eqb (get_or s i 0) 92 && ltb (i + 1) (length s)) (i + 1) i) where
  pub at_char : is_text (get_or s f 0) ≡ true → more i (closing (drop i s)) ≡ more (f + 1) (closing (drop (f + 1) s))
  unfolding is_text between
  at_char t =
      by_test (eqb (get_or s i 0) 92)
      (λ e. by_test (ltb (i + 1) (length s))
      (λ g. let p : f ≡ i + 1 = q ∙ rw (e, g) in
      let n : f + 1 ≡ i + 2 = omega arith in
      at_escape s i h o e (ap (λ k. is_text (get_or s k 0)) (sym p) ∙ t) ∙ rw n)
      (λ g. let k : length s ≤ i + 1 = ltb-false (i + 1) (length s) g in
      let p : f ≡ i = q ∙ rw (e, g) in
      at_broken s i h o e (ap is_text (get_or-eq_default s 0 k)) ∙ sym (at-end s (f + 1) (omega arith))))
      (λ e. let p : f ≡ i = q ∙ rw e in
      at-text s i h o e (ap (λ k. is_text (get_or s k 0)) (sym p) ∙ t) ∙ rw p)

  pub at_char_broken : is_text (get_or s f 0) ≡ false → more i (closing (drop i s)) ≡ None
  unfolding is_text between
  at_char_broken t =
      by_test (eqb (get_or s i 0) 92)
      (λ e. by_test (ltb (i + 1) (length s))
      (λ g. let p : f ≡ i + 1 = q ∙ rw (e, g) in
      at_broken s i h o e (ap (λ k. is_text (get_or s k 0)) (sym p) ∙ t))
      (λ g. let k : length s ≤ i + 1 = ltb-false (i + 1) (length s) g in
      at_broken s i h o e (ap is_text (get_or-eq_default s 0 k))))
      (λ e. let p : f ≡ i = q ∙ rw e in
      at_other s i h o e (ap (λ k. is_text (get_or s k 0)) (sym p) ∙ t))

pub text-some : (b : ℕ) → is_text b ≡ true → 0 < b
unfolding is_text between
text-some b e = omega (arith, leb-true 32 b (and_left (leb 32 b) (leb b 126) e))

pub more-some : (m : ℕ) (o : Option ℕ) (n : ℕ) → more m o ≡ Some n → (k : ℕ) × (o ≡ Some k) × (n ≡ m + k)
unfolding more
more-some m None n h = absurd (none-some n h)
more-some m (Some k) n h = (k, refl, cc)

-- ---- a quoted string that closes

-- It lies within the text, its bytes are 32 to 126, and it closes there whether the text ends with it or goes on.
pub record Closed (t : List ℕ) (n : ℕ) : Type 0 where
  pub inside : n ≤ length t
  pub texts : all is_text (take n t) ≡ true
  pub whole : closing (take n t) ≡ Some n
  pub longer : (u : List ℕ) → closing (t ++ u) ≡ Some n

one_plus : (n : ℕ) → 1 + n ≡ suc n
one_plus n = omega arith

two_plus : (n : ℕ) → 2 + n ≡ suc (suc n)
two_plus n = omega arith

closed_quote : (x : ℕ) (t : List ℕ) → eqb x 34 ≡ true → Closed (x ∷ t) 1
unfolding all is_text between
closed_quote x t e =
    record {
      inside = omega arith;
      texts = rw (eqb-true x 34 e);
      whole = close_quote x [] e;
      longer = λ u. close_quote x (t ++ u) e;
    }

closed-text : (x : ℕ) (t : List ℕ) (n : ℕ) → eqb x 34 ≡ false → eqb x 92 ≡ false → is_text x ≡ true → Closed t n → Closed (x ∷ t) (1 + n)
unfolding all more
closed-text x t n e f g h =
    rw (one_plus n)
    (record {
      inside = omega (arith, h.inside);
      texts = rw (g, h.texts);
      whole = rw (close_text_lem x (take n t) e f, g, h.whole, one_plus n);
      longer = λ u. rw (close_text_lem x (t ++ u) e f, g, h.longer u, one_plus n);
    })

closed_escape : (x y : ℕ) (t : List ℕ) (n : ℕ) → eqb x 34 ≡ false → eqb x 92 ≡ true → is_text y ≡ true → Closed t n → Closed (x ∷ y ∷ t) (2 + n)
unfolding all more is_text between
closed_escape x y t n e f g h =
    rw (two_plus n)
    (record {
      inside = omega (arith, h.inside);
      texts = rw (eqb-true x 92 f, g, h.texts);
      whole = rw (close_escape x (y ∷ take n t) e f, g, h.whole, two_plus n);
      longer = λ u. rw (close_escape x (y ∷ t ++ u) e f, g, h.longer u, two_plus n);
    })

pub closes : (t : List ℕ) (n : ℕ) → closing t ≡ Some n → Closed t n
unfolding closing
closes [] n h = absurd (none-some n h)
closes (x ∷ []) n h =
    by_test (eqb x 34)
    (λ e. let q : 1 ≡ n = same_Some 1 n (rw e at h) in rw (sym q) (closed_quote x [] e))
    (λ e. absurd (none-some n (rw e at h)))
closes (x ∷ y ∷ s) n h =
    by_test (eqb x 34)
    (λ e. let q : 1 ≡ n = same_Some 1 n (rw e at h) in rw (sym q) (closed_quote x (y ∷ s) e))
    (λ e. by_test (eqb x 92)
    (λ f. by_test (is_text y)
    (λ g. let q = more-some 2 (closing s) n (rw (e, f, g) at h) in rw q.2 (closed_escape x y s q.0 e f g (closes s q.0 q.1)))
    (λ g. absurd (none-some n (rw (e, f, g) at h))))
    (λ f. by_test (is_text x)
    (λ g. let q = more-some 1 (closing (y ∷ s)) n (rw (e, f, g) at h) in rw q.2 (closed-text x (y ∷ s) q.0 e f g (closes (y ∷ s) q.0 q.1)))
    (λ g. absurd (none-some n (rw (e, f, g) at h)))))

-- ---- escaped and unescaped

pub unescaped-plain : (x : ℕ) (t : List ℕ) → eqb x 92 ≡ false → unescaped (x ∷ t) ≡ x ∷ unescaped t
unfolding unescaped
unescaped-plain x [] e = refl
unescaped-plain x (y ∷ t) e = rw e

pub unescape_escape : (u : List ℕ) → unescaped (escaped u) ≡ u
unfolding unescaped escaped
unescape_escape [] = refl
unescape_escape (x ∷ u) =
    by_test (eqb x 34 || eqb x 92)
    (λ e. rw (e, unescape_escape u))
    (λ e. rw (e, unescaped-plain x (escaped u) (neither (eqb x 34) (eqb x 92) e).1, unescape_escape u))

pub escaped_close : (u : List ℕ) → all is_text u ≡ true → closing (escaped u ++ 34 ∷ []) ≡ Some (length (escaped u) + 1)
unfolding escaped all more
escaped_close [] h = close_quote 34 [] refl
escaped_close (x ∷ u) h =
    let k = escaped_close u (and_right (is_text x) (all is_text u) h) in
    let g = and_left (is_text x) (all is_text u) h in
    by_test (eqb x 34 || eqb x 92)
    (λ e. let q : 2 + (length (escaped u) + 1) ≡ suc (suc (length (escaped u))) + 1 = omega arith in
    rw (e, close_escape 92 (x ∷ escaped u ++ 34 ∷ []) refl refl, g, k, q))
    (λ e. let q : 1 + (length (escaped u) + 1) ≡ suc (length (escaped u)) + 1 = omega arith in
    let p = neither (eqb x 34) (eqb x 92) e in
    rw (e, close_text_lem x (escaped u ++ 34 ∷ []) p.0 p.1, g, k, q))

-- two texts in a row, and a byte at a time
pub escaped-append : (s t : List ℕ) → escaped (s ++ t) ≡ escaped s ++ escaped t
unfolding escaped
escaped-append [] t = refl
escaped-append (x ∷ s) t = by_test (eqb x 34 || eqb x 92) (λ e. rw (e, escaped-append s t)) (λ e. rw (e, escaped-append s t))

escaped-cons : (x : ℕ) (s : List ℕ) → escaped (x ∷ s) ≡ escaped (x ∷ []) ++ escaped s
escaped-cons x s = escaped-append (x ∷ []) s

pub escaped_step : (s : List ℕ) (i : ℕ) → i < length s → escaped (drop i s) ≡ escaped (get_or s i 0 ∷ []) ++ escaped (drop (i + 1) s)
escaped_step s i h = rw (add-one, drop-cons s i 0 h) (escaped-cons (get_or s i 0) (drop (suc i) s))

-- a turn of a loop that writes it: what is left to write
pub escaped_turn : (s : List ℕ) (i : ℕ) → i < length s → {m n : List ℕ} {k j : ℕ} → Wrote m k (escaped (get_or s i 0 ∷ [])) j n
    → (k + length (escaped (drop i s)) ≡ j + length (escaped (drop (i + 1) s))) × (sets m k (escaped (drop i s)) ≡ sets n j (escaped (drop (i + 1) s)))
escaped_turn s i h {m} {n} {k} {j} w =
    let x = escaped (get_or s i 0 ∷ []) in
    let r = escaped (drop (i + 1) s) in
    let e = escaped_step s i h in
    (omega (arith, w.moved, ap length e, length-append x r), rw (e, w.holds, w.moved) (sym (sets-append m k x r)))

-- how long it is
pub length-escaped : (s : List ℕ) → length (escaped s) ≤ 2 * length s
unfolding escaped
length-escaped [] = omega arith
length-escaped (x ∷ s) = by_test (eqb x 34 || eqb x 92) (λ e. rw e (omega (arith, length-escaped s))) (λ e. rw e (omega (arith, length-escaped s)))

pub escaped_longer : (s : List ℕ) → length s ≤ length (escaped s)
unfolding escaped
escaped_longer [] = omega arith
escaped_longer (x ∷ s) = by_test (eqb x 34 || eqb x 92) (λ e. rw e (omega (arith, escaped_longer s))) (λ e. rw e (omega (arith, escaped_longer s)))

-- a text with no quote and no backslash is as it was
pub escaped-plain : (s : List ℕ) → all (λ x. not (eqb x 34 || eqb x 92)) s ≡ true → escaped s ≡ s
unfolding escaped all
escaped-plain [] h = refl
escaped-plain (x ∷ s) h =
    by_test (eqb x 34 || eqb x 92)
    (λ e. true_not_false true refl (sym (rw e at h)))
    (λ e. rw (e, escaped-plain s (rw e at h)))

-- what is left to unescape, by where the next character stands
module _ (s : List ℕ) (i : ℕ) (h : i < length s) where
  pub char_step : (f : ℕ) → f ≡ cond (eqb (get_or s i 0) 92 && ltb (i + 1) (length s)) (i + 1) i
      → (i ≤ f) × (f < length s) × (unescaped (drop i s) ≡ get_or s f 0 ∷ unescaped (drop (f + 1) s))
  unfolding unescaped
  char_step f q =
      by_test (eqb (get_or s i 0) 92)
      (λ e. by_test (ltb (i + 1) (length s))
      (λ g. let k : i + 1 < length s = ltb-true (i + 1) (length s) g in
      let l : suc i < length s = omega arith in
      let p : f ≡ suc i = q ∙ rw (e, g) (add-one i) in
      (omega arith, omega arith, rw (p, add-one, drop-cons s i 0 h, drop-cons s (suc i) 0 l, e)))
      (λ g. let p : f ≡ i = q ∙ rw (e, g) in
      let k : length s ≤ suc i = omega (arith, ltb-false (i + 1) (length s) g) in
      (omega arith, omega arith, rw (p, add-one, drop-cons s i 0 h, drop_of_length-le s k))))
      (λ e. let p : f ≡ i = q ∙ rw e in
      (omega arith, omega arith, rw (p, add-one, drop-cons s i 0 h, unescaped-plain (get_or s i 0) (drop (suc i) s) e)))

-- what stands between the quotes, by places
pub inner-at : (s : List ℕ) (n : ℕ) → 2 ≤ n → n ≤ length s → inner (take n s) ≡ take (n - 1 - 1) (drop 1 s)
unfolding inner
inner-at s zero h k = absurd (omega arith)
inner-at s (suc m) h k =
    let q : suc m - 2 ≡ suc m - 1 - 1 = omega arith in
    rw (length-take-le (suc m) s k, drop-take 1 (suc m) s, q) (take-take (suc m - 1 - 1) (suc m - 1) (drop 1 s) (omega arith))

pub inner-none : (s : List ℕ) (n : ℕ) → n < 2 → n ≤ length s → inner (take n s) ≡ []
unfolding inner
inner-none s n h k = let q : n - 2 ≡ 0 = omega arith in rw (length-take-le n s k, q)
