-- What stands at a span: how long it is, and a step of taking the quoting off.
-- Assumes nothing.
use mathlib.Core.Path.{◌≡◌, refl, sym, ap, ◌∙◌}
use Prim.Native.Nat.{ℕ, suc, ◌+◌, ◌-◌, ◌≤◌, ◌<◌}
use native.Mathlib.Numerals.{add-one}
use native.Mathlib.Omega.{arith}
use mathlib.Core.Bool.{Bool, true, false, cond}
use mathlib.Core.List.{List, [], ◌∷◌, ◌++◌, append-nil}
use lib.Dec.{eqb}
use borrow.Author.Tests.{ne_eqb}
use lib.ListN.{length, take, drop, get_or, set, drop_of_length-le}
use lib.Seq.{append_snoc, drop-cons, slice, slice-cons, slice_empty, take-suc-set, length-take-le}
use Rattle.chars.specs.Lists.{non_empty}
use Rattle.chars.proofs.Laws.Lists.{by_test}
use Rattle.chars.proofs.Laws.Seq.{some-length}
use Rattle.ortext_segments.specs.Keys.{dd_key}
use Rattle.ortext_segments.specs.Segments.{unquoted}
use Rattle.ortext_segments.specs.Scan.{kind_text, span_text}
use Rattle.ortext_build.specs.Adding.{Fronted}
use Rattle.ortext_named.specs.Named.{Sound}
use Rattle.ortext_segments.specs.declared.scan.Span.{Span}

pub span_none : (s : List ℕ) (p : Span) → p.len ≡ 0 → span_text s p ≡ []
unfolding span_text unquoted
span_none s p e = rw e

pub span_some : {s : List ℕ} {p : Span} → Sound s p → 0 < p.len → non_empty (span_text s p) ≡ true
span_some {s} {p} h l = some-length (span_text s p) (omega (arith, h.half))

-- a DD's type at a span
pub kind_span : (s : List ℕ) (p : Span) → (p.start ≡ 0 → ⊥) → kind_text s dd_key p ≡ span_text s p
unfolding kind_text
kind_span s p h = rw (ne_eqb p.start 0 h)

-- a text at the front of a buffer is as long as the part that holds it
pub fronted_length : {text b : List ℕ} {n : ℕ} → Fronted text n b → n ≡ length (take n b)
fronted_length {b = b} {n = n} h = sym (length-take-le n b h.fits)

unquoted-plain : (x : ℕ) (t : List ℕ) → eqb x 36 ≡ false → unquoted (x ∷ t) ≡ x ∷ unquoted t
unfolding unquoted
unquoted-plain x [] e = rw e
unquoted-plain x (y ∷ t) e = rw e

unquoted-quoted : (x y : ℕ) (t : List ℕ) → eqb x 36 ≡ true → unquoted (x ∷ y ∷ t) ≡ y ∷ unquoted t
unfolding unquoted
unquoted-quoted x y t e = rw e

unquoted-end : (x : ℕ) → eqb x 36 ≡ true → unquoted (x ∷ []) ≡ []
unfolding unquoted
unquoted-end x e = rw e

-- One byte of a part without its quoting. `at` is where that byte stands, behind a `$` that quotes it; a `$` at the end quotes nothing.
module _ (s : List ℕ) (i end at : ℕ) (h : i < end) (l : end ≤ length s) (e : at ≡ cond (eqb (get_or s i 0) 36) (i + 1) i) where
  pub unquoted_step : at < end → unquoted (slice i end s) ≡ get_or s at 0 ∷ unquoted (slice (at + 1) end s)
  unquoted_step m =
      by_test (eqb (get_or s i 0) 36)
      (λ q. let a : at ≡ i + 1 = e ∙ rw q in
      rw (a, slice-cons i end s 0 h l, add-one i, slice-cons (suc i) end s 0 (omega arith) l, add-one (suc i)) (unquoted-quoted (get_or s i 0) (get_or s (suc i) 0) (slice (suc (suc i)) end s) q))
      (λ q. let a : at ≡ i = e ∙ rw q in
      rw (a, slice-cons i end s 0 h l, add-one i) (unquoted-plain (get_or s i 0) (slice (suc i) end s) q))

  pub unquoted-last : end ≤ at → unquoted (slice i end s) ≡ []
  unquoted-last m =
      by_test (eqb (get_or s i 0) 36)
      (λ q. let b : at ≡ i + 1 = e ∙ rw q in
      let a : end ≡ suc i = omega arith in
      rw (slice-cons i end s 0 h l, a, slice_empty) (unquoted-end (get_or s i 0) q))
      (λ q. let b : at ≡ i = e ∙ rw q in absurd (omega arith))

  pub quote_on : i ≤ at
  quote_on = by_test (eqb (get_or s i 0) 36) (λ q. let b : at ≡ i + 1 = e ∙ rw q in omega arith) (λ q. let b : at ≡ i = e ∙ rw q in omega arith)

-- what is left of a text, where it begins with what a `$` quotes or does not
unfoldable pub unquoted_after : Bool → List ℕ → List ℕ
unfolding unquoted
unquoted_after false s = unquoted s
unquoted_after true [] = []
unquoted_after true (x ∷ s) = x ∷ unquoted s

pub after-end : (q : Bool) → unquoted_after q [] ≡ []
unfolding unquoted_after unquoted
after-end true = refl
after-end false = refl

-- a `$` that quotes, and any other byte
module _ (s : List ℕ) (i : ℕ) (h : i < length s) where
  pub after-quote : get_or s i 0 ≡ 36 → unquoted_after false (drop i s) ≡ unquoted_after true (drop (i + 1) s)
  unfolding unquoted_after
  after-quote e = rw (add-one, drop-cons s i 0, e) (go (drop (suc i) s))
    where
      go : (t : List ℕ) → unquoted (36 ∷ t) ≡ unquoted_after true t
      go [] = unquoted-end 36 refl
      go (y ∷ t) = unquoted-quoted 36 y t refl

  pub after-byte : (q : Bool) → (q ≡ false → get_or s i 0 ≡ 36 → ⊥) → unquoted_after q (drop i s) ≡ get_or s i 0 ∷ unquoted_after false (drop (i + 1) s)
  unfolding unquoted_after
  after-byte true f = rw (add-one, drop-cons s i 0)
  after-byte false f = rw (add-one, drop-cons s i 0) (unquoted-plain (get_or s i 0) (drop (suc i) s) (ne_eqb (get_or s i 0) 36 (f refl)))

-- a step of the loop: a `$` passed over, or a byte stored
module _ (t room : List ℕ) (i n : ℕ) (q : Bool) (h : i < length t) (e : take n room ++ unquoted_after q (drop i t) ≡ unquoted t) where
  pub quote_passed : get_or t i 0 ≡ 36 → q ≡ false → take n room ++ unquoted_after true (drop (i + 1) t) ≡ unquoted t
  quote_passed f g = rw (← after-quote t i h f) (rw g at e)

  pub byte_stored : n < length room → (q ≡ false → get_or t i 0 ≡ 36 → ⊥)
      → take (n + 1) (set room n (get_or t i 0)) ++ unquoted_after false (drop (i + 1) t) ≡ unquoted t
  byte_stored l f =
      rw (add-one n, take-suc-set room n (get_or t i 0) l)
      (append_snoc (take n room) (get_or t i 0) (unquoted_after false (drop (i + 1) t)) ∙ ap (λ u. take n room ++ u) (sym (after-byte t i h q f)) ∙ e)

pub all_stored : (s room : List ℕ) (p : Span) (i n : ℕ) (q : Bool) → let t = take (p.start + p.len - p.start) (drop p.start s) in
    length t ≤ i → take n room ++ unquoted_after q (drop i t) ≡ unquoted t → take n room ≡ span_text s p
unfolding span_text
all_stored s room p i n q h e =
    let t = take (p.start + p.len - p.start) (drop p.start s) in
    let k : p.start + p.len - p.start ≡ p.len = omega arith in
    sym (append-nil (take n room)) ∙ ap (λ u. take n room ++ u) (sym (rw (drop_of_length-le t h) (after-end q))) ∙ e ∙ rw k
