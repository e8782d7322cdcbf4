-- Laws of the quoted string of the grammar: one that closes lies in its text, means bytes 32 to 126, and is no shorter than
-- its meaning when that is escaped again.
-- Assumes nothing.
use mathlib.Core.Path.{◌≡◌, refl, sym}
use mathlib.Core.Bool.{Bool, true, false, ◌||◌, cond}
use mathlib.Core.List.{List, [], ◌∷◌}
use Rattle.std.proofs.Common.{Option, None, Some}
use Prim.Native.Nat.{ℕ, zero, suc, ◌+◌, ◌≤◌, ◌<◌}
use native.Mathlib.Omega.{arith}
use lib.Dec.{eqb}
use lib.ListN.{length, get_or}
use Rattle.chars.specs.Lists.{all}
use Rattle.chars.proofs.Laws.Lists.{and_both, by_test}
use Rattle.mailaddr.specs.Shape.{escaped, is_text}
use Rattle.std.proofs.lemmas.Option.{none-some, same_Some}
use Rattle.lexical.specs.Space.{is_fold}
use Rattle.lexical.specs.Quoted.{Quoted, keeping, meaning_in, passing, quoted, quoted_by, quoted_step, size_in, text_step}
use Rattle.lexical.specs.declared.quoted.QuotedStep.{QuotedStep}
use Rattle.lexical.specs.declared.quoted.QuotedStep.TheVariants.{Break, Close, Escape, Fold, Keep}

-- a backslash that was read, and that the next byte's escape may have again
unfoldable pending : Bool → ℕ
pending e = cond e 1 0

-- what is read from s on, behind a backslash or not
record Read (e : Bool) (s : List ℕ) (q : Quoted) : Type 0 where
  pub texts : all is_text q.meaning ≡ true
  pub longer : length (escaped q.meaning) < q.size + pending e
  pub inside : q.size ≤ length s

-- ---- a byte that is kept

escaped_any : (x : ℕ) (s : List ℕ) → length (escaped (x ∷ s)) ≤ 2 + length (escaped s)
unfolding escaped
escaped_any x s = by_test (eqb x 34 || eqb x 92) (λ e. rw e (omega arith)) (λ e. rw e (omega arith))

escaped-none : (x : ℕ) (s : List ℕ) → eqb x 34 ≡ false → eqb x 92 ≡ false → length (escaped (x ∷ s)) ≡ suc (length (escaped s))
unfolding escaped
escaped-none x s e f = rw (e, f)

-- a step that is another is not taken
past : (t : Bool) (a b : QuotedStep) → (a ≡ Keep → ◌≡◌ {A = ℕ} 0 1) → cond t a b ≡ Keep → (t ≡ false) × (b ≡ Keep)
past true a b n h = absurd (omega (arith, n h))
past false a b n h = (refl, h)

text-kept : (x : ℕ) → text_step x ≡ Keep → is_text x ≡ true
unfolding text_step
text-kept x h = by_test (is_text x) (λ e. e) (λ e. let k : Break ≡ Keep = rw e at h in let z : ◌≡◌ {A = ℕ} 0 1 = cc in absurd (omega arith))

-- it is one of 32 to 126, and its escape is no longer than what was read for it
kept : (e : Bool) (x y z : ℕ) (s : List ℕ) → quoted_step e x y z ≡ Keep
    → (is_text x ≡ true) × (length (escaped (x ∷ s)) ≤ suc (pending e) + length (escaped s))
unfolding quoted_step pending
kept true x y z s h =
    let p = past (is_fold x y z) Fold (text_step x) (λ q. cc) h in
    (text-kept x p.1, omega (arith, escaped_any x s))
kept false x y z s h =
    let p = past (is_fold x y z) Fold (cond (eqb x 34) Close (cond (eqb x 92) Escape (text_step x))) (λ q. cc) h in
    let q = past (eqb x 34) Close (cond (eqb x 92) Escape (text_step x)) (λ q. cc) p.1 in
    let r = past (eqb x 92) Escape (text_step x) (λ q. cc) q.1 in
    (text-kept x r.1, omega (arith, escaped-none x s q.0 r.0))

-- ---- a byte at a time

passed-read : {e f : Bool} {x : ℕ} {s : List ℕ} (o : Option Quoted) (q : Quoted) → passing o ≡ Some q → pending f ≤ suc (pending e)
    → ((r : Quoted) → o ≡ Some r → Read f s r) → Read e (x ∷ s) q
unfolding passing
passed-read None q h l g = absurd (none-some _ h)
passed-read (Some r) q h l g =
    let k = g r refl in
    rw (sym (same_Some _ _ h)) (record { texts = k.texts; longer = omega arith; inside = omega arith })

kept_read : {e : Bool} {x : ℕ} {s : List ℕ} (y z : ℕ) (o : Option Quoted) (q : Quoted) → quoted_step e x y z ≡ Keep → keeping x o ≡ Some q
    → ((r : Quoted) → o ≡ Some r → Read false s r) → Read e (x ∷ s) q
unfolding keeping all pending
kept_read y z None q t h g = absurd (none-some _ h)
kept_read {e} {x} y z (Some r) q t h g =
    let k = g r refl in
    let m = kept e x y z r.meaning t in
    rw (sym (same_Some _ _ h)) (record { texts = and_both m.0 k.texts; longer = omega arith; inside = omega arith })

step_read : (t : QuotedStep) (e : Bool) (x y z : ℕ) (s : List ℕ) (q : Quoted) → quoted_step e x y z ≡ t
    → quoted_by t e x (λ k f. quoted k f s) ≡ Some q → ((k : ℕ) (f : Bool) (r : Quoted) → quoted k f s ≡ Some r → Read f s r) → Read e (x ∷ s) q
unfolding quoted_by pending all escaped
step_read Fold e x y z s q t h g = passed-read (quoted 1 e s) q h (omega arith) (g 1 e)
step_read Close e x y z s q t h g = rw (sym (same_Some _ _ h)) (record { texts = refl; longer = omega arith; inside = omega arith })
step_read Escape e x y z s q t h g = passed-read (quoted zero true s) q h (omega arith) (g zero true)
step_read Keep e x y z s q t h g = kept_read y z (quoted zero false s) q t h (g zero false)
step_read Break e x y z s q t h g = absurd (none-some _ h)

quoted-read : (k : ℕ) (e : Bool) (s : List ℕ) (q : Quoted) → quoted k e s ≡ Some q → Read e s q
unfolding quoted
quoted-read k e [] q h = absurd (none-some _ h)
quoted-read (suc k) e (x ∷ s) q h = passed-read (quoted k e s) q h (omega arith) (quoted-read k e s)
quoted-read zero e (x ∷ s) q h =
    step_read (quoted_step e x (get_or s 0 0) (get_or s 1 0)) e x (get_or s 0 0) (get_or s 1 0) s q refl h (λ k f. quoted-read k f s)

-- ---- from behind the opening quote

pub record Closes (s : List ℕ) (o : Option Quoted) : Type 0 where
  pub texts : all is_text (meaning_in o) ≡ true
  pub longer : length (escaped (meaning_in o)) < size_in o
  pub inside : size_in o ≤ length s

closes-some : (s : List ℕ) (o : Option Quoted) → quoted zero false s ≡ o → 0 < size_in o → Closes s o
unfolding size_in meaning_in pending
closes-some s None e h = absurd (omega arith)
closes-some s (Some q) e h =
    let r = quoted-read zero false s q e in
    record { texts = r.texts; longer = omega arith; inside = r.inside }

pub quoted-closes : (s : List ℕ) → 0 < size_in (quoted zero false s) → Closes s (quoted zero false s)
quoted-closes s h = closes-some s (quoted zero false s) refl h
