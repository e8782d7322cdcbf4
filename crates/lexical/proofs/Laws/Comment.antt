-- Laws of comments: bytes that are passed, a comment inside a comment's content, and the content by places in a text.
-- Assumes nothing.
use mathlib.Core.Path.{◌≡◌, refl, sym, ap, ◌∙◌}
use mathlib.Core.Bool.{Bool, true, false, cond}
use mathlib.Core.List.{List, [], ◌∷◌}
use Rattle.std.proofs.Common.{Option, None, Some}
use Prim.Native.Nat.{ℕ, zero, suc, ◌+◌, ◌-◌, ◌≤◌, ◌<◌}
use native.Mathlib.Omega.{arith}
use native.Mathlib.Nat.{add-suc, add-zero, suc-add, zero-add}
use native.Mathlib.Numerals.{add-one, one-add}
use borrow.Author.Tests.{eq-eqb, ne_eqb}
use lib.Dec.{eqb, leb}
use lib.ListN.{length, drop, get_or, drop_of_length-le}
use lib.Seq.{drop-cons, drop-drop}
use Rattle.chars.specs.Lists.{first}
use Rattle.chars.proofs.Laws.Lists.{by_test, true_not_false}
use Rattle.mailaddr.specs.Shape.{more}
use Rattle.std.proofs.lemmas.Option.{none-some}
use Rattle.mailaddr.proofs.Laws.Closing.{more-more, more-some}
use Rattle.lexical.specs.Comment.{comment, content, content_by, content_step, is_ctext, pair_step}
use Rattle.lexical.specs.Space.{is_fold}
use Rattle.lexical.specs.declared.comment.ContentStep.{ContentStep}
use Rattle.lexical.specs.declared.comment.ContentStep.TheVariants.{Break, Close, Fold, Open, Pair, Text}
use Rattle.chars.proofs.Laws.Seq.{second, third}

-- ---- what follows a part that closes

unfoldable then_at : Option ℕ → (ℕ → Option ℕ) → Option ℕ
then_at None f = None
then_at (Some n) f = f n

-- one byte more before it
then_more : (a : Option ℕ) (f g : ℕ → Option ℕ) → ((n : ℕ) → more 1 (f n) ≡ g (1 + n)) → more 1 (then_at a f) ≡ then_at (more 1 a) g
unfolding more then_at
then_more None f g e = refl
then_more (Some n) f g e = e n

more_zero : (o : Option ℕ) → more 0 o ≡ o
unfolding more
more_zero None = refl
more_zero (Some k) = rw (zero-add k)

more-none : (m : ℕ) (o : Option ℕ) → more m o ≡ None → o ≡ None
unfolding more
more-none m None e = refl
more-none m (Some k) e = absurd (none-some _ (sym e))

-- bytes that are passed are dropped
content_skip : (k l o : ℕ) (s : List ℕ) → content k l o s ≡ more k (content 0 l o (drop k s))
unfolding content more
content_skip zero l o s = sym (more_zero (content 0 l o s))
content_skip (suc k) l o [] = refl
content_skip (suc k) l o (x ∷ s) = rw (content_skip k l o s, more-more 1 k (content 0 l o (drop k s)), one-add k)

-- ---- comments that are open inside the content

-- what stands n bytes on, and n with it

abbrev behind : ℕ → ℕ → List ℕ → ℕ → Option ℕ
behind l p s n = more n (content 0 l p (drop n s))

-- where the text has a byte more
behind_more : (l p x : ℕ) (s : List ℕ) (n : ℕ) → more 1 (behind l p s n) ≡ behind l p (x ∷ s) (1 + n)
behind_more l p x s n = rw (more-more 1 n (content 0 l p (drop n s)), one-add n)

-- With o + p + 1 comments open inside, o + 1 of them close as the content of a comment with o inside does by itself; behind that p are open, and all
-- levels that these took are left again. At each step, where it holds of the rest:
module _ (p x : ℕ) (s : List ℕ) (rest : (k l o : ℕ) → content k l (suc (o + p)) s ≡ then_at (content k l o s) (behind (suc (l + o)) p s)) where
  step_on : (k l o : ℕ) → more 1 (content k l (suc (o + p)) s) ≡ then_at (more 1 (content k l o s)) (behind (suc (l + o)) p (x ∷ s))
  step_on k l o =
      rw (rest k l o)
      (then_more (content k l o s) (behind (suc (l + o)) p s) (behind (suc (l + o)) p (x ∷ s)) (behind_more (suc (l + o)) p x s))

  step_inside : (t : ContentStep) (l o : ℕ)
      → content_by t l (suc (o + p)) (λ k l o. content k l o s) ≡ then_at (content_by t l o (λ k l o. content k l o s)) (behind (suc (l + o)) p (x ∷ s))
  unfolding content_by then_at
  step_inside Close l zero = rw (zero-add p, add-zero l)
  step_inside Close l (suc o) = rw (suc-add o p, add-suc l o, ← (suc-add l o)) (step_on 0 (suc l) o)
  step_inside Open zero o = refl
  step_inside Open (suc l) o = rw (← (suc-add o p), suc-add l o, ← (add-suc l o)) (step_on 0 l (suc o))
  step_inside Pair l o = step_on 1 l o
  step_inside Fold l o = step_on 1 l o
  step_inside Text l o = step_on 0 l o
  step_inside Break l o = refl

inside : (p : ℕ) (s : List ℕ) (k l o : ℕ) → content k l (suc (o + p)) s ≡ then_at (content k l o s) (behind (suc (l + o)) p s)
unfolding content then_at
inside p [] k l o = refl
inside p (x ∷ s) (suc k) l o = step_on p x s (inside p s) k l o
inside p (x ∷ s) zero l o = step_inside p x s (inside p s) (content_step x (get_or s 0 0) (get_or s 1 0)) l o

-- ---- a comment in the content

-- a comment opens at a "("
abbrev is_open : ContentStep → Bool
is_open Close = false
is_open Open = true
is_open Pair = false
is_open Fold = false
is_open Text = false
is_open Break = false

no : {X : Type 0} → ◌≡◌ {A = Bool} false true → X
no e = true_not_false true refl (sym e)

open_test : (a b c d e f : Bool) → is_open (cond a Close (cond b Open (cond c (cond d Pair Break) (cond e Fold (cond f Text Break))))) ≡ true → b ≡ true
open_test true b c d e f h = no h
open_test false true c d e f h = refl
open_test false false true true e f h = no h
open_test false false true false e f h = no h
open_test false false false d true f h = no h
open_test false false false d false true h = no h
open_test false false false d false false h = no h

opens : (x y z : ℕ) → content_step x y z ≡ Open → eqb x 40 ≡ true
unfolding content_step pair_step
opens x y z e = open_test (eqb x 41) (eqb x 40) (eqb x 92) (leb y 127) (is_fold x y z) (is_ctext x) (ap is_open e)

-- it has at least its "("
pub comment-some : (l : ℕ) (s : List ℕ) (n : ℕ) → comment l s ≡ Some n → 0 < n
unfolding comment
comment-some zero s n e = absurd (none-some _ e)
comment-some (suc l) s n e =
    by_test (eqb (first s) 40)
    (λ f. omega (arith, (more-some 1 (content 0 l 0 (drop 1 s)) n (rw f at e)).2))
    (λ f. absurd (none-some _ (rw f at e)))

-- the content goes on behind it
content_open : (l x : ℕ) (s : List ℕ) → content_step x (get_or s 0 0) (get_or s 1 0) ≡ Open → content 0 l 0 (x ∷ s) ≡ then_at (comment l (x ∷ s)) (behind l 0 (x ∷ s))
unfolding content content_by comment then_at first
content_open zero x s e = rw e
content_open (suc l) x s e =
    rw (e, opens x (get_or s 0 0) (get_or s 1 0) e)
    (rw (add-zero l) at (step_on 0 x s (inside 0 s) 0 l 0))

-- ---- by places in a text

abbrev step_at : List ℕ → ℕ → ContentStep
step_at s i = content_step (get_or s i 0) (get_or s (i + 1) 0) (get_or s (i + 2) 0)

-- the content from a place on
module _ (s : List ℕ) (i l : ℕ) where
  content-here : i < length s → content 0 l 0 (drop i s) ≡ content_by (step_at s i) l 0 (λ k m o. content k m o (drop (suc i) s))
  unfolding content
  content-here h = rw (drop-cons s i 0 h, second s i, third s i)

  pub at_close : i < length s → step_at s i ≡ Close → more i (content 0 l 0 (drop i s)) ≡ Some (i + 1)
  unfolding content_by more
  at_close h e = rw (content-here h, e)

  pub at_break : i < length s → step_at s i ≡ Break → more i (content 0 l 0 (drop i s)) ≡ None
  unfolding content_by more
  at_break h e = rw (content-here h, e)

  pub at-text : i < length s → step_at s i ≡ Text → more i (content 0 l 0 (drop i s)) ≡ more (i + 1) (content 0 l 0 (drop (i + 1) s))
  unfolding content_by
  at-text h e = rw (content-here h, e, more-more i 1 (content 0 l 0 (drop (suc i) s)), add-one i)

  two : more i (more 1 (content 1 l 0 (drop (suc i) s))) ≡ more (i + 2) (content 0 l 0 (drop (i + 2) s))
  two =
      let e : suc i + 1 ≡ i + 2 = omega arith in
      let f : i + (1 + 1) ≡ i + 2 = omega arith in
      rw (content_skip 1 l 0 (drop (suc i) s), drop-drop 1 (suc i) s, e, more-more 1 1 (content 0 l 0 (drop (i + 2) s)), more-more i (1 + 1) (content 0 l 0 (drop (i + 2) s)), f)

  pub at_pair : i < length s → step_at s i ≡ Pair → more i (content 0 l 0 (drop i s)) ≡ more (i + 2) (content 0 l 0 (drop (i + 2) s))
  unfolding content_by
  at_pair h e = rw (content-here h, e) two

  pub at-fold : i < length s → step_at s i ≡ Fold → more i (content 0 l 0 (drop i s)) ≡ more (i + 2) (content 0 l 0 (drop (i + 2) s))
  unfolding content_by
  at-fold h e = rw (content-here h, e) two

  pub at-end : length s ≤ i → more i (content 0 l 0 (drop i s)) ≡ None
  unfolding content more
  at-end h = rw (drop_of_length-le s h)

  -- at a comment, which closes or does not
  open_here : i < length s → step_at s i ≡ Open → content 0 l 0 (drop i s) ≡ then_at (comment l (drop i s)) (behind l 0 (drop i s))
  open_here h e =
      rw (drop-cons s i 0 h) (content_open l (get_or s i 0) (drop (suc i) s) (rw (second s i, third s i) e))

  pub at_open_never : i < length s → step_at s i ≡ Open → None ≡ more i (comment l (drop i s)) → more i (content 0 l 0 (drop i s)) ≡ None
  unfolding more then_at
  at_open_never h e q = rw (open_here h e, more-none i (comment l (drop i s)) (sym q))

  open_behind : i < length s → step_at s i ≡ Open → (k : ℕ) → comment l (drop i s) ≡ Some k
      → more i (content 0 l 0 (drop i s)) ≡ more (i + k) (content 0 l 0 (drop (i + k) s))
  unfolding then_at
  open_behind h e k q = rw (open_here h e, q, drop-drop k i s, more-more i k (content 0 l 0 (drop (i + k) s)))

  pub at_open : i < length s → step_at s i ≡ Open → (n : ℕ) → Some n ≡ more i (comment l (drop i s))
      → (i < n) × (more i (content 0 l 0 (drop i s)) ≡ more n (content 0 l 0 (drop n s)))
  at_open h e n q =
      let c = more-some i (comment l (drop i s)) n (sym q) in (
        omega (arith, c.2, comment-some l (drop i s) c.0 c.1),
        open_behind h e c.0 c.1 ∙ ap (λ (k : ℕ). more k (content 0 l 0 (drop k s))) (sym c.2),
      )

-- a comment at a place: there is none without a level or a "(", and else its content goes on behind that
module _ (s : List ℕ) (i : ℕ) (h : i < length s) where
  pub comment_other : (l : ℕ) → (get_or s i 0 ≡ 40 → ⊥) → more i (comment l (drop i s)) ≡ None
  unfolding comment more first
  comment_other zero f = refl
  comment_other (suc l) f = rw (drop-cons s i 0 h, ne_eqb (get_or s i 0) 40 f)

  pub comment-inside : (l : ℕ) → 0 < l → get_or s i 0 ≡ 40 → more i (comment l (drop i s)) ≡ more (i + 1) (content 0 (l - 1) 0 (drop (i + 1) s))
  unfolding comment first
  comment-inside zero g e = absurd (omega arith)
  comment-inside (suc l) g e =
      let f : suc l - 1 ≡ l = omega arith in
      rw (drop-cons s i 0 h, eq-eqb (get_or s i 0) 40 e, more-more i 1 (content 0 l 0 (drop (suc i) s)), add-one i, f)
