-- Laws of finding a row by the longest key that begins a list of tokens, whatever the rows are and whatever test says that two tokens are
-- the same: what begins a list, what the look-up answers and which row is its answer, and what that row settles.
-- Assumes nothing.
use mathlib.Core.Path.{◌≡◌, refl, sym, ap, ◌∙◌}
use mathlib.Core.Logic.{⊎_elim}
use mathlib.Core.Bool.{Bool, true, false, ◌&&◌}
use mathlib.Core.List.Memᴰ
use mathlib.Core.List.{List, [], ◌∷◌, ◌++◌, Memᴰ}
use mathlib.Core.Option.{Option, none, some, some-injective}
use Prim.Native.Nat.{ℕ, ◌≤◌, ◌<◌, suc-le-suc, zero-le}
use native.Mathlib.Nat.{le_of_suc-le-suc, not-suc-le-zero, suc_inj}
use native.Mathlib.Omega.{arith}
use borrow.Author.Tests.{ltb-true, ltb-false}
use lib.Dec.{ltb}
use lib.ListN.{length, drop}
use Rattle.chars.specs.Case.{agree}
use Rattle.chars.proofs.Laws.Lists.{and_both, and_left, and_right, by_test, true_not_false}
use Rattle.table.specs.Table.{Token}
use Rattle.table_lookup.specs.Begins.{begins_by, better_by, look_by, resolve_by, settled_by}

-- ---- what begins a list of tokens

module _ (same : Token → Token → Bool) where
  pub begins-length : (p q : List Token) → begins_by same p q ≡ true → length p ≤ length q
  unfolding begins_by
  begins-length [] q h = zero-le
  begins-length (x ∷ p) [] h = true_not_false true refl (sym h)
  begins-length (x ∷ p) (y ∷ q) h = suc-le-suc (begins-length p q (and_right (same x y) (begins_by same p q) h))

  -- what begins a list begins its extensions
  pub begins-more : (p q x : List Token) → begins_by same p q ≡ true → begins_by same p (q ++ x) ≡ true
  unfolding begins_by
  begins-more [] q x h = refl
  begins-more (a ∷ p) [] x h = true_not_false true refl (sym h)
  begins-more (a ∷ p) (b ∷ q) x h =
      and_both (and_left (same a b) (begins_by same p q) h) (begins-more p q x (and_right (same a b) (begins_by same p q) h))

  -- and a front of it that is long enough
  pub begins-less : (p q x : List Token) → begins_by same p (q ++ x) ≡ true → length p ≤ length q → begins_by same p q ≡ true
  unfolding begins_by
  begins-less [] q x h l = refl
  begins-less (a ∷ p) [] x h l = absurd (not-suc-le-zero l)
  begins-less (a ∷ p) (b ∷ q) x h l =
      and_both
      (and_left (same a b) (begins_by same p (q ++ x)) h)
      (begins-less p q x (and_right (same a b) (begins_by same p (q ++ x)) h) (le_of_suc-le-suc l))

  -- a list that is as long is the same token by token
  pub begins-agree : (p q : List Token) → begins_by same p q ≡ true → length p ≡ length q → agree same p q ≡ true
  unfolding begins_by agree
  begins-agree [] [] h l = refl
  begins-agree [] (y ∷ q) h l = absurd (omega arith)
  begins-agree (x ∷ p) [] h l = h
  begins-agree (x ∷ p) (y ∷ q) h l =
      and_both (and_left (same x y) (begins_by same p q) h) (begins-agree p q (and_right (same x y) (begins_by same p q) h) (suc_inj l))

-- The test is an equality: it holds of a token and itself, either way round, and from a token by another to a third.
pub record IsEquality (same : Token → Token → Bool) : Type 0 where
  pub itself : (x : Token) → same x x ≡ true
  pub either : (x y : Token) → same x y ≡ same y x
  pub by : (x y z : Token) → same x y ≡ true → same y z ≡ true → same x z ≡ true

module _ {same : Token → Token → Bool} (equality : IsEquality same) where
  -- a list begins itself with any tokens behind
  pub begins-append : (p r : List Token) → begins_by same p (p ++ r) ≡ true
  unfolding begins_by
  begins-append [] r = refl
  begins-append (x ∷ p) r = and_both (equality.itself x) (begins-append p r)

  pub begins_trans : (p q r : List Token) → begins_by same p q ≡ true → begins_by same q r ≡ true → begins_by same p r ≡ true
  unfolding begins_by
  begins_trans [] q r h k = refl
  begins_trans (x ∷ p) [] r h k = true_not_false true refl (sym h)
  begins_trans (x ∷ p) (y ∷ q) [] h k = k
  begins_trans (x ∷ p) (y ∷ q) (z ∷ r) h k =
      and_both
      (equality.by x y z (and_left (same x y) (begins_by same p q) h) (and_left (same y z) (begins_by same q r) k))
      (begins_trans p q r (and_right (same x y) (begins_by same p q) h) (and_right (same y z) (begins_by same q r) k))

  -- of two that begin one query the shorter begins the longer
  pub begins_both : (p r q : List Token) → begins_by same p q ≡ true → begins_by same r q ≡ true → length p ≤ length r → begins_by same p r ≡ true
  unfolding begins_by
  begins_both [] r q h k l = refl
  begins_both (a ∷ p) [] q h k l = absurd (not-suc-le-zero l)
  begins_both (a ∷ p) (b ∷ r) [] h k l = true_not_false true refl (sym h)
  begins_both (a ∷ p) (b ∷ r) (c ∷ q) h k l =
      and_both
      (equality.by a c b (and_left (same a c) (begins_by same p q) h) (equality.either c b ∙ and_left (same b c) (begins_by same r q) k))
      (begins_both p r q (and_right (same a c) (begins_by same p q) h) (and_right (same b c) (begins_by same r q) k) (le_of_suc-le-suc l))

-- ---- what the look-up answers

-- a row among the rows whose key begins the query, and no row's key that does is longer
pub record BestBy {A : Type 0} (same : Token → Token → Bool) (key : A → List Token) (rows : List A) (q : List Token) (b : A) : Type 0 where
  pub mem : Memᴰ b rows
  pub fits : begins_by same (key b) q ≡ true
  pub most : (r : A) → Memᴰ r rows → begins_by same (key r) q ≡ true → length (key r) ≤ length (key b)

-- none, and no key begins the query; or such a row
abbrev pub AnswerBy : {A : Type 0} → (Token → Token → Bool) → (A → List Token) → List A → List Token → Option A → Type 0
AnswerBy {A} same key rows q none = (r : A) → Memᴰ r rows → begins_by same (key r) q ≡ false
AnswerBy {A} same key rows q (some b) = BestBy same key rows q b

module _ {A : Type 0} (same : Token → Token → Bool) (key : A → List Token) where
  step : (x : A) (rows : List A) (q : List Token) (o : Option A) → AnswerBy same key rows q o → AnswerBy same key (x ∷ rows) q (better_by same key q x o)
  unfolding better_by
  step x rows q none f =
      by_test (begins_by same (key x) q)
      (λ e. rw e
      (record {
        mem = Memᴰ.head refl;
        fits = e;
        most = λ r m h. ⊎_elim
            (λ p. rw p (omega arith))
            (λ t. true_not_false (begins_by same (key r) q) h (f r t))
            (Memᴰ.cases_cons m);
      }))
      (λ e. rw e (λ r m. ⊎_elim (λ p. rw p e) (λ t. f r t) (Memᴰ.cases_cons m)))
  step x rows q (some b) f =
      by_test (begins_by same (key x) q && ltb (length (key b)) (length (key x)))
      (λ e. rw e (let l : length (key b) < length (key x) = ltb-true (length (key b)) (length (key x)) (and_right (begins_by same (key x) q) (ltb (length (key b)) (length (key x))) e) in
      record {
        mem = Memᴰ.head refl;
        fits = and_left (begins_by same (key x) q) (ltb (length (key b)) (length (key x))) e;
        most = λ r m h. ⊎_elim (λ p. rw p (omega arith)) (λ t. omega (arith, f.most r t h)) (Memᴰ.cases_cons m);
      }))
      (λ e. rw e (record {
        mem = Memᴰ.tail f.mem;
        fits = f.fits;
        most = λ r m h. ⊎_elim
            (λ p. let g : begins_by same (key x) q ≡ true = ap (λ (y : A). begins_by same (key y) q) (sym p) ∙ h in
            rw p (ltb-false (length (key b)) (length (key x)) (rw g at e)))
            (λ t. f.most r t h)
            (Memᴰ.cases_cons m);
      }))

  pub found-by : (rows : List A) (q : List Token) → AnswerBy same key rows q (look_by same key rows q)
  unfolding look_by
  found-by [] q = λ r m. absurd (Memᴰ.not-nil m)
  found-by (x ∷ rows) q = step x rows q (look_by same key rows q) (found-by rows q)

  -- where rows with one key are equal, a best row is the answer
  pub look_best : IsEquality same → (rows : List A) (q : List Token) (b : A)
      → ((r s : A) → Memᴰ r rows → Memᴰ s rows → agree same (key r) (key s) ≡ true → r ≡ s)
      → BestBy same key rows q b → look_by same key rows q ≡ some b
  look_best equality rows q b one h = case (look_by same key rows q) refl (found-by rows q)
    where
      case : (o : Option A) → look_by same key rows q ≡ o → AnswerBy same key rows q o → look_by same key rows q ≡ some b
      case none e f = true_not_false (begins_by same (key b) q) h.fits (f b h.mem)
      case (some a) e f =
          let l : length (key a) ≡ length (key b) = omega (arith, h.most a f.mem f.fits, f.most b h.mem h.fits) in
          e ∙ ap some (one a b f.mem h.mem (begins-agree same (key a) (key b) (begins_both equality (key a) (key b) q f.fits h.fits (omega arith)) l))

-- what is best for a query is best for a front of it that is long enough
pub narrow : {A : Type 0} {same : Token → Token → Bool} {key : A → List Token} {rows : List A} {b : A} (q x : List Token)
    → BestBy same key rows (q ++ x) b → length (key b) ≤ length q → BestBy same key rows q b
narrow {A} {same} {key} {rows} {b} q x h l =
    record {
      mem = h.mem;
      fits = begins-less same (key b) q x h.fits l;
      most = λ r m f. h.most r m (begins-more same (key r) q x f);
    }

-- ---- what the row that is found settles

module _ {A : Type 0} (same : Token → Token → Bool) (key val : A → List Token) (rows : List A) (q : List Token) where
  pub resolve_best : IsEquality same → (b : A)
      → ((r s : A) → Memᴰ r rows → Memᴰ s rows → agree same (key r) (key s) ≡ true → r ≡ s)
      → BestBy same key rows q b → resolve_by same key val rows q ≡ some (val b ++ drop (length (key b)) q)
  unfolding resolve_by
  resolve_best equality b one h = ap (settled_by key val q) (look_best same key equality rows q b one h)

  -- what a query resolves to comes from a best row
  pub resolved : (ts : List Token) → resolve_by same key val rows q ≡ some ts → (b : A) × BestBy same key rows q b × (val b ++ drop (length (key b)) q ≡ ts)
  unfolding resolve_by
  resolved ts h = case (look_by same key rows q) (found-by same key rows q) h
    where
      case : (o : Option A) → AnswerBy same key rows q o → settled_by key val q o ≡ some ts
          → (b : A) × BestBy same key rows q b × (val b ++ drop (length (key b)) q ≡ ts)
      case none f e = let z : ◌≡◌ {A = ℕ} 0 1 = cc in absurd (omega arith)
      case (some b) f e = (b, f, some-injective (val b ++ drop (length (key b)) q) ts e)
