-- What is shown of a quoted string that closes a step at a time: at its closing quote, at a backslash with the byte that it takes, and at another
-- byte of 32 to 126.
-- Assumes nothing.
use mathlib.Core.Path.{◌≡◌, sym}
use mathlib.Core.Bool.{true, false}
use mathlib.Core.List.{List, [], ◌∷◌}
use Rattle.std.proofs.Common.{Some}
use Prim.Native.Nat.{ℕ, suc, ◌+◌}
use native.Mathlib.Omega.{arith}
use borrow.Author.Tests.{eqb-true}
use lib.Dec.{eqb}
use Rattle.chars.proofs.Laws.Lists.{by_test}
use Rattle.mailaddr.specs.Shape.{closing, is_text}
use Rattle.std.proofs.lemmas.Option.{none-some, same_Some}
use Rattle.mailaddr.proofs.Laws.Closing.{more-some}

module _
    (P : List ℕ → ℕ → Type 0)
    (close : (s : List ℕ) → P (34 ∷ s) 1)
    (escape : (y : ℕ) (s : List ℕ) (n : ℕ) → is_text y ≡ true → P s n → P (92 ∷ y ∷ s) (suc (suc n)))
    (text : (x : ℕ) (s : List ℕ) (n : ℕ) → eqb x 34 ≡ false → eqb x 92 ≡ false → is_text x ≡ true → P s n → P (x ∷ s) (suc n)) where
  at_close : (x : ℕ) (s : List ℕ) (n : ℕ) → eqb x 34 ≡ true → Some 1 ≡ Some n → P (x ∷ s) n
  at_close x s n e h = rw (eqb-true x 34 e, sym (same_Some _ _ h)) (close s)

  at_escape : (x y : ℕ) (s : List ℕ) (n m : ℕ) → eqb x 92 ≡ true → is_text y ≡ true → n ≡ 2 + m → P s m → P (x ∷ y ∷ s) n
  at_escape x y s n m e f h k = let q : n ≡ suc (suc m) = omega arith in rw (eqb-true x 92 e, q) (escape y s m f k)

  at-text : (x : ℕ) (s : List ℕ) (n m : ℕ) → eqb x 34 ≡ false → eqb x 92 ≡ false → is_text x ≡ true → n ≡ 1 + m → P s m → P (x ∷ s) n
  at-text x s n m e f g h k = let q : n ≡ suc m = omega arith in rw q (text x s m e f g k)

  pub by-closing : (t : List ℕ) (n : ℕ) → closing t ≡ Some n → P t n
  unfolding closing
  by-closing [] n h = absurd (none-some _ h)
  by-closing (x ∷ []) n h = by_test (eqb x 34) (λ e. at_close x [] n e (rw e at h)) (λ e. absurd (none-some _ (rw e at h)))
  by-closing (x ∷ y ∷ s) n h =
      by_test (eqb x 34)
      (λ e. at_close x (y ∷ s) n e (rw e at h))
      (λ e. by_test (eqb x 92)
      (λ f. by_test (is_text y)
      (λ g. let q = more-some 2 (closing s) n (rw (e, f, g) at h) in at_escape x y s n q.0 f g q.2 (by-closing s q.0 q.1))
      (λ g. absurd (none-some _ (rw (e, f, g) at h))))
      (λ f. by_test (is_text x)
      (λ g. let q = more-some 1 (closing (y ∷ s)) n (rw (e, f, g) at h) in
      at-text x (y ∷ s) n q.0 e f g q.2 (by-closing (y ∷ s) q.0 q.1))
      (λ g. absurd (none-some _ (rw (e, f, g) at h)))))
