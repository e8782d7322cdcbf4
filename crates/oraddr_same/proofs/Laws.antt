-- Laws of two lists that agree place by place: as one list of pairs, and by what the elements hold.
-- Assumes nothing.
use mathlib.Core.Path.{◌≡◌, refl, ap₂, ◌∙◌}
use mathlib.Core.Bool.{Bool}
use mathlib.Core.List.{List, [], ◌∷◌, map}
use Prim.Native.Nat.{ℕ}
use native.Mathlib.Nat.{suc_inj}
use native.Mathlib.Omega.{arith}
use lib.ListN.{length, take}
use Rattle.std.specs.List.{list_all, zip}
use Rattle.chars.specs.Case.{agree}
use Rattle.chars.proofs.Laws.Seq.{map-take}

module _ {A : Type 0} (e : A → A → Bool) where
  pub agree_zip : (s t : List A) → length s ≡ length t → list_all (λ (p : A × A). e p.0 p.1) (zip s t) ≡ agree e s t
  unfolding agree
  agree_zip [] [] h = refl
  agree_zip [] (y ∷ t) h = absurd (omega arith)
  agree_zip (x ∷ s) [] h = absurd (omega arith)
  agree_zip (x ∷ s) (y ∷ t) h = rw (agree_zip s t (suc_inj h))

  module _ {X : Type 0} (f : X → A) where
    pub agree_view : (s t : List X) → agree (λ x y. e (f x) (f y)) s t ≡ agree e (map f s) (map f t)
    unfolding agree
    agree_view [] [] = refl
    agree_view [] (y ∷ t) = refl
    agree_view (x ∷ s) [] = refl
    agree_view (x ∷ s) (y ∷ t) = rw (agree_view s t)

    pub agree_taken : (s t : List X) (n m : ℕ) → agree (λ x y. e (f x) (f y)) (take n s) (take m t) ≡ agree e (take n (map f s)) (take m (map f t))
    agree_taken s t n m = agree_view (take n s) (take m t) ∙ ap₂ (agree e) (map-take f n s) (map-take f m t)
