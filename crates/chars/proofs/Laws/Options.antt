-- Laws of texts that are there or not: `onto` puts a byte in front, and `ahead` a text.
-- Assumes nothing.
use mathlib.Core.Path.{◌≡◌, refl, ap}
use Prim.Native.Nat.{ℕ, ◌≤◌}
use mathlib.Core.List.{List, [], ◌∷◌, ◌++◌}
use mathlib.Core.Option.{Option, none, some}
use native.Mathlib.Omega.{arith}
use lib.ListN.{length, length-append}
use lib.Seq.{append_snoc}
use Rattle.chars.specs.Lists.{onto}

pub some_same : {A : Type 0} {a b : A} → some a ≡ some b → a ≡ b
some_same e = cc

pub none-some : {X A : Type 0} {a : A} → ◌≡◌ {A = Option A} none (some a) → X
none-some e = let z : ◌≡◌ {A = ℕ} 0 1 = cc in absurd (omega arith)

pub onto-some : {X : Type 0} (b : ℕ) (o : Option (List ℕ)) (t : List ℕ) → onto b o ≡ some t → ((u : List ℕ) → o ≡ some u → t ≡ b ∷ u → X) → X
unfolding onto
onto-some b none t h f = none-some h
onto-some b (some u) t h f = f u refl cc

unfoldable pub ahead : List ℕ → Option (List ℕ) → Option (List ℕ)
ahead s none = none
ahead s (some t) = some (s ++ t)

pub ahead-nothing : (o : Option (List ℕ)) → o ≡ ahead [] o
unfolding ahead
ahead-nothing none = refl
ahead-nothing (some t) = refl

pub ahead-onto : (s : List ℕ) (b : ℕ) (o : Option (List ℕ)) → ahead s (onto b o) ≡ ahead (s ++ b ∷ []) o
unfolding ahead onto
ahead-onto s b none = refl
ahead-onto s b (some t) = rw append_snoc

pub ahead-length : (s : List ℕ) (o : Option (List ℕ)) (t : List ℕ) → ahead s o ≡ some t → length s ≤ length t
unfolding ahead
ahead-length s none t h = none-some h
ahead-length s (some u) t h = let e : s ++ u ≡ t = some_same h in omega (arith, ap length e, length-append s u)
