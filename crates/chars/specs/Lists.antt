-- Byte strings as lists of numbers: the small notions that every other definition is said in.
-- Assumes nothing.
use Rattle.std.specs.Prelude.{ℕ, Bool, true, false, ◌&&◌, ◌||◌, List, [], ◌∷◌, eqb}
use Prim.Native.Char.{code}
use Prim.Native.String.{String, [] as empty, ◌∷◌ as ◌then◌}
use Rattle.std.proofs.Math.Option.{Option, none, some}

-- the bytes of a text of ASCII characters, so that a definition can quote document 01
unfoldable pub bytes : String → List ℕ
bytes empty = []
bytes (c then s) = code c ∷ bytes s

-- the test p passes at each element
unfoldable pub all : {A : Type 0} → (A → Bool) → List A → Bool
all p [] = true
all p (x ∷ s) = p x && all p s

-- b is one of the bytes of the list
unfoldable pub member : ℕ → List ℕ → Bool
member b [] = false
member b (x ∷ s) = eqb b x || member b s

unfoldable pub non_empty : {A : Type 0} → List A → Bool
non_empty [] = false
non_empty (x ∷ s) = true

-- the first byte, and the last; 0, which is in no class, where there is none
unfoldable pub first : List ℕ → ℕ
first [] = 0
first (x ∷ s) = x

unfoldable pub last : List ℕ → ℕ
last [] = 0
last (x ∷ []) = x
last (x ∷ y ∷ s) = last (y ∷ s)

-- one more byte in front of a text, where there is one
unfoldable pub onto : ℕ → Option (List ℕ) → Option (List ℕ)
onto b none = none
onto b (some s) = some (b ∷ s)
