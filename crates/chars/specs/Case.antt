-- "Letters are compared case aside everywhere, DD values excepted, and are kept as given" (document 01): folding a byte,
-- and two byte strings equal case aside, and exactly.
-- Assumes nothing.
use Rattle.std.specs.Prelude.{ℕ, ◌+◌, Bool, true, false, ◌&&◌, cond, List, [], ◌∷◌, map, eqb}
use Rattle.chars.specs.Class.{between}

-- a capital letter as its small one, any other byte as it is
unfoldable pub fold_case : ℕ → ℕ
unfolding between
fold_case b = cond (between 65 90 b) (b + 32) b

unfoldable pub fold_text : List ℕ → List ℕ
unfolding fold_case
fold_text s = map fold_case s

-- two lists are as long, and agree at each place by the test e
unfoldable pub agree : {A : Type 0} → (A → A → Bool) → List A → List A → Bool
agree e [] [] = true
agree e [] (y ∷ t) = false
agree e (x ∷ s) [] = false
agree e (x ∷ s) (y ∷ t) = e x y && agree e s t

-- two bytes are one letter, or equal
unfoldable pub same_byte : ℕ → ℕ → Bool
unfolding fold_case
same_byte x y = eqb (fold_case x) (fold_case y)

-- document 01: "letter case aside"
unfoldable pub same_text : List ℕ → List ℕ → Bool
unfolding agree same_byte
same_text s t = agree same_byte s t

-- document 01: "byte for byte"
unfoldable pub equal_text : List ℕ → List ℕ → Bool
unfolding agree
equal_text s t = agree eqb s t
