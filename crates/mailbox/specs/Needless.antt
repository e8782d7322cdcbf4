-- Backslashes that could be left out. A bare address of the accepted shape is written as it was read, to the byte, where no backslash in it is
-- needless.
-- Assumes nothing.
use Rattle.std.specs.Prelude.{ℕ, Bool, true, ◌&&◌, ◌||◌, not, cond, List, [], ◌∷◌, eqb}

-- no backslash of a text is needless: each, which takes the next byte, stands before a quote or a backslash
unfoldable pub no_needless : List ℕ → Bool
no_needless [] = true
no_needless (x ∷ []) = not (eqb x 92)
no_needless (x ∷ y ∷ s) = cond (eqb x 92) ((eqb y 34 || eqb y 92) && no_needless s) (no_needless (y ∷ s))
