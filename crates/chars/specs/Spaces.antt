-- Document 01: "no leading, trailing or adjacent spaces", and the text of a value, which keeps that rule.
-- Assumes nothing.
use Rattle.std.specs.Prelude.{ℕ, Bool, false, ◌&&◌, ◌||◌, not, List, [], ◌∷◌, eqb}
use Rattle.chars.specs.Lists.{all, first, last, non_empty}
use Rattle.chars.specs.Class.{is_printable}

unfoldable pub is_no_space : ℕ → Bool
is_no_space b = not (eqb b 32)

-- two spaces stand side by side
unfoldable pub adjacent : List ℕ → Bool
unfolding first
adjacent [] = false
adjacent (x ∷ s) = eqb x 32 && eqb (first s) 32 || adjacent s

-- document 01: "no leading, trailing or adjacent spaces"
unfoldable pub well_spaced : List ℕ → Bool
unfolding first last adjacent
well_spaced s = not (eqb (first s) 32) && not (eqb (last s) 32) && not (adjacent s)

-- document 01: "non-empty, ... made of printable string characters ..., with no leading, trailing or adjacent spaces"
unfoldable pub is_text : List ℕ → Bool
unfolding all non_empty is_printable well_spaced
is_text s = non_empty s && all is_printable s && well_spaced s
