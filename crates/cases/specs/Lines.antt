-- The lines of a text, and the two fields of a line.
-- Assumes nothing.
use Rattle.std.specs.Prelude.{◌≡◌, List, [], ◌∷◌, ℕ, ◌+◌, ◌≤◌, ◌<◌, cond, eqb, length, take, drop}
use Rattle.chars.specs.Parts.{before, run}

-- the lines of a text, each without its LF; the last one may lack it, and behind an LF at the end there is no further line
unfoldable pub lines : List ℕ → List (List ℕ)
unfolding before
lines [] = []
lines (x ∷ s) = cond (eqb x 10) ([] ∷ lines s) (before x (lines s))

-- a line ends in front of the first LF behind its start, or where the text ends
pub record LineEnd (s : List ℕ) (from end : ℕ) : Type 0 where
  pub ends : end ≡ from + run 10 (drop from s)
  pub after : from ≤ end
  pub within : end ≤ length s

-- the line that starts at a place
abbrev pub line_at : ℕ → List ℕ → List ℕ
line_at from s = take (run 10 (drop from s)) (drop from s)

-- the next line starts behind the LF
pub record NextLine (s : List ℕ) (from next : ℕ) : Type 0 where
  pub starts : next ≡ from + run 10 (drop from s) + 1
  pub after : from < next
  pub within : next ≤ length s + 1

-- what stands in front of the first tab, and behind it
abbrev pub first_field : List ℕ → List ℕ
first_field s = take (run 9 s) s

abbrev pub second_field : List ℕ → List ℕ
second_field s = drop (run 9 s + 1) s
