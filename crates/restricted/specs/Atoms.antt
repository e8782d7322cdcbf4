-- What the theorems on coded text are said in: coded text is atoms joined by dots exactly when the text is not empty, has no `@`, and its
-- dots are single and inner.
-- Assumes nothing.
use Rattle.std.specs.Prelude.{ℕ, Bool, ◌&&◌, ◌||◌, not, List, eqb}
use Rattle.chars.specs.Lists.{first, last, member, non_empty}
use Rattle.chars.specs.Parts.{side_by_side}
use Rattle.restricted.specs.Code.{is_plain}

-- the grammar's characters: an a-char, or the "_" and the "#" of an a-encoded-char, whose letters and digits are a-chars
unfoldable pub is_coded_char : ℕ → Bool
unfolding is_plain
is_coded_char b = is_plain b || eqb b 95 || eqb b 35

-- its dots are single and inner
unfoldable pub dots_single_inner : List ℕ → Bool
unfolding first last side_by_side
dots_single_inner s = not (side_by_side 46 s) && not (eqb (first s) 46) && not (eqb (last s) 46)

-- not empty, with no `@`, and its dots are single and inner
unfoldable pub is_coded_atoms : List ℕ → Bool
unfolding non_empty member dots_single_inner
is_coded_atoms s = non_empty s && not (member 64 s) && dots_single_inner s
