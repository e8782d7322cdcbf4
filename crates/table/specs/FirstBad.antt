-- What "the first bad line" says of the lines themselves, apart from how they are read: which line is bad after which lines, and that no
-- line is.
-- Assumes nothing.
use Rattle.std.specs.Prelude.{◌≡◌, Bool, true, false, List, [], ◌∷◌, ◌++◌, ℕ, suc, length}
use Rattle.chars.specs.Parts.{split}
use Rattle.table.specs.Table.{Table}
use Rattle.table.specs.Lines.{Line, bad_gateway, bad_row, gateway_table, with_row}

-- the table with the rows of lines
unfoldable pub table_after : Table → List Line → Table
unfolding with_row split
table_after t [] = t
table_after t (l ∷ ls) = table_after (with_row t (split 9 l.text)) ls

-- a line is bad after these: as the gateway's line, or as a row behind it
unfoldable pub is_bad : List Line → Line → Bool
unfolding bad_gateway bad_row table_after gateway_table split
is_bad [] l = bad_gateway l
is_bad (g ∷ ls) l = bad_row (table_after (gateway_table (split 9 g.text)) ls) l

-- none of the lines is bad after those before it
abbrev pub NoneBad : List Line → Type 0
NoneBad ls = (before : List Line) (l : Line) (rest : List Line) → ls ≡ before ++ l ∷ rest → is_bad before l ≡ false

-- Line n, counted from 1, is bad after those before it, of which none is.
pub record FirstBad (ls : List Line) (n : ℕ) : Type 0 where
  pub before : List Line
  pub line : Line
  pub rest : List Line
  pub lines : ls ≡ before ++ line ∷ rest
  pub number : n ≡ suc (length before)
  pub bad : is_bad before line ≡ true
  pub none : NoneBad before
