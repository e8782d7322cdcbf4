-- What the places that the code keeps stand for: a row, the rows of a list of numbers, and the table that was loaded.
-- Assumes nothing.
use Rattle.std.specs.Prelude.{◌≡◌, true, false, ◌&&◌, cond, List, [], ◌∷◌, ℕ, zero, suc, ◌-◌, ◌*◌, ◌+◌, ◌≤◌, ◌<◌, leb, length, get_or, take, drop, Option, Some, None}
use Rattle.std.proofs.lemmas.List.Edits.{sets}
use Rattle.chars.specs.Parts.{split}
use Rattle.oraddr.specs.Bounds.{level_count}
use Rattle.table.specs.Table.{Row, Table, Token}
use Rattle.table.specs.Lines as lines
use Rattle.table.specs.declared.line as line
use Rattle.table.specs.declared.load as load

-- what stands from a place up to another
unfoldable pub between : List ℕ → ℕ → ℕ → List ℕ
between s from end = take (end - from) (drop from s)

-- the fields of a region of the text, a tab between each two; past its end there are none
unfoldable pub fields_at : List ℕ → ℕ → ℕ → List Token
unfolding between split
fields_at s at end = cond (leb at end) (split 9 (between s at end)) []

-- the row whose domain and path stand at the places
unfoldable pub row_at : List ℕ → line.Row.Row → Row
unfolding between fields_at
row_at s p = record { domain = between s p.domain p.domain_end; path = fields_at s p.path p.path_end }

-- What was read of a line from one place to another, with the tag and a domain of at most so many bytes: the places of its row, or
-- that it is bad.
pub record RowFound (s : List ℕ) (from end tag most : ℕ) (p : line.Row.Row) : Type 0 where
  pub accepted : lines.has_tag tag (split 9 (between s from end)) && lines.is_row most (lines.row_of (split 9 (between s from end))) ≡ true
  pub row : row_at s p ≡ lines.row_of (split 9 (between s from end))
  pub starts : p.domain ≡ from + 2
  pub domain : p.domain ≤ p.domain_end
  pub apart : p.path ≡ p.domain_end + 1
  pub path : p.path ≤ p.path_end
  pub ends : p.path_end ≡ end

abbrev pub RowReading : List ℕ → ℕ → ℕ → ℕ → ℕ → Option line.Row.Row → Type 0
RowReading s from end tag most (Some p) = RowFound s from end tag most p
RowReading s from end tag most None =
    lines.has_tag tag (split 9 (between s from end)) && lines.is_row most (lines.row_of (split 9 (between s from end))) ≡ false

-- The places of a row are in order, and inside the text, wherever they stand in it; its domain is no longer than any may be, and its path
-- has no more fields than there are levels.
pub record RowInside (s : List ℕ) (p : line.Row.Row) : Type 0 where
  pub domain : p.domain ≤ p.domain_end
  pub within-domain : p.domain_end ≤ length s
  pub path : p.path ≤ p.path_end
  pub within : p.path_end ≤ length s
  pub short : p.domain_end - p.domain ≤ lines.longest_gateway_domain
  pub levels : length (fields_at s p.path p.path_end) ≤ level_count

-- the numbers of each list of rows: four for each of 512, and behind them the order, one for each
abbrev pub order_start : ℕ
order_start = 2048

abbrev pub rows_size : ℕ
rows_size = 2560

-- the places of row i in a list of numbers, four for each row
unfoldable pub places_at : List ℕ → ℕ → line.Row.Row
places_at ns i =
    record {
      domain = get_or ns (i * 4) 0;
      domain_end = get_or ns (i * 4 + 1) 0;
      path = get_or ns (i * 4 + 2) 0;
      path_end = get_or ns (i * 4 + 3) 0;
    }

-- the list of numbers with the places of a row at number i
unfoldable pub put_at : List ℕ → ℕ → line.Row.Row → List ℕ
put_at ns i p = sets ns (i * 4) (p.domain ∷ p.domain_end ∷ p.path ∷ p.path_end ∷ [])

-- the first n rows of a list of numbers are in the text, and in the list
pub record Inside (s ns : List ℕ) (n : ℕ) : Type 0 where
  pub fits : n * 4 ≤ length ns
  pub each : (i : ℕ) → i < n → RowInside s (places_at ns i)

-- the rows from number i on, n of them
unfoldable pub rows_from : List ℕ → List ℕ → ℕ → ℕ → List Row
unfolding row_at places_at
rows_from s ns i zero = []
rows_from s ns i (suc n) = row_at s (places_at ns i) ∷ rows_from s ns (suc i) n

-- the first n rows
unfoldable pub rows_at : List ℕ → List ℕ → ℕ → List Row
unfolding rows_from
rows_at s ns n = rows_from s ns 0 n

-- the table that was loaded from a text: its gateway's row, and the rows in the two lists of numbers
unfoldable pub table_at : List ℕ → List ℕ → List ℕ → load.Loaded.Loaded → Table
unfolding row_at rows_at
table_at s ds rs t =
    record { gateway = row_at s t.gateway; to_path = rows_at s ds t.to_path; to_domain = rows_at s rs t.to_domain }

-- ---- lines by their places

-- the line from a place up to another, where its LF stands
unfoldable pub line_at : List ℕ → ℕ → ℕ → lines.Line
unfolding between
line_at s from end = record { text = between s from end; ended = true }

-- the lines from a place on, where a line starts or the text ends
unfoldable pub lines_from : List ℕ → ℕ → List lines.Line
unfolding lines.lines_of split
lines_from s at = lines.lines_of (split 10 (drop at s))

-- the table of a gateway with no rows
unfoldable pub bare_table : Row → Table
bare_table r = record { gateway = r; to_path = []; to_domain = [] }
