-- A lent list of row records spells a table, as a table text does: each entry stands for a line, and the lines are read by the rules of
-- "The table text".
-- Assumes nothing.
use Rattle.std.specs.Prelude.{◌≡◌, Bool, true, false, ◌&&◌, not, List, [], ◌∷◌, ◌++◌, map, ℕ, ◌+◌, leb, eqb, length, Option, Some, None}
use Rattle.chars.specs.Lists.{all}
use Rattle.chars.specs.Parts.{split}
use Rattle.rowlist.specs.declared.RowEntry.{RowEntry}
use Rattle.table.specs.Lines as lines
use Rattle.table.specs.Lines.{has_tag, is_row, read_lines, row_of}
use Rattle.table.specs.Rows.{RowInside, between, row_at}
use Rattle.table.specs.Table.{Token}
use Rattle.table.specs.declared.line as line

-- the domain and the path of an entry, as far as they are in the text
unfoldable pub domain_part : List ℕ → RowEntry → List ℕ
unfolding between
domain_part s e = between s e.domain (e.domain + e.domain_len)

unfoldable pub path_part : List ℕ → RowEntry → List ℕ
unfolding between
path_part s e = between s e.path (e.path + e.path_len)

-- a line could spell the entry: both parts are in the text, and no tab cuts the domain
unfoldable pub is_spelled : List ℕ → RowEntry → Bool
unfolding domain_part all
is_spelled s e =
    leb (e.domain + e.domain_len) (length s)
    && leb (e.path + e.path_len) (length s)
    && all (λ x. not (eqb x 9)) (domain_part s e)

-- the line that an entry stands for: kind, tab, domain, tab, path; an entry that no line could spell is as bad as a line without its LF
unfoldable pub entry_line : List ℕ → RowEntry → lines.Line
unfolding domain_part path_part is_spelled
entry_line s e = record { text = e.kind ∷ 9 ∷ (domain_part s e ++ 9 ∷ path_part s e); ended = is_spelled s e }

-- The table that a list spells, or the number of its first bad entry; the gateway's is 1. "the 65,536 bytes bound the text alone
-- and ask nothing of a list".
unfoldable pub listed_from : List ℕ → List RowEntry → lines.TableOutcome
unfolding entry_line read_lines
listed_from s es = read_lines (map (entry_line s) es)

-- ---- lines, as a list and a text share them

-- the fields of a line, one tab between two
abbrev pub fields_of : lines.Line → List Token
fields_of l = split 9 l.text

-- lines as a text, each with its LF
unfoldable pub lines_text : List lines.Line → List ℕ
lines_text [] = []
lines_text (l ∷ ls) = l.text ++ 10 ∷ lines_text ls

-- ---- an entry by itself

-- an entry is a row of a kind, with a domain of at most so many bytes
unfoldable pub is_entry : List ℕ → RowEntry → ℕ → ℕ → Bool
unfolding entry_line split has_tag is_row row_of
is_entry s e kind most =
    (entry_line s e).ended
    && (has_tag kind (split 9 (entry_line s e).text) && is_row most (row_of (split 9 (entry_line s e).text)))

-- What was read of an entry: the places of its row, or that it is bad.
pub record EntryFound (s : List ℕ) (e : RowEntry) (kind most : ℕ) (p : line.Row.Row) : Type 0 where
  pub accepted : is_entry s e kind most ≡ true
  pub row : row_at s p ≡ row_of (split 9 (entry_line s e).text)
  pub inside : RowInside s p

abbrev pub EntryReading : List ℕ → RowEntry → ℕ → ℕ → Option line.Row.Row → Type 0
EntryReading s e kind most (Some p) = EntryFound s e kind most p
EntryReading s e kind most None = is_entry s e kind most ≡ false
