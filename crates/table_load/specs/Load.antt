-- What the answers of loading stand for: a row added to those of its key, a line's row added, and a table text read.
-- Assumes nothing.
use Rattle.std.specs.Prelude.{◌≡◌, Bool, true, false, not, List, [], ◌∷◌, ◌++◌, ℕ, ◌+◌, ◌≤◌, Option, Some, None, Result, Ok, Err}
use Rattle.chars.specs.Lists.{all}
use Rattle.chars.specs.Parts.{split}
use Rattle.table.specs.Table.{Row, Table}
use Rattle.table.specs.Formed.{Formed}
use Rattle.table.specs.Lines as lines
use Rattle.table.specs.Lines.{bad_row, malformed, most_rows, same_domain, same_path, well_formed, with_row}
use Rattle.table.specs.Rows.{RowInside, table_at}
use Rattle.table.specs.declared.load as loaded
use Rattle.table.specs.declared.rows.Key.{Key}
use Rattle.table.specs.declared.rows.Key.TheVariants.{Domain, Path}
use Rattle.table_order.specs.Place.{Sorted}

-- A loaded table is in order: its places are in the text, the rows of each list stand in the order of their keys, and they are few enough.
pub record Kept (s ds rs : List ℕ) (t : loaded.Loaded.Loaded) : Type 0 where
  pub gateway : RowInside s t.gateway
  pub paths : Sorted Domain s ds t.to_path
  pub domains : Sorted Path s rs t.to_domain
  pub most : t.to_path + t.to_domain ≤ most_rows

-- ---- a row with its key

-- no row of the table has the row's key, letter case aside
abbrev pub is_new_in : Table → Key → Row → Bool
is_new_in t Domain r = all (λ q. not (same_domain r q)) t.to_path
is_new_in t Path r = all (λ q. not (same_path r q)) t.to_domain

-- the table with the row behind those of its key
abbrev pub with_keyed : Table → Key → Row → Table
with_keyed t Domain r = record { gateway = t.gateway; to_path = t.to_path ++ (r ∷ []); to_domain = t.to_domain }
with_keyed t Path r = record { gateway = t.gateway; to_path = t.to_path; to_domain = t.to_domain ++ (r ∷ []) }

-- What adding a row comes to: its key is new and it joins the others, or it is not.
pub record JoinedRow (s : List ℕ) (before : Table) (k : Key) (r : Row) (ds rs : List ℕ) (t : loaded.Loaded.Loaded) : Type 0 where
  pub new : is_new_in before k r ≡ true
  pub table : table_at s ds rs t ≡ with_keyed before k r
  pub kept : Kept s ds rs t

abbrev pub Joining : List ℕ → Table → Key → Row → Option loaded.Loaded.Loaded → List ℕ → List ℕ → Type 0
Joining s before k r (Some t) ds rs = JoinedRow s before k r ds rs t
Joining s before k r None ds rs = is_new_in before k r ≡ false

-- ---- a line

-- What adding a line's row to a table comes to: the line is not bad and its row joins the others, or it is bad.
pub record Joined (s : List ℕ) (before : Table) (l : lines.Line) (ds rs : List ℕ) (t : loaded.Loaded.Loaded) : Type 0 where
  pub good : bad_row before l ≡ false
  pub table : table_at s ds rs t ≡ with_row before (split 9 l.text)
  pub kept : Kept s ds rs t

abbrev pub Adding : List ℕ → Table → lines.Line → Option loaded.Loaded.Loaded → List ℕ → List ℕ → Type 0
Adding s before l (Some t) ds rs = Joined s before l ds rs t
Adding s before l None ds rs = bad_row before l ≡ true

-- what the answer of reading a table text says of it: the table that it spells, or the number of its first bad line
unfoldable pub load_answer : List ℕ → List ℕ → List ℕ → Result loaded.Loaded.Loaded loaded.Malformed.Malformed → lines.TableOutcome
unfolding table_at
load_answer s ds rs (Ok t) = well_formed (table_at s ds rs t)
load_answer s ds rs (Err e) = malformed e.line

-- a table that was answered is in order
abbrev pub KeptBy : List ℕ → List ℕ → List ℕ → Result loaded.Loaded.Loaded loaded.Malformed.Malformed → Type 0
KeptBy s ds rs (Ok t) = Kept s ds rs t
KeptBy s ds rs (Err e) = Unit

-- Reading a table text that comes to l.
pub record Loading (s : List ℕ) (l : lines.TableOutcome) (r : Result loaded.Loaded.Loaded loaded.Malformed.Malformed) (ds rs : List ℕ) : Type 0 where
  pub answers : load_answer s ds rs r ≡ l
  pub kept : KeptBy s ds rs r

-- ---- a table that was read, for a run

-- a table that a text spells keeps the rules of "The table text"
abbrev pub FormedBy : lines.TableOutcome → Type 0
FormedBy (malformed n) = Unit
FormedBy (well_formed t) = Formed t

-- a loaded table is in order and keeps its rules
abbrev pub Ready : List ℕ → List ℕ → List ℕ → Result loaded.Loaded.Loaded loaded.Malformed.Malformed → Type 0
Ready s ds rs (Ok t) = Kept s ds rs t × Formed (table_at s ds rs t)
Ready s ds rs (Err e) = Unit
