-- The table that a loaded table's struct stands for, what reading one comes to, and the lists that it keeps.
-- Assumes nothing.
use Rattle.std.specs.Prelude.{◌≡◌, List, ℕ, Result, Ok, Err}
use Rattle.std.specs.Borrow.{Bor, MutBor}
use Rattle.table.specs.Table.{Table}
use Rattle.table.specs.Lines.{TableOutcome, malformed, well_formed}
use Rattle.table.specs.Rows.{table_at}
use Rattle.table.specs.declared.load.Loaded.{Loaded}
use Rattle.table.specs.declared.load.Malformed.{Malformed}
use Rattle.table_load.specs.declared.tables as tables

-- its rows, as tokens
abbrev pub table_of : tables.Table.Table → Table
table_of t = table_at t.text.now t.to_path.now t.to_domain.now t.loaded

-- the table that was read, or the number of the first bad line
abbrev pub table_answer : Result tables.Table.Table Malformed → TableOutcome
table_answer (Ok t) = well_formed (table_of t)
table_answer (Err e) = malformed e.line

-- Its lists are the two that were lent for its rows: the same places, so that what it says of its lists is said of those.
pub record InLists (ds rs : MutBor (List ℕ)) (t : tables.Table.Table) : Type 0 where
  pub to_path : t.to_path.ref_ptr ≡ ds.ref_ptr
  pub to_domain : t.to_domain.ref_ptr ≡ rs.ref_ptr

-- It keeps the text and the two lists that were given for it, each at its place, and what was loaded.
pub record Keeps (s ds rs : Bor (List ℕ)) (l : Loaded) (t : tables.Table.Table) : Type 0 where
  pub text : t.text ≡ s
  pub to_path : t.to_path ≡ ds
  pub to_domain : t.to_domain ≡ rs
  pub loaded : t.loaded ≡ l

-- the table of what was loaded, or the same line
abbrev pub Tabled : Bor (List ℕ) → Bor (List ℕ) → Bor (List ℕ) → Result Loaded Malformed → Result tables.Table.Table Malformed → Type 0
Tabled s ds rs (Ok l) (Ok t) = Keeps s ds rs l t
Tabled s ds rs (Err e) (Err f) = f ≡ e
Tabled s ds rs (Ok l) (Err f) = ⊥
Tabled s ds rs (Err e) (Ok t) = ⊥
