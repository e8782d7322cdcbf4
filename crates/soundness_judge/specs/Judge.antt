-- What the functions of the check ask for, and what they promise, of a table that was loaded.
-- Assumes nothing.
use Rattle.std.specs.Prelude.{◌≡◌, Bool, true, false, ◌&&◌, ℕ, ◌≤◌, ◌<◌, ltb, length, Result}
use mathlib.Core.List.{List, Memᴰ}
use Rattle.chars.specs.Case.{same_text}
use Rattle.mailaddr.specs.Domain.{parts_of}
use Rattle.oraddr.specs.declared.record.Record.{Record}
use Rattle.table_load.specs.Tables.{table_of}
use Rattle.table_load.specs.declared.tables as tables
use Rattle.table.specs.Rows.{RowInside, row_at}
use Rattle.table.specs.Table.{Row, Table}
use Rattle.table.specs.declared.line as line
use Rattle.table_lookup.specs.Begins.{begins_by}
use Rattle.table_lookup.specs.Lookup.{begins}
use Rattle.soundness.specs.Check.{Judged}
use Rattle.soundness.specs.Folded.{domain_row, token_table}
use Rattle.soundness.specs.Tokens.{Back, Tried, pad}

-- A row is one of a table's rows to a domain.
pub record RowOf (t : tables.Table.Table) (row : line.Row.Row) : Type 0 where
  pub inside : RowInside t.text.now row
  pub member : Memᴰ (row_at t.text.now row) (table_of t).to_domain

-- A judgement on the table, and on one of its rows.
abbrev pub Judges : (Table → Type 0) → tables.Table.Table → Result Unit Record → Type 0
Judges P t c = Judged (table_of t) (P (table_of t)) c

abbrev pub JudgesRow : (Table → Row → Type 0) → tables.Table.Table → line.Row.Row → Result Unit Record → Type 0
JudgesRow P t row c = Judges (λ u. P u (row_at t.text.now row)) t c

-- the levels of a row's path come back; and with a fresh token behind them, where it omits PRMD or does not
abbrev pub PlainBack : Table → Row → Type 0
PlainBack t r = Back (token_table t) (pad (domain_row r).key)

abbrev pub FreshBack : Bool → Table → Row → Type 0
FreshBack omits t r = Tried (token_table t) (domain_row r) omits

-- a domain lies under another: the other is a tail of it by whole parts, and there is more in front
unfoldable pub is_under : List ℕ → List ℕ → Bool
unfolding begins_by same_text parts_of
is_under d e = ltb (length d) (length e) && begins (parts_of d) (parts_of e)
