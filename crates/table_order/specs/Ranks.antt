-- The keys of rows in order, and a query, as the ranks that they are compared by.
-- Assumes nothing.
use Rattle.std.specs.Prelude.{List, ℕ}
use Rattle.table_order.specs.Order.{spell_by}
use Rattle.table_order.specs.Place.{ranks_in}
use Rattle.table_order.specs.declared.rows.Rows.{Rows}

-- the key at place i of the order
abbrev pub ranks_of : Rows → ℕ → List ℕ
ranks_of r = ranks_in r.key r.text.now r.numbers.now

-- a text that is looked up among them
abbrev pub query_of : Rows → List ℕ → List ℕ
query_of r q = spell_by r.key q
