-- Putting a row into the order.
-- Assumes nothing.
use Rattle.std.specs.Prelude.{◌≡◌, Bool, true, ◌&&◌, List, ◌++◌, ◌∷◌, [], ℕ, suc, ◌+◌, ◌-◌, ◌*◌, ◌≤◌, ◌<◌, eqb, ltb, length}
use Rattle.table.specs.Keys.{is_new_key, key_place}
use Rattle.table.specs.Lines.{most_rows}
use Rattle.table.specs.Rows.{order_start, places_at, row_at, rows_at}
use Rattle.table.specs.declared.line as line
use Rattle.table.specs.declared.rows.Key.{Key}
use Rattle.table_order.specs.Place.{Sorted, number_in}
use Rattle.table_order.specs.declared.place.Place.{Place}

-- how long the key at place i of the order is
abbrev pub key_size : Key → List ℕ → ℕ → ℕ
key_size k ns i = (key_place k (places_at ns (number_in ns i))).end - (key_place k (places_at ns (number_in ns i))).from

-- The row at place i of the order is in the list, and its key's ends are in order.
pub record Reachable (k : Key) (ns : List ℕ) (i : ℕ) : Type 0 where
  pub room : order_start + i < length ns
  pub row : number_in ns i * 4 + 4 ≤ length ns
  pub ends : (key_place k (places_at ns (number_in ns i))).from ≤ (key_place k (places_at ns (number_in ns i))).end

-- the last key that is not over a query of so many ranks has as many, and shares them all
unfoldable pub is_last : Key → List ℕ → Place → ℕ → Bool
is_last k ns p size = ltb 0 p.at && (eqb p.shared size && eqb (key_size k ns (p.at - 1)) size)

-- An order of n numbers with the number n put in at place k; the rows' places stay.
pub record Opened (ns : List ℕ) (n k : ℕ) (ms : List ℕ) : Type 0 where
  pub size : length ms ≡ length ns
  pub places : (j : ℕ) → j < most_rows → places_at ms j ≡ places_at ns j
  pub low : (j : ℕ) → j < k → number_in ms j ≡ number_in ns j
  pub here : number_in ms k ≡ n
  pub high : (j : ℕ) → k ≤ j → j < n → number_in ms (suc j) ≡ number_in ns j

-- A row that was put behind the first n, and into their order.
pub record Joins (k : Key) (s ns : List ℕ) (n : ℕ) (p : line.Row.Row) (ms : List ℕ) : Type 0 where
  pub rows : rows_at s ms (n + 1) ≡ rows_at s ns n ++ (row_at s p ∷ [])
  pub sorted : Sorted k s ms (n + 1)

-- Whether a row has a new key, and if it has, the rows with it.
pub record Inserting (k : Key) (s ns : List ℕ) (n : ℕ) (p : line.Row.Row) (new : Bool) (ms : List ℕ) : Type 0 where
  pub answers : new ≡ is_new_key k s ns n p
  pub joins : new ≡ true → Joins k s ns n p ms
