-- Rows in order, as the code keeps them: beside the places of the rows a list of their numbers, the number of the row with the least key
-- first. What a search by halving in it is given, and what it finds.
-- Assumes nothing.
use Rattle.std.specs.Prelude.{◌≡◌, true, false, List, ℕ, suc, ◌+◌, ◌-◌, ◌*◌, ◌≤◌, ◌<◌, length, get_or}
use Rattle.table.specs.Table.{Token}
use Rattle.table.specs.Keys.{key_text}
use Rattle.table.specs.Lines.{most_rows}
use Rattle.table.specs.Rows.{Inside, RowInside, order_start, places_at}
use Rattle.table.specs.declared.rows.Key.{Key}
use Rattle.table_order.specs.Order.{key_tokens, key_up_to, shared, spell_by, under}
use Rattle.table_order.specs.declared.compare.Compared.{Compared}
use Rattle.table_order.specs.declared.place.Place.{Place}
use Rattle.table_order.specs.declared.place.Range.{Range}

-- the number of the row that stands at place i of the order
unfoldable pub number_in : List ℕ → ℕ → ℕ
number_in ns i = get_or ns (order_start + i) 0

-- the text of its key
unfoldable pub key_in : Key → List ℕ → List ℕ → ℕ → List ℕ
unfolding key_text places_at number_in
key_in k s ns i = key_text k s (places_at ns (number_in ns i))

-- keys rise: none is up to one before it
abbrev pub Rising : (ℕ → List Token) → ℕ → Type 0
Rising K n = (i j : ℕ) → i < j → j < n → key_up_to (K j) (K i) ≡ false

-- The first n numbers of the order stand for rows of the text whose keys rise.
pub record Ordered (k : Key) (s ns : List ℕ) (n : ℕ) : Type 0 where
  pub few : n ≤ most_rows
  pub room : order_start + n ≤ length ns
  pub rows : (i : ℕ) → i < n → number_in ns i * 4 + 4 ≤ length ns
  pub inside : (i : ℕ) → i < n → RowInside s (places_at ns (number_in ns i))
  pub rising : Rising (λ i. key_tokens k (key_in k s ns i)) n

-- Rows kept in order: the first n rows are in the text, the order has the number of each of them, and their keys rise.
pub record Sorted (k : Key) (s ns : List ℕ) (n : ℕ) : Type 0 where
  pub inside : Inside s ns n
  pub ordered : Ordered k s ns n
  pub each : (i : ℕ) → i < n → number_in ns i < n
  pub every : (m : ℕ) → m < n → (i : ℕ) × (i < n) × (number_in ns i ≡ m)

-- ---- comparing and halving

-- what comparing two lists of ranks comes to
pub record Comparing (p q : List ℕ) (r : Compared) : Type 0 where
  pub many : r.shared ≡ shared p q
  pub less : r.under ≡ under p q

-- the key at place i of the order, as ranks
unfoldable pub ranks_in : Key → List ℕ → List ℕ → ℕ → List ℕ
unfolding spell_by key_in
ranks_in k s ns i = spell_by k (key_in k s ns i)

-- the keys before `at` are not over the query, the others are; and how many ranks the last before it shares with the query
pub record PlaceFound (K : ℕ → List ℕ) (n : ℕ) (q : List ℕ) (r : Place) : Type 0 where
  pub most : r.at ≤ n
  pub lows : (i : ℕ) → i < r.at → under (K i) q ≡ true
  pub highs : (i : ℕ) → r.at ≤ i → i < n → under (K i) q ≡ false
  pub beside : (k : ℕ) → suc k ≡ r.at → shared (K k) q ≡ r.shared

-- a search is in the range
pub record Within (K : ℕ → List ℕ) (n : ℕ) (q : List ℕ) (r : Range) : Type 0 where
  pub order : r.lo ≤ r.hi
  pub most : r.hi ≤ n
  pub lows : (i : ℕ) → i < r.lo → under (K i) q ≡ true
  pub highs : (i : ℕ) → r.hi ≤ i → i < n → under (K i) q ≡ false
  pub low_none : r.lo ≡ 0 → r.low ≡ 0
  pub low_beside : (k : ℕ) → suc k ≡ r.lo → shared (K k) q ≡ r.low
  pub high_none : r.hi ≡ n → r.high ≡ 0
  pub high_beside : r.hi < n → shared (K r.hi) q ≡ r.high

-- a smaller range that the search is in
pub record Narrowed (K : ℕ → List ℕ) (n : ℕ) (q : List ℕ) (old new : Range) : Type 0 where
  pub within : Within K n q new
  pub less : new.hi - new.lo < old.hi - old.lo

-- how many bytes are compared at a time where they are likely to be equal
abbrev pub block_size : ℕ
block_size = 16

-- Two texts are equal from a place up to another, which is no further than an end.
pub record EqualUpTo (a b : List ℕ) (from end r : ℕ) : Type 0 where
  pub onward : from ≤ r
  pub within : r ≤ end
  pub equal : (j : ℕ) → from ≤ j → j < r → get_or a j 0 ≡ get_or b j 0
