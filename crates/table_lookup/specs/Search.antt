-- What the look-up by halving finds among keys in order, spelled as ranks: the longest key that is a front of the query. That it is the row
-- that a plain scan finds is `find`'s contract.
-- Assumes nothing.
use Rattle.std.specs.Prelude.{◌≡◌, Bool, true, false, ◌&&◌, List, [], ◌∷◌, ℕ, ◌≤◌, ◌<◌, eqb, get_or, Option, Some, None}
use Rattle.chars.specs.Parts.{split}
use Rattle.mailaddr.specs.Domain.{parts_of}
use Rattle.table.specs.Table.{Token}
use Rattle.table.specs.declared.rows.Key.{Key}
use Rattle.table.specs.declared.rows.Key.TheVariants.{Domain, Path}
use Rattle.table_order.specs.Order.{closed}
use Rattle.table_order.specs.Place.{ranks_in}
use Rattle.table_order.specs.declared.rows.Rows.{Rows}
use Rattle.table_lookup.specs.Lookup.{RowKey, by_domain, by_path}

-- the first list is the front of the second
unfoldable pub front : List ℕ → List ℕ → Bool
front [] q = true
front (a ∷ p) [] = false
front (a ∷ p) (b ∷ q) = eqb a b && front p q

-- A key that is a front of the query, and every key that is one is a front of it; or none is.
pub record Longest (K : ℕ → List ℕ) (n : ℕ) (q : List ℕ) (j : ℕ) : Type 0 where
  pub below : j < n
  pub fits : front (K j) q ≡ true
  pub most : (i : ℕ) → i < n → front (K i) q ≡ true → front (K i) (K j) ≡ true

abbrev pub Searched : (ℕ → List ℕ) → ℕ → List ℕ → Option ℕ → Type 0
Searched K n q None = (i : ℕ) → i < n → front (K i) q ≡ false
Searched K n q (Some j) = Longest K n q j

-- The longest front by whole tokens that has at most n ranks has k.
pub record WholeFront (q : List ℕ) (n k : ℕ) : Type 0 where
  pub within : k ≤ n
  pub ends : get_or q k 0 ≡ 0
  pub most : (j : ℕ) → j ≤ n → get_or q j 0 ≡ 0 → j ≤ k

-- how long it is, or that there is none
abbrev pub Whole : List ℕ → ℕ → Option ℕ → Type 0
Whole q n None = (j : ℕ) → j ≤ n → get_or q j 0 ≡ 0 → ⊥
Whole q n (Some k) = WholeFront q n k

-- the key at place i of the order, as ranks, with a separator's rank behind it
unfoldable pub closed_key : Key → List ℕ → List ℕ → ℕ → List ℕ
unfolding closed ranks_in
closed_key k s ns i = closed (ranks_in k s ns i)

abbrev pub closed_of : Rows → ℕ → List ℕ
closed_of r = closed_key r.key r.text.now r.numbers.now

-- document 01's keys, and a text as the tokens that it is looked up by: a domain's parts from the right, or the fields of a path
abbrev pub by_key : Key → RowKey
by_key Domain = by_domain
by_key Path = by_path

unfoldable pub tokens_by : Key → List ℕ → List Token
unfolding parts_of split
tokens_by Domain q = parts_of q
tokens_by Path q = split 9 q
