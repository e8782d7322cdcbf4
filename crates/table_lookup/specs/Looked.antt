-- What the two look-ups are given and what they answer, by the places that the code keeps.
-- Assumes nothing.
use Rattle.std.specs.Prelude.{◌≡◌, Bool, true, false, not, List, [], ◌∷◌, ◌++◌, ℕ, zero, suc, ◌+◌, ◌*◌, ◌≤◌, ◌<◌, eqb, length, get_or, Some, None}
use Rattle.std.specs.Prelude as prelude
use Rattle.std.proofs.Math.Option.{Option, none, some}
use Rattle.chars.specs.Lists.{all}
use Rattle.table.specs.Table.{Row, Token}
use Rattle.table.specs.Rows.{between, places_at, row_at, rows_at}
use Rattle.table_lookup.specs.Lookup.{RowKey, look}
use Rattle.table_lookup.specs.declared.level.LevelKind.{LevelKind}
use Rattle.table_lookup.specs.declared.level.LevelKind.TheVariants.{Named, Omitted, NotReached}
use Rattle.oraddr.specs.Bounds.{O, bound_of, level_count}

-- a level is reached, and where it is named it stands in the text
unfoldable pub is_reached : LevelKind → Bool
is_reached (Named p) = true
is_reached Omitted = true
is_reached NotReached = false

abbrev pub KindInside : List ℕ → LevelKind → Type 0
KindInside s (Named p) = p.start + p.len ≤ length s
KindInside s Omitted = Unit {0}
KindInside s NotReached = Unit {0}

-- n levels, by where each ends: level k is what stands from `ends[k]` to `ends[k + 1]`
unfoldable pub tokens_from : List ℕ → List ℕ → ℕ → ℕ → List Token
unfolding between
tokens_from s ends k zero = []
tokens_from s ends k (suc n) = between s (get_or ends k 0) (get_or ends (suc k) 0) ∷ tokens_from s ends (suc k) n

-- the eight levels of a record
unfoldable pub level_tokens : List ℕ → List ℕ → List Token
unfolding tokens_from
level_tokens s ends = tokens_from s ends 0 level_count

-- The ends of n levels are there, in order, and in the text.
pub record Ended (s ends : List ℕ) (n : ℕ) : Type 0 where
  pub room : n < length ends
  pub ordered : (k : ℕ) → k < n → get_or ends k 0 ≤ get_or ends (k + 1) 0
  pub inside : (k : ℕ) → k < n → get_or ends (k + 1) 0 ≤ length s

-- the row that was found, one of the first n
unfoldable pub found_row : List ℕ → List ℕ → prelude.Option ℕ → Option Row
unfolding row_at places_at
found_row s ns None = none
found_row s ns (Some i) = some (row_at s (places_at ns i))

abbrev pub Below : ℕ → prelude.Option ℕ → Type 0
Below n None = Unit {0}
Below n (Some i) = i < n

-- A look-up in the first n rows.
pub record Looked (key : RowKey) (s ns : List ℕ) (n : ℕ) (q : List Token) (r : prelude.Option ℕ) : Type 0 where
  pub row : look key (rows_at s ns n) q ≡ found_row s ns r
  pub below : Below n r

-- levels, each with a tab before it: as a path has them, but for the first tab
unfoldable pub tabbed : List Token → List ℕ
tabbed [] = []
tabbed (t ∷ ts) = 9 ∷ (t ++ tabbed ts)

-- room for the eight levels, each at most as long as the longest
abbrev pub levels_room : ℕ
levels_room = level_count * bound_of O

-- Levels that can be looked up as a path: they are there, have room, and no tab is in any.
pub record Laid (s ends : List ℕ) : Type 0 where
  pub ended : Ended s ends level_count
  pub most : get_or ends level_count 0 ≤ levels_room
  pub clear : all (λ t. all (λ x. not (eqb x 9)) t) (level_tokens s ends) ≡ true
