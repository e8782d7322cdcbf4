-- What a record says: its attributes as byte strings, an absent one being empty, and the levels.
-- Assumes nothing.
use Rattle.std.specs.Prelude.{ℕ, List, [], ◌++◌, get_or, take, replicate}
use Rattle.oraddr.specs.Bounds.{most, own_levels}

-- a domain defined attribute: its type and its value
pub record Dd : Type 0 where
  pub kind : List ℕ
  pub value : List ℕ

-- The attributes of a record: those that it has once by their numbers, absent ones empty; the units, most significant first; the DDs in order.
pub record Attributes : Type 0 where
  pub single : List (List ℕ)
  pub units : List (List ℕ)
  pub dds : List Dd

-- the value of an attribute that a record has once, by its number
unfoldable pub single_of : Attributes → ℕ → List ℕ
single_of a k = get_or a.single k []

unfoldable pub unit_of : Attributes → ℕ → List ℕ
unit_of a i = get_or a.units i []

-- what a place with no DD holds
unfoldable pub no_dd : Dd
no_dd = record { kind = []; value = [] }

-- document 01: "The levels are C, ADMD, PRMD, O, OU1 to OU4". An absent one is empty.
unfoldable pub levels : Attributes → List (List ℕ)
levels a = take own_levels a.single ++ take most (a.units ++ replicate most [])
