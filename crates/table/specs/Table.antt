-- Document 01, "The table text": the table that a text spells, as tokens. Everything above is defined over it.
-- Assumes nothing.
use Rattle.std.specs.Prelude.{ℕ, List}

-- a token is a byte string; the empty one is an omitted level
abbrev pub Token : Type 0
Token = List ℕ

-- A row: its domain as given, and its path, levels from C, "two to eight fields".
pub record Row : Type 0 where
  pub domain : List ℕ
  pub path : List Token

-- the gateway's domain and path, the rows from a domain to a path, and those from a path to a domain
pub record Table : Type 0 where
  pub gateway : Row
  pub to_path : List Row
  pub to_domain : List Row
