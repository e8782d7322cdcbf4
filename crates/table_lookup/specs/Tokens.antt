-- A record's levels as tokens.
-- Assumes nothing.
use Rattle.std.specs.Prelude.{List, ℕ}
use Rattle.table.specs.Table.{Token}
use Rattle.table_lookup.specs.Looked.{level_tokens, tokens_from}
use Rattle.table_lookup.specs.declared.levels.Levels.{Levels}

-- all eight
abbrev pub tokens_of : Levels → List Token
tokens_of l = level_tokens l.bytes.now l.ends.now

-- so many from level k on
abbrev pub tokens_on : Levels → ℕ → ℕ → List Token
tokens_on l = tokens_from l.bytes.now l.ends.now
