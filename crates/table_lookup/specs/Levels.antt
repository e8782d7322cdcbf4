-- The levels of a path as the code reads them from the table text, one at a time.
-- Assumes nothing.
use Rattle.std.specs.Prelude.{◌≡◌, List, [], ◌∷◌, take, drop, ℕ, ◌+◌, ◌≤◌, ◌<◌}
use Rattle.table.specs.Table.{Token}
use Rattle.table.specs.Rows.{fields_at}
use Rattle.table_lookup.specs.declared.level.Span.{Span}
use Rattle.table_lookup.specs.declared.level.LevelKind.{LevelKind}
use Rattle.table_lookup.specs.declared.level.LevelKind.TheVariants.{Named, Omitted, NotReached}

-- what stands at a place of the table text
unfoldable pub span_text : List ℕ → Span → List ℕ
span_text s p = take p.len (drop p.start s)

-- "each level of a row is named, omitted or not reached": the token of a level, empty where it is not named
unfoldable pub level_token : List ℕ → LevelKind → Token
unfolding span_text
level_token s (Named p) = span_text s p
level_token s Omitted = []
level_token s NotReached = []

-- The level whose field starts at a place, in a path that ends at another: its token, the fields behind it from `next` on, and
-- where a named one stands.
pub record LevelFound (s : List ℕ) (at end next : ℕ) (kind : LevelKind) : Type 0 where
  pub fields : fields_at s at end ≡ level_token s kind ∷ fields_at s next end
  pub onward : at < next
  pub within : next ≤ end + 1

pub record NamedFound (s : List ℕ) (at end next : ℕ) (p : Span) : Type 0 where
  pub found : LevelFound s at end next (Named p)
  pub starts : p.start ≡ at
  pub some : 0 < p.len
  pub ends : p.start + p.len + 1 ≡ next

-- past the last field no level is reached
pub record PathEnded (s : List ℕ) (at end next : ℕ) : Type 0 where
  pub fields : fields_at s at end ≡ []
  pub past : end < at
  pub stays : next ≡ at

abbrev pub Levelled : List ℕ → ℕ → ℕ → ℕ → LevelKind → Type 0
Levelled s at end next (Named p) = NamedFound s at end next p
Levelled s at end next Omitted = LevelFound s at end next Omitted
Levelled s at end next NotReached = PathEnded s at end next
