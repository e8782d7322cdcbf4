-- The key of a row, which no two rows of a list have in common: the domain of a row to a path, the path of a row to a domain.
-- Assumes nothing.
use Rattle.std.specs.Prelude.{Bool, not, List, ℕ}
use Rattle.chars.specs.Lists.{all}
use Rattle.table.specs.Table.{Row}
use Rattle.table.specs.Lines.{same_domain, same_path}
use Rattle.table.specs.Rows.{between, row_at, rows_at}
use Rattle.table.specs.declared.line as line
use Rattle.table.specs.declared.rows.Key.{Key}
use Rattle.table.specs.declared.rows.Key.TheVariants.{Domain, Path}
use Rattle.table.specs.declared.rows.KeyPlace.{KeyPlace}

-- where the key of the row at the places stands
abbrev pub key_place : Key → line.Row.Row → KeyPlace
key_place Domain p = record { from = p.domain; end = p.domain_end }
key_place Path p = record { from = p.path; end = p.path_end }

-- its text: of a path the whole, tabs and all
unfoldable pub key_text : Key → List ℕ → line.Row.Row → List ℕ
unfolding between
key_text k s p = between s (key_place k p).from (key_place k p).end

-- two rows have one key, letter case aside
abbrev pub same_key : Key → Row → Row → Bool
same_key Domain r q = same_domain r q
same_key Path r q = same_path r q

-- none of the first n rows has the key of the row at the places
abbrev pub is_new_key : Key → List ℕ → List ℕ → ℕ → line.Row.Row → Bool
is_new_key k s ns n p = all (λ q. not (same_key k (row_at s p) q)) (rows_at s ns n)
