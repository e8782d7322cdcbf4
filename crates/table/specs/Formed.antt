-- Document 01, "The table text": what its rules leave of a table that was loaded. The gateway's line and the rows are ones that a line
-- could spell, there are at most 512 rows, and no two rows of a list have one key.
-- Assumes nothing.
use Rattle.std.specs.Prelude.{◌≡◌, Bool, true, ◌&&◌, not, List, [], ◌∷◌, ◌+◌, ◌≤◌, length}
use Rattle.chars.specs.Lists.{all}
use Rattle.table.specs.Table.{Table}
use Rattle.table.specs.Lines.{is_row, longest_gateway_domain, longest_row_domain, most_rows, same_domain, same_path}

-- each element differs from every one before it; the later one is the test's first argument, as a new row's is
unfoldable pub distinct : {A : Type 0} → (A → A → Bool) → List A → Bool
unfolding all
distinct same [] = true
distinct same (x ∷ s) = all (λ y. not (same y x)) s && distinct same s

-- A table that keeps the rules of "The table text".
pub record Formed (t : Table) : Type 0 where
  pub gateway : is_row longest_gateway_domain t.gateway ≡ true
  pub paths : all (is_row longest_row_domain) t.to_path ≡ true
  pub domains : all (is_row longest_row_domain) t.to_domain ≡ true
  pub few : length t.to_path + length t.to_domain ≤ most_rows
  pub each_domain : distinct same_domain t.to_path ≡ true
  pub each_path : distinct same_path t.to_domain ≡ true
