-- What is left of an input when all that can be answered of what has arrived is.
-- Assumes nothing.
use Rattle.std.specs.Prelude.{◌≡◌, List, ℕ, ◌+◌, ◌≤◌, length}
use Rattle.router_line.specs.Line.{longest_line}

-- From a place in the input, of which the bytes up to `end` have arrived, the answers came to `next`: no more is left than a line may have,
-- and nothing where the whole input has arrived.
pub record Came (input : List ℕ) (at end next : ℕ) : Type 0 where
  pub on : at ≤ next
  pub within : next ≤ end
  pub short : end ≤ next + longest_line
  pub all : end ≡ length input → next ≡ end
