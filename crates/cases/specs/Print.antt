-- A buffer that was filled before a call, and what is left of that.
-- Assumes nothing.
use Rattle.std.specs.Prelude.{Bool, List, ℕ, eqb, drop}
use Rattle.chars.specs.Lists.{all}

-- from a place on each byte is 255, which buffers are filled with
unfoldable pub filled_from : ℕ → List ℕ → Bool
filled_from from s = all (λ b. eqb b 255) (drop from s)
