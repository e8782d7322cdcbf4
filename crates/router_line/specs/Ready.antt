-- A text at a place in the output.
-- Assumes nothing.
use Rattle.std.specs.Prelude.{◌≡◌, List, ℕ, ◌+◌, ◌≤◌, ◌<◌, length, Option, Some, None}
use Rattle.chars.specs.Write.{Wrote}

-- a text at a place, and the place behind it; or nothing where it does not fit
abbrev pub Placed : List ℕ → ℕ → List ℕ → Option ℕ → List ℕ → Type 0
Placed old at text (Some n) new = Wrote old at text n new × (n ≤ length old)
Placed old at text None new = (new ≡ old) × (length old < at + length text)
