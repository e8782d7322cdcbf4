-- What `lesser` is: at most each of its two numbers.
-- Assumes nothing.
use mathlib.Core.Path.{◌≡◌, ◌∙◌, ap}
use Prim.Native.Nat.{ℕ, ◌≤◌}
use mathlib.Core.List.{List}
use native.Mathlib.Omega.{arith}
use lib.ListN.{length, take}
use Rattle.std.proofs.lemmas.List.{take_min}
use Rattle.rowlist.specs.declared.RowEntry.{RowEntry}
use Rattle.rowlist.specs.Entries.{lesser}

pub lesser-fits : (a b : ℕ) → (lesser a b ≤ a) × (lesser a b ≤ b)
lesser-fits a b = (omega arith, omega arith)

-- as many of a list as there are, or as there is room for
pub take-lesser : (rows : List RowEntry) (b : ℕ) → take (lesser (length rows) b) rows ≡ take b rows
take-lesser rows b = ap (λ n. take n rows) (omega arith) ∙ take_min b rows
