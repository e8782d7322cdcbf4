-- `check_cases::run_table` is safe. The room's length is had by a law, since an array of this size is too long to be counted by computing.
-- Assumes nothing.
use mathlib.Core.Path.{sym}
use Prim.Native.Nat.{ℕ}
use lib.ListN.{length-replicate}
use Rattle.check_cases.proofs.run_table.Goals as goal

pub slice_bounds-run_read-end : goal.slice_bounds-run_read-end
slice_bounds-run_read-end g c = sym (length-replicate {A = ℕ} 65537 0)
