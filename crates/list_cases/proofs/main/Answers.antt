-- `list_cases::main` is safe. The room's length is had by a law, since an array of this size is too long to be counted by computing.
-- Assumes nothing.
use mathlib.Core.Path.{sym}
use Prim.Native.Nat.{ℕ}
use lib.ListN.{length-replicate}
use Rattle.list_cases.proofs.main.Goals as goal

pub slice_bounds-read_and_run-end : goal.slice_bounds-read_and_run-end
slice_bounds-read_and_run-end c = sym (length-replicate {A = ℕ} 2097152 0)
