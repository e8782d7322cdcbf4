-- `list_cases::run_case` is safe. The room's length is had by a law, since an array of this size is too long to be counted by computing.
-- Assumes nothing.
use mathlib.Core.Path.{sym}
use Prim.Native.Nat.{ℕ}
use lib.ListN.{length-replicate}
use Rattle.list_cases.proofs.run_case.Goals as goal

pub slice_bounds-run_text-end : goal.slice_bounds-run_text-end
slice_bounds-run_text-end c = sym (length-replicate {A = ℕ} 131072 97)
