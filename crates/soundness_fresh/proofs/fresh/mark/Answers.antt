-- `soundness_fresh::fresh::mark` meets its contract: a number past the marks marks none.
-- Assumes nothing.
use mathlib.Core.Bool.{true}
use mathlib.Core.Path.{sym, ap, ◌∙◌}
use Prim.Native.Nat.{ℕ}
use native.Mathlib.Omega.{arith}
use lib.ListN.{set}
use lib.Seq.{set_out}
use Rattle.soundness_fresh.proofs.fresh.mark.Goals as goal

pub returns-then-n-marks : goal.returns-then-n-marks
returns-then-n-marks c =
    ap (λ (n : ℕ). set c.args.marks.now n true) c.number_of-n.ensures

pub returns-else-n-marks : goal.returns-else-n-marks
returns-else-n-marks c =
    let marks = c.args.marks.now in
    sym (set_out marks c.number_of-n.result true (omega arith))
    ∙ ap (λ (n : ℕ). set marks n true) c.number_of-n.ensures
