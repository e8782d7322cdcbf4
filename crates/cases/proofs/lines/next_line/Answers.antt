-- `cases::lines::next_line` meets its contract.
-- Assumes nothing.
use native.Mathlib.Omega.{arith}
use Rattle.cases.proofs.lines.next_line.Goals as goal

pub returns : goal.returns
returns c =
    let r = c.line_end.ensures in
    record { starts = omega (arith, r.ends); after = omega (arith, r.after); within = omega (arith, r.within) }
