-- `cases::lines::line` meets its contract.
-- Assumes nothing.
use mathlib.Core.Path.{◌≡◌, ap}
use Prim.Native.Nat.{ℕ, ◌-◌}
use native.Mathlib.Omega.{arith}
use lib.ListN.{drop, take}
use Rattle.chars.specs.Parts.{run}
use Rattle.cases.proofs.lines.line.Goals as goal

pub returns : goal.returns
returns c =
    let a = c.args in
    let s = a.s.now in
    let e : c.line_end-end.result - a.from ≡ run 10 (drop a.from s) = omega (arith, c.line_end-end.ensures.ends) in
    ap (λ (k : ℕ). take k (drop a.from s)) e
