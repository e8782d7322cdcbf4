-- `cases::parts::first_field` meets its contract.
-- Assumes nothing.
use mathlib.Core.Path.{◌≡◌, ◌∙◌, ap}
use Prim.Native.Nat.{ℕ}
use native.Mathlib.Omega.{arith}
use lib.ListN.{take}
use Rattle.chars.specs.Parts.{run}
use Rattle.cases.proofs.parts.first_field.Goals as goal

pub returns : goal.returns
returns c =
    let s = c.args.s.now in
    let e : c.part_end.result ≡ run 9 s = omega (arith, c.part_end.ensures) in
    c.front.ensures ∙ ap (λ (k : ℕ). take k s) e
