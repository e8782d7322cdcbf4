-- `cases::parts::second_field` meets its contract: a field ends within the text.
-- Assumes nothing.
use mathlib.Core.Path.{◌≡◌, ◌∙◌, ap}
use Prim.Native.Nat.{ℕ, ◌+◌}
use native.Mathlib.Omega.{arith}
use lib.ListN.{drop}
use Rattle.chars.specs.Parts.{run}
use Rattle.chars.proofs.Laws.Parts.{run_le}
use Rattle.cases.proofs.parts.second_field.Goals as goal

pub overflow_add-part_end : goal.overflow_add-part_end
overflow_add-part_end c = omega (arith, c.part_end.ensures, run_le 9 c.args.s.now)

pub returns : goal.returns
returns c =
    let s = c.args.s.now in
    let e : c.part_end.result ≡ run 9 s = omega (arith, c.part_end.ensures) in
    c.rest.ensures ∙ ap (λ (k : ℕ). drop (k + 1) s) e
