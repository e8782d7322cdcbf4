-- `dates::write::sign_of` meets its contract.
-- Assumes nothing.
use mathlib.Core.Path.{sym, ap, ◌∙◌}
use lib.IntN.{ℤ, pos}
use lib.Signed.{lt_z}
use mir.Syntax.{w32}
use mir.ValLaws.{to_z-of_z}
use Rattle.dates.proofs.Laws.Offset.{below}
use Rattle.dates.proofs.write.sign_of.Goals as goal

pub returns-then-offset-lt0 : goal.returns-then-offset-lt0
returns-then-offset-lt0 c =
    let z = c.args.offset in
    rw (below z, ap (λ (v : ℤ). lt_z v (pos 0)) (sym (to_z-of_z w32 z c.ranges.offset)) ∙ c.if-offset-lt0.true)

pub returns-else-offset-lt0 : goal.returns-else-offset-lt0
returns-else-offset-lt0 c =
    let z = c.args.offset in
    rw (below z, ap (λ (v : ℤ). lt_z v (pos 0)) (sym (to_z-of_z w32 z c.ranges.offset)) ∙ c.if-offset-lt0.false)
