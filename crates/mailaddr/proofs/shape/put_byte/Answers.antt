-- `mailaddr::shape::put_byte` meets its contract: what is written is the byte as the definition has it.
-- Assumes nothing.
use Rattle.std.proofs.Common.{◌∙◌, sym}
use mathlib.Core.Path.{◌≡◌, refl, ap}
use mathlib.Core.List.{[], ◌∷◌}
use native.Mathlib.Numerals.{add-one}
use native.Mathlib.Omega.{arith}
use lib.ListN.{length, length-set}
use Rattle.mailaddr.specs.Shape.{escaped}
use Rattle.mailaddr.proofs.shape.put_byte.Goals as goal

pub bounds-dst-at : goal.bounds-dst-at
unfolding escaped
bounds-dst-at c =
    let plain : escaped (c.args.b ∷ []) ≡ c.args.b ∷ [] = rw (sym c.needs_backslash.ensures ∙ c.if-not-needs_backslash.true) in
    omega (arith, ap length plain, c.requires)

pub returns-then-not-needs_backslash : goal.returns-then-not-needs_backslash
unfolding escaped
returns-then-not-needs_backslash c =
    let plain : escaped (c.args.b ∷ []) ≡ c.args.b ∷ [] = rw (sym c.needs_backslash.ensures ∙ c.if-not-needs_backslash.true) in
    rw plain (record { moved = refl; holds = refl })

pub bounds-dst-at-2 : goal.bounds-dst-at-2
unfolding escaped
bounds-dst-at-2 c =
    let marked : escaped (c.args.b ∷ []) ≡ 92 ∷ c.args.b ∷ [] = rw (sym c.needs_backslash.ensures ∙ c.if-not-needs_backslash.false) in
    omega (arith, ap length marked, c.requires)

pub bounds-dst-at-3 : goal.bounds-dst-at-3
unfolding escaped
bounds-dst-at-3 c =
    let marked : escaped (c.args.b ∷ []) ≡ 92 ∷ c.args.b ∷ [] = rw (sym c.needs_backslash.ensures ∙ c.if-not-needs_backslash.false) in
    simp length-set (omega (arith, ap length marked, c.requires))

pub returns : goal.returns
unfolding escaped
returns c =
    let marked : escaped (c.args.b ∷ []) ≡ 92 ∷ c.args.b ∷ [] = rw (sym c.needs_backslash.ensures ∙ c.if-not-needs_backslash.false) in
    rw marked (record { moved = refl; holds = rw (add-one c.args.at) })
