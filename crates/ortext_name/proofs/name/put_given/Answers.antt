-- `ortext_name::name::put_given` meets its contract: the name written, and then its dot.
-- Assumes nothing.
use mathlib.Core.Path.{refl, ap}
use mathlib.Core.List.{[], ◌∷◌}
use native.Mathlib.Omega.{arith}
use lib.ListN.{length, length-append}
use Rattle.chars.specs.Lists.{non_empty}
use Rattle.chars.proofs.Laws.Write.{wrote-length, wrote_nothing, wrote_then}
use Rattle.ortext_name.specs.Name.{given_text}
use Rattle.ortext_name.proofs.Laws.Name.{given-some, is_bare, is_full}
use Rattle.ortext_name.proofs.name.put_given.Goals as goal

pub returns-then-is_empty : goal.returns-then-is_empty
unfolding given_text non_empty
returns-then-is_empty c = rw (is_bare _ c.is_empty.ensures c.if-is_empty.true) wrote_nothing

pub put-dot-requires : goal.put-dot-requires
put-dot-requires c =
    let g = c.args.given.now in
    omega (arith, ap length (given-some g (is_full _ c.is_empty.ensures c.if-is_empty.false)), length-append g (46 ∷ []), c.requires)

pub bounds-dst-dot : goal.bounds-dst-dot
bounds-dst-dot c =
    let g = c.args.given.now in
    omega (arith, ap length (given-some g (is_full _ c.is_empty.ensures c.if-is_empty.false)), length-append g (46 ∷ []), c.requires, wrote-length c.put-dot.ensures, c.put-dot.ensures.moved)

pub returns : goal.returns
returns c =
    rw (given-some c.args.given.now (is_full _ c.is_empty.ensures c.if-is_empty.false)) (wrote_then c.put-dot.ensures (record { moved = refl; holds = refl }))
