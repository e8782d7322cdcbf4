-- `ortext_write::write::put_char` meets its contract: one store or two.
-- Assumes nothing.
use mathlib.Core.Path.{refl, sym, ap, ◌∙◌}
use native.Mathlib.Numerals.{add-one}
use native.Mathlib.Omega.{arith}
use lib.ListN.{length, length-set}
use Rattle.ortext_write.proofs.Laws.Write.{quoted_other, quoted_stop}
use Rattle.ortext_write.proofs.write.put_char.Goals as goal

pub bounds-dst-at : goal.bounds-dst-at
bounds-dst-at c = omega (arith, ap length (quoted_stop c.args.b (sym c.is_stop.ensures ∙ c.if-is_stop.true)), c.requires)

pub bounds-dst-at-then-is_stop : goal.bounds-dst-at-then-is_stop
bounds-dst-at-then-is_stop c =
    rw length-set (omega (arith, ap length (quoted_stop c.args.b (sym c.is_stop.ensures ∙ c.if-is_stop.true)), c.requires))

pub returns-then-is_stop : goal.returns-then-is_stop
returns-then-is_stop c = rw (quoted_stop c.args.b (sym c.is_stop.ensures ∙ c.if-is_stop.true)) (record { moved = refl; holds = rw add-one })

pub bounds-dst-at-2 : goal.bounds-dst-at-2
bounds-dst-at-2 c = omega (arith, ap length (quoted_other c.args.b (sym c.is_stop.ensures ∙ c.if-is_stop.false)), c.requires)

pub returns : goal.returns
returns c = rw (quoted_other c.args.b (sym c.is_stop.ensures ∙ c.if-is_stop.false)) (record { moved = refl; holds = refl })
