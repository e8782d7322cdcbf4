-- `router::run::route_from` meets its contract.
-- Assumes nothing.
use mathlib.Core.Path.{◌≡◌}
use mathlib.Core.Bool.{false}
use Prim.Native.Nat.{◌-◌}
use lib.ListN.{length, drop}
use Rattle.table_load.specs.Tables.{table_answer}
use Rattle.router.specs.Run.{Went}
use Rattle.router.proofs.run.route_from.Given as goal

abbrev pub invariant-loop-at : goal.invariant-loop-at
invariant-loop-at l =
    (length l.out ≡ length l.initial.out)
    × Went (table_answer l.read) false (drop l.from l.input) l.input l.last 0 l.initial.out false l.at l.written l.out

abbrev pub decreases-loop-at : goal.decreases-loop-at
decreases-loop-at l = length l.input - l.at
