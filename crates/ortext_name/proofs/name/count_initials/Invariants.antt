-- `ortext_name::name::count_initials` meets its contract. The loop's invariant: the initials counted and those behind them are all.
-- Assumes nothing.
use mathlib.Core.Path.{◌≡◌}
use Prim.Native.Nat.{◌+◌, ◌*◌}
use lib.ListN.{length, drop}
use Rattle.ortext_name.specs.Name.{initials_of}
use Rattle.ortext_name.proofs.name.count_initials.Given as goal

abbrev pub invariant-loop-n : goal.invariant-loop-n
invariant-loop-n l = length (initials_of l.s) ≡ l.n + length (initials_of (drop (2 * l.n) l.s))
