-- `table_lookup::extend::count_extension` meets its contract. The loop's invariant: the levels passed, and those that follow as domain parts.
-- Assumes nothing.
use mathlib.Core.Path.{◌≡◌}
use Prim.Native.Nat.{◌+◌, ◌≤◌}
use lib.ListN.{length, drop}
use Rattle.table_lookup.specs.Lookup.{extension}
use Rattle.table_lookup.specs.Tokens.{tokens_of}
use Rattle.table_lookup.proofs.extend.count_extension.Given as goal

abbrev pub invariant-loop-i : goal.invariant-loop-i
invariant-loop-i l =
    (l.i ≤ 8) × (l.k + length (extension (drop l.k (tokens_of l.levels))) ≡ l.i + length (extension (drop l.i (tokens_of l.levels))))
