-- `mapping_to_address::to_address::put_fronts` meets its contract. The loop's invariant: what is left to write, from the last level down.
-- Assumes nothing.
use Prim.Native.Nat.{◌-◌}
use lib.ListN.{take, drop}
use Rattle.ortext_write.proofs.Laws.Left.{Left}
use Rattle.table_lookup.specs.Looked.{tokens_from}
use Rattle.table_lookup.specs.Tokens.{tokens_of}
use Rattle.mapping.specs.Flat.{fronts}
use Rattle.mapping_to_address.proofs.to_address.put_fronts.Given as goal

abbrev pub invariant-loop-i : goal.invariant-loop-i
invariant-loop-i l =
    Left l.initial.dst l.at (fronts (take l.n (drop l.k (tokens_of l.levels)))) l.dst l.next
    (fronts (tokens_from l.levels.bytes.now l.levels.ends.now l.k (l.i - l.k)))
