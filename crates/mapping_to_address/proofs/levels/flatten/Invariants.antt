-- `mapping_to_address::levels::flatten` meets its contract. The loop's invariant: the first k levels stand in the buffer, 64 bytes each at most.
-- Assumes nothing.
use mathlib.Core.Path.{◌≡◌}
use Prim.Native.Nat.{◌*◌, ◌≤◌}
use lib.ListN.{length}
use Rattle.oraddr.specs.Attributes.{levels}
use Rattle.oraddr.specs.View.{view}
use Rattle.mapping.specs.Flat.{ends_room}
use Rattle.table_lookup.specs.Looked.{levels_room}
use Rattle.mapping.proofs.Laws.Flat.{Filled}
use Rattle.mapping_to_address.proofs.levels.flatten.Given as goal

abbrev pub invariant-loop-k : goal.invariant-loop-k
invariant-loop-k l =
    (length l.flat ≡ levels_room) × (length l.ends ≡ ends_room) × (l.n ≤ 64 * l.k) × Filled (levels (view l.rec)) l.k l.n l.flat l.ends
