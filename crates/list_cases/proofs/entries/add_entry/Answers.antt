-- `list_cases::entries::add_entry` keeps what was laid out within the room: so many entries as there is room for, five numbers each.
-- Assumes nothing.
use native.Mathlib.Omega.{arith}
use Prim.Native.Nat.{◌+◌, ◌/◌}
use lib.ListN.{length}
use Rattle.rowlist.proofs.Lesser.{lesser-fits}
use Rattle.list_cases.proofs.entries.add_entry.Goals as goal

pub put_entry-requires : goal.put_entry-requires
put_entry-requires c =
    let a = c.args in
    omega (arith, c.how_many-next.ensures, (lesser-fits (a.n + 1) (length a.numbers.now / 5)).1)

pub returns-then-n-next : goal.returns-then-n-next
returns-then-n-next c =
    let a = c.args in
    omega (arith, c.how_many-next.ensures, (lesser-fits (a.n + 1) (length a.numbers.now / 5)).1, c.put_entry.auto)
