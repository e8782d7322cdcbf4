-- `mapping_to_address::to_address::quote_front` meets its contract: atoms joined by dots stand there as they are to be written.
-- Assumes nothing.
use mathlib.Core.Path.{sym, ◌∙◌}
use native.Mathlib.Nat.{zero-add}
use native.Mathlib.Omega.{arith}
use lib.ListN.{take}
use lib.Seq.{length-take-le}
use Rattle.chars.proofs.Laws.Write.{wrote-same}
use Rattle.mailaddr.proofs.Laws.Shape.{quoted-atoms}
use Rattle.mapping_to_address.proofs.to_address.quote_front.Goals as goal

pub slice_bounds-is_atoms-end-2 : goal.slice_bounds-is_atoms-end-2
slice_bounds-is_atoms-end-2 c = sym (length-take-le c.args.n c.args.dst.now c.requires.n_le_local_room.1)

pub returns-then-is_atoms : goal.returns-then-is_atoms
returns-then-is_atoms c =
    rw (quoted-atoms (take c.args.n c.args.dst.now) (sym c.is_atoms.ensures ∙ c.if-is_atoms.true))
    (rw zero-add at (wrote-same {o = c.args.dst.now} 0 c.args.n (omega (arith, c.requires.n_le_local_room.1))))
