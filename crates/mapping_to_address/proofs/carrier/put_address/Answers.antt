-- `mapping_to_address::carrier::put_address` meets its contract: the text is not too long, so that its shape alone decides.
-- Assumes nothing.
use Rattle.std.proofs.Common.{refl}
use native.Mathlib.Omega.{arith}
use Rattle.mapping.proofs.Laws.Carrier.{in_shape-none, in_shape-some}
use Rattle.mapping.proofs.Laws.Route.{wrote_fronted}
use Rattle.mapping_to_address.proofs.carrier.put_address.Goals as goal

pub returns-in-Ok : goal.returns-in-Ok
returns-in-Ok c =
    rw (in_shape-some c.args.s.now (omega (arith, c.requires.s_len_bound)) _ (rw c.in-Ok.is at c.read_shape.ensures))
    (wrote_fronted c.put.ensures c.requires.s_in_bounds)

pub returns-in-Err : goal.returns-in-Err
returns-in-Err c = (in_shape-none c.args.s.now (omega (arith, c.requires.s_len_bound)) _ (rw c.in-Err.is at c.read_shape.ensures), refl)
