-- `cases::read::spelt` meets its contract.
-- Assumes nothing.
use native.Mathlib.Omega.{arith}
use Rattle.cases.specs.Read.{hex_byte, hexadecimals, number_in}
use Rattle.cases.proofs.read.spelt.Goals as goal

pub returns : goal.returns
unfolding hex_byte number_in hexadecimals
returns c = omega (arith, c.nibble.ensures.value, c.nibble-2.ensures.value)
