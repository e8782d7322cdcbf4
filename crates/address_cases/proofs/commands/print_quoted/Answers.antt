-- `address_cases::commands::print_quoted` is safe: there is room for a local part every byte of which is escaped.
-- Assumes nothing.
use native.Mathlib.Omega.{arith}
use Rattle.mailaddr.proofs.Laws.Shape.{length-quoted}
use Rattle.address_cases.proofs.commands.print_quoted.Goals as goal

pub put_local-n-requires : goal.put_local-n-requires
put_local-n-requires c = omega (arith, length-quoted c.args.s.now)
