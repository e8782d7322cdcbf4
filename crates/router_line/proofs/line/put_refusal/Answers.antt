-- `router_line::line::put_refusal` meets its contract.
-- Assumes nothing.
use Prim.Native.Nat.{◌+◌}
use Rattle.chars.proofs.Laws.Write.{wrote_one, wrote_then}
use Rattle.router_line.specs.Line.{refused_line}
use Rattle.router_line.proofs.line.put_refusal.Goals as goal

pub returns : goal.returns
unfolding refused_line
returns c = wrote_then (wrote_one (48 + c.args.number)) (wrote_one 10)
