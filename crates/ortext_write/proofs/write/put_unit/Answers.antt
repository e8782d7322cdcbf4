-- `ortext_write::write::put_unit` meets its contract.
-- Assumes nothing.
use native.Mathlib.Omega.{arith}
use Rattle.oraddr.specs.View.{unit_view}
use Rattle.ortext_segments.specs.Keys.{ou_key}
use Rattle.ortext_write.proofs.Laws.Write.{plain-text}
use Rattle.ortext_write.proofs.write.put_unit.Goals as goal

pub put_segment-requires-clause-room : goal.put_segment-requires-clause-room
put_segment-requires-clause-room c =
    rw c.text.ensures (rw (plain-text ou_key (unit_view c.args.unit) (λ q. omega arith)) at c.requires)

pub returns : goal.returns
returns c =
    rw (plain-text ou_key (unit_view c.args.unit) (λ q. omega arith)) (rw c.text.ensures at c.put_segment.ensures)
