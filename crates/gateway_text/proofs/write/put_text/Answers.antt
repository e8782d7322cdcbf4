-- `gateway_text::write::put_text` meets its contract.
-- Assumes nothing.
use native.Mathlib.Omega.{arith}
use Rattle.oraddr.specs.View.{view}
use Rattle.oraddr.proofs.Laws.Canonical.{canonical-view}
use Rattle.ortext_write.specs.Write.{remaining}
use Rattle.ortext_write.proofs.Laws.Write.{text_bound}
use Rattle.mapping.proofs.Laws.Route.{wrote_fronted}
use Rattle.gateway_text.proofs.write.put_text.Goals as goal

pub write_text-requires : goal.write_text-requires
unfolding remaining
write_text-requires c =
    let bound = text_bound (view c.args.rec) (canonical-view c.args.rec c.requires.rec_value) 0 in
    omega (arith, bound, c.requires.dst_len)

pub returns : goal.returns
unfolding remaining
returns c =
    let bound = text_bound (view c.args.rec) (canonical-view c.args.rec c.requires.rec_value) 0 in
    wrote_fronted c.write_text.ensures (omega (arith, bound, c.requires.dst_len))
