-- `ortext_write::write::put_key` meets its contract: what stands for each key, by its number.
-- Assumes nothing.
use native.Mathlib.Omega.{arith}
use Rattle.oraddr.specs.View.{view}
use Rattle.chars.proofs.Laws.Write.{wrote_nothing}
use Rattle.ortext_segments.specs.Keys.{keys}
use Rattle.ortext_write.specs.Write.{remaining}
use Rattle.ortext_write.proofs.Laws.Write.{dds_left, segments_left, single-none, single_out, units_left}
use Rattle.ortext_write.proofs.write.put_key.Goals as goal

pub put_dds-requires : goal.put_dds-requires
unfolding view
put_dds-requires c = rw (dds_left c.args.from (view c.args.rec) c.args.k c.in-10.is) at c.requires.room

pub returns-in-10 : goal.returns-in-10
unfolding view
returns-in-10 c = rw (dds_left c.args.from (view c.args.rec) c.args.k c.in-10.is) c.put_dds.ensures

pub put_units-requires : goal.put_units-requires
unfolding view
put_units-requires c =
    rw c.saturating_sub.ensures (rw (units_left c.args.from (view c.args.rec) c.args.k c.in-9.is) at c.requires.room)

pub returns-in-9 : goal.returns-in-9
unfolding view
returns-in-9 c =
    rw (units_left c.args.from (view c.args.rec) c.args.k c.in-9.is) (rw c.saturating_sub.ensures at c.put_units.ensures)

pub returns-in_default : goal.returns-in_default
returns-in_default c =
    let a = c.args in
    rw (single-none keys (remaining a.from (view a.rec)) a.k (omega arith) (single_out a.from (view a.rec) a.k (omega (arith, c.min.ensures, c.if-k-min.true)))) wrote_nothing

pub put_single-requires-clause-room : goal.put_single-requires-clause-room
put_single-requires-clause-room c =
    rw (segments_left c.args.from (view c.args.rec) c.args.k (omega (arith, c.min.ensures, c.if-k-min.false)) (omega arith)) at c.requires.room

pub returns-in_default-2 : goal.returns-in_default-2
returns-in_default-2 c =
    rw (segments_left c.args.from (view c.args.rec) c.args.k (omega (arith, c.min.ensures, c.if-k-min.false)) (omega arith)) c.put_single.ensures
