-- `table_order::place::place_key` meets its contract. The loop's invariant: the search is in the range.
-- Assumes nothing.
use native.Mathlib.Omega.{arith}
use Rattle.table_order.specs.Ranks.{query_of, ranks_of}
use Rattle.table_order.proofs.Laws.Insert.{ranks_rise}
use Rattle.table_order.proofs.Laws.Place.{within_all, within_end}
use Rattle.table_order.proofs.place.place_key.Goals as goal

pub loop-range-init : goal.loop-range-init
loop-range-init c = let a = c.args in within_all (ranks_of a.rows.now) a.rows.now.n (query_of a.rows.now a.query.now)

pub narrow-range-requires : goal.narrow-range-requires
narrow-range-requires c = record { within = c.loop-range.invariant; lo_lt_hi = omega arith }

pub loop-range-smaller : goal.loop-range-smaller
loop-range-smaller c = c.narrow-range.ensures.less

pub loop-range-preserved : goal.loop-range-preserved
loop-range-preserved c = c.narrow-range.ensures.within

pub returns : goal.returns
returns c =
    let a = c.args in
    let l = c.loop-range in
    within_end (ranks_of a.rows.now) a.rows.now.n (query_of a.rows.now a.query.now) (ranks_rise c.args.rows.now.ordered) l.range l.invariant
    (omega (arith, l.invariant.order))
