-- `table_order::place::narrow` meets its contract: what is known to be shared of the keys beside the range is shared by those in it.
-- Assumes nothing.
use mathlib.Core.Path.{sym, ◌∙◌}
use mathlib.Core.List.{List}
use Prim.Native.Nat.{ℕ, ◌+◌, ◌/◌, ◌≤◌, ◌<◌}
use native.Mathlib.Omega.{arith}
use Rattle.table_order.specs.Ranks.{query_of, ranks_of}
use Rattle.table_order.proofs.Laws.Insert.{ranks_rise}
use Rattle.table_order.proofs.Laws.Place.{mid_shared, within_down, within_up}
use Rattle.table_order.proofs.place.narrow.Goals as goal

pub overflow_add-mid : goal.overflow_add-mid
overflow_add-mid c = let p = c.requires in omega (arith, p.within.most, p.within.order, c.args.rows.now.ordered.few)

pub compare_at-done-requires : goal.compare_at-done-requires
compare_at-done-requires c =
    let a = c.args in
    let K : ℕ → List ℕ = ranks_of a.rows.now in
    let w = c.requires.within in
    let mid : ℕ = (a.range.lo + a.range.hi) / 2 in
    let l : a.range.lo ≤ mid = omega (arith, w.order) in
    let m : mid < a.range.hi = omega (arith, c.requires.lo_lt_hi) in
    record {
      k_lt_n = omega (arith, w.most);
      from_bound = rw c.min.ensures (mid_shared K a.rows.now.n (query_of a.rows.now a.query.now) (ranks_rise c.args.rows.now.ordered) a.range w mid l m);
    }

pub overflow_add-result : goal.overflow_add-result
overflow_add-result c = let p = c.requires in omega (arith, p.within.most, p.within.order, c.args.rows.now.ordered.few)

pub returns-then-done : goal.returns-then-done
returns-then-done c =
    let a = c.args in
    let K : ℕ → List ℕ = ranks_of a.rows.now in
    let w = c.requires.within in
    let mid : ℕ = (a.range.lo + a.range.hi) / 2 in
    let l : a.range.lo ≤ mid = omega (arith, w.order) in
    let m : mid < a.range.hi = omega (arith, c.requires.lo_lt_hi) in
    let d = c.compare_at-done.ensures in
    record {
      within = rw d.many
          (within_up K a.rows.now.n (query_of a.rows.now a.query.now) (ranks_rise c.args.rows.now.ordered) a.range w mid l m (sym d.less ∙ c.if-done.true));
      less = omega (arith, m, l);
    }

pub returns : goal.returns
returns c =
    let a = c.args in
    let K : ℕ → List ℕ = ranks_of a.rows.now in
    let w = c.requires.within in
    let mid : ℕ = (a.range.lo + a.range.hi) / 2 in
    let l : a.range.lo ≤ mid = omega (arith, w.order) in
    let m : mid < a.range.hi = omega (arith, c.requires.lo_lt_hi) in
    let d = c.compare_at-done.ensures in
    record {
      within = rw d.many
          (within_down K a.rows.now.n (query_of a.rows.now a.query.now) (ranks_rise c.args.rows.now.ordered) a.range w mid l m (sym d.less ∙ c.if-done.false));
      less = omega (arith, m, l);
    }
