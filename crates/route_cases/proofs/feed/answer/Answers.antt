-- `route_cases::feed::answer` meets its contract: a call that takes nothing has nothing to answer yet.
-- Assumes nothing.
use mathlib.Core.Path.{sym, ap}
use Prim.Native.Nat.{◌-◌}
use native.Mathlib.Omega.{arith}
use borrow.Author.Tests.{eq-eqb}
use lib.ListN.{length, drop, length-drop}
use lib.Seq.{length-take-le}
use Rattle.chars.proofs.Laws.Write.{wrote-length}
use Rattle.router.proofs.Laws.Calls.{call_moves}
use Rattle.table_load.proofs.Laws.Ready.{loaded_rules}
use Rattle.route_cases.proofs.feed.answer.Goals as goal

pub slice_bounds-say-end-in-loop-at : goal.slice_bounds-say-end-in-loop-at
slice_bounds-say-end-in-loop-at c =
    let r = c.route-done in
    sym (length-take-le r.result.written r.new.out (omega (arith, r.ensures.went.room, wrote-length r.ensures.went.wrote)))

pub returns-then-done-eq0 : goal.returns-then-done-eq0
returns-then-done-eq0 c =
    let l = c.loop-at in
    let a = c.args in
    let s = a.input.now in
    let r = c.route-done in
    let n = length-take-le (a.end - l.at) (drop l.at s) (omega (arith, length-drop l.at s, c.requires.end_in_bounds)) in
    let w = call_moves (loaded_rules a.table.now) r.ensures (omega (arith, l.invariant.0, c.requires.answer_room_in_bounds)) c.if-done-eq0.true in
    record {
      on = l.invariant.1;
      within = l.invariant.2;
      short = omega (arith, w.short, n);
      all = λ e. absurd (omega (arith, ap length (w.more (eq-eqb a.end (length s) e)), n));
    }

pub returns : goal.returns
returns c =
    let l = c.loop-at in
    record {
      on = l.invariant.1;
      within = l.invariant.2;
      short = omega (arith, l.invariant.2);
      all = λ e. omega (arith, l.invariant.2);
    }
