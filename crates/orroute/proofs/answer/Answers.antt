-- `orroute::answer` meets its contract.
-- Assumes nothing.
use Rattle.std.proofs.Common.{◌-◌, refl, take, arith, ◌∙◌}
use lib.Seq.{length-take-le}
use Rattle.orroute.proofs.Laws.Run.{paid-nothing, paid_then}
use Rattle.orroute.proofs.answer.Goals as goal

pub loop-over-init : goal.loop-over-init
loop-over-init c = record { input = refl; out = refl; within = c.requires.size_in_bounds; paid = paid-nothing }

pub returns-then-done-eq0 : goal.returns-then-done-eq0
returns-then-done-eq0 c =
    let l = c.loop-over in
    let r = c.advance-done in
    let w = r.ensures.stops c.if-done-eq0.true in
    let k = length-take-le (l.size - r.result.taken) r.new.input (omega (arith, l.invariant.within, r.auto.input)) in
    record {
      short = omega (arith, w.short, k);
      answered = record { paid = paid_then (take r.result.written r.new.out) l.invariant.paid r.ensures.owed; waits = w; ends = refl };
    }

pub loop-over-preserved : goal.loop-over-preserved
loop-over-preserved c =
    let l = c.loop-over in
    let r = c.advance-done in
    record {
      input = r.auto.input ∙ l.invariant.input;
      out = r.auto.out ∙ l.invariant.out;
      within = omega (arith, l.invariant.within, r.auto.input);
      paid = paid_then (take r.result.written r.new.out) l.invariant.paid r.ensures.owed;
    }
