-- `mailaddr::code::put_some` meets its contract. The loop's invariant: what is left to store, stored, gives the whole text stored;
-- past the end of the buffer a store changes nothing.
-- Assumes nothing.
use Rattle.std.proofs.Common.{◌∙◌, ◌+◌, arith, get_or}
use lib.ListN.{length-set}
use lib.Seq.{set_out}
use Rattle.chars.proofs.Laws.Write.{sets_step}
use Rattle.mailaddr.proofs.code.put_some.Goals as goal
use Rattle.mailaddr.proofs.code.put_some.Goals.{then-at-i, else-at-i}

pub loop-i-preserved : goal.loop-i-preserved
loop-i-preserved c =
    let l = c.loop-i in
    let t = c.args.text.now in
    let step = sets_step l.dst c.args.at t l.i (omega arith) in
    elim c.if-at-i.branch [
      | then-at-i w ↦ rw w.dst-is (length-set l.dst (c.args.at + l.i) (get_or t l.i 0) ∙ l.invariant.0, l.invariant.1 ∙ step)
      | else-at-i w ↦ rw w.dst-is (l.invariant.0, l.invariant.1 ∙ step ∙ rw (set_out l.dst (c.args.at + l.i) (get_or t l.i 0) (omega arith)))
    ]
