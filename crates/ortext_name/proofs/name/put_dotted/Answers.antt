-- `ortext_name::name::put_dotted` meets its contract. The loop's invariant: what is left to store, stored, gives the whole text stored.
-- Assumes nothing.
use mathlib.Core.Path.{sym, ◌∙◌}
use Prim.Native.Nat.{◌≤◌}
use native.Mathlib.Omega.{arith}
use lib.ListN.{length, length-set, drop_of_length-le}
use Rattle.ortext_name.specs.Name.{dotted}
use Rattle.ortext_name.proofs.Laws.Name.{dotted-more, length-dotted}
use Rattle.ortext_name.proofs.name.put_dotted.Goals as goal

pub loop-i-preserved : goal.loop-i-preserved
loop-i-preserved c =
    let l = c.loop-i in
    let a = c.args in
    (simp length-set l.invariant.0, l.invariant.1 ∙ dotted-more l.dst a.at a.initials.now l.i (omega arith))

pub returns : goal.returns
unfolding dotted
returns c =
    let l = c.loop-i in
    let a = c.args in
    let h : length a.initials.now ≤ l.i = omega arith in
    record { moved = omega (arith, length-dotted a.initials.now); holds = sym (l.invariant.1 ∙ rw (drop_of_length-le a.initials.now)) }
