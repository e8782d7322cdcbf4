-- `restricted::code::put_coded` meets its contract.
-- Assumes nothing.
use native.Mathlib.Omega.{arith}
use Rattle.restricted.proofs.Laws.Code.{coding-end, coding-room, coding_step}
use Rattle.restricted.proofs.code.put_coded.Goals as goal

pub put_char-at-requires : goal.put_char-at-requires
put_char-at-requires c = omega (arith, coding-room c.loop-b.invariant (omega arith) (omega arith))

pub loop-b-preserved : goal.loop-b-preserved
loop-b-preserved c = coding_step c.loop-b.invariant (omega arith) c.put_char-at.ensures

pub returns : goal.returns
returns c = coding-end c.loop-b.invariant (omega arith)
