-- `mailaddr::tail::shared_tail` meets its contract: what the first has from the tail's start on is the tail, and stands there.
-- Assumes nothing.
use mathlib.Core.Path.{refl}
use Rattle.mailaddr.proofs.Laws.Tail.{tail-shown}
use Rattle.mailaddr.proofs.tail.shared_tail.Goals as goal

pub returns : goal.returns
returns c =
    let args = c.args in
    tail-shown args.a args.b.now _ c.tail_start-from.result c.tail_start-from.ensures refl refl refl
