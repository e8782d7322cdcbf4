-- `chars::class::printable_is_the_list` meets its contract, which is the statement itself.
-- Assumes nothing.
use Rattle.chars.proofs.Laws.Class.{printable_is_the_list}
use Rattle.chars.proofs.class.printable_is_the_list.Goals as goal

pub returns : goal.returns
returns c = printable_is_the_list
