-- `restricted::code::all_chars` meets its contract.
-- Assumes nothing.
use Rattle.restricted.proofs.Laws.Code.{ascii_all}
use Rattle.restricted.proofs.code.all_chars.Goals as goal

pub returns : goal.returns
returns c = ascii_all c.args.s.now c.is_ascii.result c.is_ascii.ensures.cases
