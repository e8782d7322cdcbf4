-- `router_line::line::answer_text` meets its contract.
-- Assumes nothing.
use Rattle.router_line.specs.Line.{text_line}
use Rattle.router_line.proofs.line.answer_text.Goals as goal

pub returns-in-Err : goal.returns-in-Err
unfolding text_line
returns-in-Err c = rw c.in-Err.is c.put_refusal.ensures
