-- `restricted::code::put_coded` meets its contract. The loop's invariant: what is written is the text's coded form up to place i.
-- Assumes nothing.
use Rattle.restricted.proofs.Laws.Code.{CodedTo}
use Rattle.restricted.proofs.code.put_coded.Given as goal

abbrev pub invariant-loop-b : goal.invariant-loop-b
invariant-loop-b l = CodedTo l.s l.initial.dst l.b-index l.at l.dst
