-- `ortext_write::write::put_quoted` meets its contract. The loop's invariant: what is left to write.
-- Assumes nothing.
use lib.ListN.{drop}
use Rattle.ortext_write.specs.Write.{quoted}
use Rattle.ortext_write.proofs.Laws.Left.{Left, flat}
use Rattle.ortext_write.proofs.Laws.Write.{quoted_char}
use Rattle.ortext_write.proofs.write.put_quoted.Given as goal

abbrev pub invariant-loop-b : goal.invariant-loop-b
invariant-loop-b l = Left l.initial.dst l.at (quoted l.text) l.dst l.next (flat quoted_char (drop l.b-index l.text))
