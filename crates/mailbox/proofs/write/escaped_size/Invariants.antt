-- `mailbox::write::escaped_size` meets its contract. The loop's invariant: the length so far and the length of what is left are the whole length.
-- Assumes nothing.
use Rattle.std.proofs.Common.{◌≡◌, ◌+◌, length, drop}
use Rattle.mailaddr.specs.Shape.{escaped}
use Rattle.mailbox.proofs.write.escaped_size.Given as goal

abbrev pub invariant-loop-b : goal.invariant-loop-b
invariant-loop-b l = l.n + length (escaped (drop l.b-index l.s)) ≡ length (escaped l.s)
