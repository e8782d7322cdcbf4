-- `mailaddr::code::put_some` meets its contract. The loop's invariant: what is left to store, stored, gives the whole text stored;
-- past the end of the buffer a store changes nothing.
-- Assumes nothing.
use Rattle.std.proofs.Common.{◌≡◌, ◌+◌, length, drop}
use lib.Seq.{sets}
use Rattle.mailaddr.proofs.code.put_some.Given as goal

abbrev pub invariant-loop-i : goal.invariant-loop-i
invariant-loop-i l =
    (length l.dst ≡ length l.initial.dst) × (sets l.initial.dst l.at l.text ≡ sets l.dst (l.at + l.i) (drop l.i l.text))
