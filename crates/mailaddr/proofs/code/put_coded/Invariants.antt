-- `mailaddr::code::put_coded` meets its contract. The loop's invariant: what is written is the coded form of the text up to a place, in
-- at most five bytes for each byte.
-- Assumes nothing.
use Rattle.std.proofs.Common.{◌≡◌, ◌*◌, ◌≤◌, length}
use Rattle.mailaddr.specs.Code.{longest_coded_char}
use Rattle.mailaddr.proofs.Laws.Code.{CodedTo}
use Rattle.mailaddr.proofs.code.put_coded.Given as goal

abbrev pub invariant-loop-b : goal.invariant-loop-b
invariant-loop-b l =
    (l.at ≤ longest_coded_char * l.b-index) × (length l.dst ≡ length l.initial.dst) × (CodedTo l.s l.initial.dst l.spaced l.b-index l.at l.dst)
