-- `orroute::answer` meets its contract.
-- Assumes nothing.
use Rattle.std.proofs.Common.{◌≡◌, ◌≤◌, length, take}
use Rattle.table_load.specs.Tables.{table_answer}
use Rattle.orroute.specs.Run.{Paid}
use Rattle.orroute.proofs.answer.Given as goal

abbrev pub invariant-loop-over : goal.invariant-loop-over
invariant-loop-over l = record {
  input : length l.input ≡ length l.initial.input;
  out : length l.out ≡ length l.initial.out;
  within : l.size ≤ length l.input;
  paid : Paid (table_answer l.read) l.over-2 (take l.size-2 l.initial.input) l.last l.over (take l.size l.input);
}

-- each turn but the last takes something
abbrev pub decreases-loop-over : goal.decreases-loop-over
decreases-loop-over l = l.size
