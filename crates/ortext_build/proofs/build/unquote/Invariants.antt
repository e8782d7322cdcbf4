-- `ortext_build::build::unquote` meets its contract. The loop's invariant: what is stored, and what is left, is the whole text.
-- Assumes nothing.
use mathlib.Core.Path.{◌≡◌}
use mathlib.Core.List.{◌++◌}
use Prim.Native.Nat.{◌≤◌}
use lib.ListN.{drop, length, take}
use Rattle.ortext_segments.specs.Segments.{unquoted}
use Rattle.ortext_build.proofs.Laws.Spans.{unquoted_after}
use Rattle.ortext_build.proofs.build.unquote.Given as goal

abbrev pub invariant-loop-b : goal.invariant-loop-b
invariant-loop-b l = record {
  behind : l.n ≤ l.b-index;
  room : length l.room ≡ length l.initial.room;
  text : take l.n l.room ++ unquoted_after l.is_quoted (drop l.b-index l.part) ≡ unquoted l.part;
}
