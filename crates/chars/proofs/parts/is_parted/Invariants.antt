-- `chars::parts::is_parted` meets its contract. The loop's invariant: the answer is that of the pass over what is left.
-- Assumes nothing.
use mathlib.Core.Path.{◌≡◌}
use lib.ListN.{drop}
use Rattle.chars.specs.Class.{is_in}
use Rattle.chars.specs.Parts.{is_parted}
use Rattle.chars.proofs.Laws.Parts.{parted_from}
use Rattle.chars.proofs.parts.is_parted.Given as goal

abbrev pub invariant-loop-b : goal.invariant-loop-b
invariant-loop-b l = is_parted l.sep (is_in l.class) l.s ≡ parted_from l.sep (is_in l.class) l.open (drop l.b-index l.s)
