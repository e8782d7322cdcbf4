-- `ortext_name::name::is_given_short` meets its contract: its tests are those of `given_short`.
-- Assumes nothing.
use mathlib.Core.Path.{ap, ◌∙◌}
use mathlib.Core.Bool.{not}
use native.Mathlib.Omega.{arith}
use borrow.Author.Tests.{le-leb, lt-leb}
use lib.ListN.{length}
use Rattle.chars.specs.Lists.{non_empty}
use Rattle.ortext_name.specs.Name.{given_short}
use Rattle.chars.proofs.Laws.Seq.{some-length}
use Rattle.ortext_name.proofs.Laws.Name.{is_bare, is_full}
use Rattle.ortext_name.proofs.name.is_given_short.Goals as goal

pub returns-then-is_empty : goal.returns-then-is_empty
unfolding given_short non_empty
returns-then-is_empty c = c.if-is_empty.true ∙ rw (is_bare _ c.is_empty.ensures c.if-is_empty.true)

pub returns-then-given-ge2 : goal.returns-then-given-ge2
unfolding given_short
returns-then-given-ge2 c =
    let g = c.args.given.now in
    rw (some-length g (is_full _ c.is_empty.ensures c.if-is_empty.false), le-leb 2 (length g) (omega arith)) (ap not c.has_dot.ensures)

pub returns-else-given-ge2 : goal.returns-else-given-ge2
unfolding given_short
returns-else-given-ge2 c =
    let g = c.args.given.now in
    rw (some-length g (is_full _ c.is_empty.ensures c.if-is_empty.false), lt-leb 2 (length g) (omega arith))
