-- `ortext_name::name::after_given` meets its contract: its two tests are those of `has_given`.
-- Assumes nothing.
use mathlib.Core.Path.{◌≡◌, ◌∙◌}
use native.Mathlib.Nat.{zero-add}
use native.Mathlib.Omega.{arith}
use borrow.Author.Tests.{le-leb, le-ltb, lt-leb, lt-ltb}
use lib.ListN.{length}
use mathlib.Core.Bool.{and-false}
use Rattle.chars.specs.Parts.{run}
use Rattle.ortext_name.specs.Name.{has_given}
use Rattle.ortext_name.specs.Places.{given_end}
use Rattle.ortext_name.proofs.name.after_given.Goals as goal
use Rattle.ortext_name.proofs.name.after_given.Goals.{else-dot-ge2-via-then-dot-ge2+else-dot-s, else-dot-ge2-via-else-dot-ge2}

pub returns-then-dot-s : goal.returns-then-dot-s
unfolding given_end has_given
returns-then-dot-s c =
    let s = c.args.s.now in
    let at_dot : c.part_end-dot.result ≡ run 46 s = c.part_end-dot.ensures ∙ zero-add (run 46 s) in
    rw (at_dot, le-leb 2 (run 46 s) (omega arith), lt-ltb (run 46 s) (length s) (omega arith))

pub returns-else-dot-ge2 : goal.returns-else-dot-ge2
unfolding given_end has_given
returns-else-dot-ge2 c =
    let s = c.args.s.now in
    let at_dot : c.part_end-dot.result ≡ run 46 s = c.part_end-dot.ensures ∙ zero-add (run 46 s) in
    elim c.else-dot-ge2.branch [
      | else-dot-ge2-via-then-dot-ge2+else-dot-s w ↦ rw (le-ltb (run 46 s) (length s) (omega arith), and-false)
      | else-dot-ge2-via-else-dot-ge2 w ↦ rw (lt-leb 2 (run 46 s) (omega arith))
    ]
