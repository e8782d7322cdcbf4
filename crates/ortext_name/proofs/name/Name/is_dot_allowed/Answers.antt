-- `ortext_name::name::Name::is_dot_allowed` meets its contract: the place of the first dot answers both tests of `dot_allowed`.
-- Assumes nothing.
use mathlib.Core.Path.{◌≡◌, ap, ◌∙◌}
use mathlib.Core.Bool.{true, false, not}
use borrow.Author.Tests.{le-leb, lt-leb}
use lib.ListN.{take}
use Rattle.chars.specs.Lists.{member, non_empty}
use Rattle.ortext_name.specs.Name.{dot_allowed}
use Rattle.chars.proofs.Laws.Seq.{some-length}
use Rattle.ortext_name.proofs.Laws.Name.{dot-early, dot-late, dot-none, dot-some, is_bare, is_full, some-full}
use Rattle.ortext_name.proofs.name.Name.is_dot_allowed.Goals as goal
use Rattle.ortext_name.proofs.name.Name.is_dot_allowed.Goals.{then-is_empty, else-is_empty}

pub returns-then-self-dot : goal.returns-then-self-dot
unfolding dot_allowed
returns-then-self-dot c =
    let s = c.args.self.now.surname.now in
    rw (dot-none s _ c.part_end-dot.ensures c.if-self-dot.true, le-leb _ _ c.if-self-dot.true)

pub returns-after-is_empty : goal.returns-after-is_empty
unfolding dot_allowed non_empty
returns-after-is_empty c =
    let n = c.args.self.now in
    let has : member 46 n.surname.now ≡ true = dot-some n.surname.now _ c.part_end-dot.ensures c.if-self-dot.false in
    let late : member 46 (take 2 n.surname.now) ≡ false = dot-late n.surname.now _ c.part_end-dot.ensures c.if-dot-ge2.true in
    elim c.if-is_empty.branch [
      | then-is_empty w ↦ rw (has, late, is_bare _ c.is_empty.ensures w.if-is_empty.true) (ap not w.result-is ∙ some-full _ w.is_empty-then-is_empty.ensures)
      | else-is_empty w ↦ rw (has, late, some-length n.given.now (is_full _ c.is_empty.ensures w.if-is_empty.false)) (ap not (w.result-is ∙ w.if-is_empty.false))
    ]

pub returns-else-dot-ge2 : goal.returns-else-dot-ge2
unfolding dot_allowed
returns-else-dot-ge2 c =
    let s = c.args.self.now.surname.now in
    rw (dot-some s _ c.part_end-dot.ensures c.if-self-dot.false, dot-early s _ c.part_end-dot.ensures c.if-self-dot.false c.if-dot-ge2.false, lt-leb 2 _ c.if-dot-ge2.false)
