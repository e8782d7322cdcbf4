-- The proof of the cycle of calls {comment, content}. `comment` calls `content` with a level less, and `content` `comment` with the levels that it
-- has, so `content`'s measure lies between: twice the levels for `comment`, and one more for `content`. The invariant of `content`'s loop: the content
-- from `from` on ends where the content from `i` on does.
-- Assumes nothing.
use mathlib.Core.Path.{◌≡◌}
use Prim.Native.Nat.{◌+◌, ◌*◌, ◌-◌}
use lib.ListN.{length, drop}
use Rattle.mailaddr.specs.Shape.{more}
use Rattle.lexical.specs.Comment.{content as content_of}
use Rattle.lexical.proofs.comment.+comment_content.Given as goal

abbrev pub decreases-comment : goal.decreases-comment
decreases-comment l = 2 * l.levels

abbrev pub decreases-content : goal.decreases-content
decreases-content l = 2 * l.levels + 1

abbrev pub invariant-content-loop-i : goal.invariant-content-loop-i
invariant-content-loop-i l =
    more l.from (content_of 0 l.levels 0 (drop l.from l.s)) ≡ more l.i (content_of 0 l.levels 0 (drop l.i l.s))

abbrev pub decreases-content-loop-i : goal.decreases-content-loop-i
decreases-content-loop-i l = length l.s - l.i
