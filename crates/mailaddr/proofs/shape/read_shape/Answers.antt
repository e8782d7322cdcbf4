-- `mailaddr::shape::read_shape` meets its contract: the length is tested first, and then the first byte.
-- Assumes nothing.
use mathlib.Core.Path.{sym, ◌∙◌}
use native.Mathlib.Omega.{arith}
use borrow.Author.Tests.{lt-ltb}
use lib.ListN.{length}
use Rattle.mailaddr.specs.Answers.{shape_answer, shaping}
use Rattle.mailaddr.specs.Shape.{longest_address}
use Rattle.mailaddr.proofs.Laws.Shape.{shaping-plain, shaping-quoted}
use Rattle.mailaddr.proofs.shape.read_shape.Goals as goal

pub returns-then-s-gt-LONGEST_ADDRESS : goal.returns-then-s-gt-LONGEST_ADDRESS
unfolding shape_answer shaping
returns-then-s-gt-LONGEST_ADDRESS c = rw (lt-ltb longest_address (length c.args.s.now) (omega arith))

pub returns-then-byte_at-eq34 : goal.returns-then-byte_at-eq34
returns-then-byte_at-eq34 c =
    c.quoted_shape.ensures
    ∙ sym (shaping-quoted c.args.s.now (omega arith) (sym c.byte_at.ensures ∙ c.if-byte_at-eq34.true))

pub returns : goal.returns
returns c =
    c.plain_shape.ensures
    ∙ sym (shaping-plain c.args.s.now (omega arith) (λ e. c.if-byte_at-eq34.false (c.byte_at.ensures ∙ e)))
