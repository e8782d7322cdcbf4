-- `mailaddr::shape::quoted_shape` meets its contract: the local part goes up to the closing quote.
-- Assumes nothing.
use Rattle.std.proofs.Common.{◌∙◌, sym, ap, drop}
use Rattle.mailaddr.specs.Shape.{closing}
use Rattle.mailaddr.specs.Answers.{from_shape, shape_answer}
use Rattle.mailaddr.proofs.Laws.Shape.{quoted-at, quoted_never}
use Rattle.mailaddr.proofs.shape.quoted_shape.Goals as goal

pub returns-in_default : goal.returns-in_default
unfolding shape_answer from_shape
returns-in_default c =
    let s = c.args.s.now in
    rw (quoted_never s (closing (drop 1 s)) (sym c.closing_quote.ensures ∙ c.in_default.is))

pub returns : goal.returns
returns c =
    let s = c.args.s.now in
    c.with_local.ensures
    ∙ ap from_shape (sym (quoted-at s (closing (drop 1 s)) c.in-Some.at (sym c.in-Some.ensures)))
