-- `lexical::token::gap_end` meets its contract, by its tests in the definition's order.
-- Assumes nothing.
use Rattle.std.proofs.Common.{◌∙◌, arith, sym}
use Rattle.lexical.proofs.Laws.Tokens.{gap-comment, gap-fold, gap_space}
use Rattle.lexical.proofs.token.gap_end.Goals as goal

pub returns-then-is_space : goal.returns-then-is_space
returns-then-is_space c = sym (gap_space c.args.s.now c.args.i (omega arith) (sym c.is_space.ensures ∙ c.if-is_space.true))

pub returns-then-is_fold : goal.returns-then-is_fold
returns-then-is_fold c =
    sym
    (gap-fold c.args.s.now c.args.i (omega arith) (sym c.is_space.ensures ∙ c.if-is_space.false) (sym c.is_fold.ensures ∙ c.if-is_fold.true))

pub returns : goal.returns
returns c =
    c.comment.ensures
    ∙ sym
    (gap-comment c.args.s.now c.args.i (omega arith) (sym c.is_space.ensures ∙ c.if-is_space.false) (sym c.is_fold.ensures ∙ c.if-is_fold.false))
