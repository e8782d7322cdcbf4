-- `date_read::read::read_body` meets its contract.
-- Assumes nothing.
use mathlib.Core.Path.{◌∙◌}
use Rattle.date_read.proofs.Laws.Read.{body_one, body_two, rest_dayless}
use Rattle.date_read.proofs.read.read_body.Goals as goal

pub returns-in_err-one_digit : goal.returns-in_err-one_digit
returns-in_err-one_digit c =
    c.from_residual.ensures ∙ rest_dayless c.behind.result.now
    ∙ body_one c.args.b.now _ _ _ c.byte_at.ensures c.if-byte_at-eq32.true c.behind.ensures c.in_err-one_digit.ensures.value

pub returns-in_ok-one_digit : goal.returns-in_ok-one_digit
returns-in_ok-one_digit c =
    c.read_rest.ensures
    ∙ body_one c.args.b.now _ _ _ c.byte_at.ensures c.if-byte_at-eq32.true c.behind.ensures c.in_ok-one_digit.ensures.value

pub returns-in_err-two_digits : goal.returns-in_err-two_digits
returns-in_err-two_digits c =
    c.from_residual-in_err-two_digits.ensures ∙ rest_dayless c.behind-else-byte_at-eq32.result.now
    ∙ body_two c.args.b.now _ _ _ c.byte_at.ensures c.if-byte_at-eq32.false c.behind-else-byte_at-eq32.ensures c.in_err-two_digits.ensures.value

pub returns-in_ok-two_digits : goal.returns-in_ok-two_digits
returns-in_ok-two_digits c =
    c.read_rest-else-byte_at-eq32.ensures
    ∙ body_two c.args.b.now _ _ _ c.byte_at.ensures c.if-byte_at-eq32.false c.behind-else-byte_at-eq32.ensures c.in_ok-two_digits.ensures.value
