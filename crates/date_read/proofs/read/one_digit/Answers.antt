-- `date_read::read::one_digit` meets its contract.
-- Assumes nothing.
use mathlib.Core.Path.{sym, ◌∙◌}
use native.Mathlib.Omega.{arith}
use Rattle.date_read.specs.Read.{one_digit}
use Rattle.date_read.proofs.Laws.Read.{digit_high, digit_low}
use Rattle.date_read.proofs.read.one_digit.Goals as goal

pub overflow_sub-b : goal.overflow_sub-b
overflow_sub-b c = omega (arith, digit_low c.byte_at-b.result (sym c.is_digit.ensures ∙ c.if-is_digit.true))

pub returns-then-is_digit-clause-value : goal.returns-then-is_digit-clause-value
unfolding one_digit
returns-then-is_digit-clause-value c = rw (← c.byte_at-b.ensures, ← c.is_digit.ensures, c.if-is_digit.true) c.from.ensures

pub returns-then-is_digit-clause-most : goal.returns-then-is_digit-clause-most
returns-then-is_digit-clause-most c =
    omega (arith, c.from.ensures, digit_high c.byte_at-b.result (sym c.is_digit.ensures ∙ c.if-is_digit.true))

pub returns-else-is_digit-clause-value : goal.returns-else-is_digit-clause-value
unfolding one_digit
returns-else-is_digit-clause-value c = rw (← c.byte_at-b.ensures, ← c.is_digit.ensures, c.if-is_digit.false)
