-- `date_read::read::two_digits` meets its contract.
-- Assumes nothing.
use Rattle.date_read.proofs.Laws.Read.{no_tens, no_ones, two_told}
use Rattle.date_read.proofs.read.two_digits.Goals as goal

pub returns-in_err-tens-clause-value : goal.returns-in_err-tens-clause-value
returns-in_err-tens-clause-value c = rw c.from_residual.ensures (no_tens c.args.s.now c.args.k c.in_err-tens.ensures.value)

pub returns-in_err-ones-clause-value : goal.returns-in_err-ones-clause-value
returns-in_err-ones-clause-value c = rw c.from_residual-in_err-ones.ensures (no_ones c.args.s.now c.args.k c.in_err-ones.ensures.value)

pub returns-clause-value : goal.returns-clause-value
returns-clause-value c =
    two_told c.args.s.now c.args.k _ _ c.in_ok-tens.ensures.value c.in_ok-tens.ensures.most c.in_ok-ones.ensures.value
    c.in_ok-ones.ensures.most
