-- `date_read::date::february` meets its contract.
-- Assumes nothing.
use borrow.Author.Tests.{eq-eqb, ne_eqb}
use Rattle.date_read.specs.Date.{days_in}
use Rattle.date_read.proofs.date.february.Goals as goal

pub returns-then-year-eq0 : goal.returns-then-year-eq0
unfolding days_in
returns-then-year-eq0 c = rw (eq-eqb _ _ c.if-year-eq0.true)

pub returns-else-year-eq0 : goal.returns-else-year-eq0
unfolding days_in
returns-else-year-eq0 c = rw (ne_eqb _ _ c.if-year-eq0.false)
