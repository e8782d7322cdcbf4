-- `date_read::date::days_in` meets its contract.
-- Assumes nothing.
use Rattle.date_read.proofs.Laws.Date.{no_month, plain_month}
use Rattle.date_read.proofs.date.days_in.Goals as goal

pub returns-then-month-le-LAST_MONTH : goal.returns-then-month-le-LAST_MONTH
returns-then-month-le-LAST_MONTH c = plain_month c.args.year c.args.month c.if-month-eq2.false

pub returns-else-month-le-LAST_MONTH : goal.returns-else-month-le-LAST_MONTH
returns-else-month-le-LAST_MONTH c = no_month c.args.year c.args.month c.if-month-le-LAST_MONTH.false
