-- `restricted::code::coded_size` meets its contract: each way of coding has its length.
-- Assumes nothing.
use mathlib.Core.Path.{ap}
use lib.ListN.{length}
use Rattle.restricted.specs.Answers.{spelled}
use Rattle.restricted.specs.Code.{numbered}
use Rattle.restricted.proofs.code.coded_size.Goals as goal

pub returns-in-Single : goal.returns-in-Single
unfolding spelled
returns-in-Single c = rw c.in-Single.is at (ap length c.coding_of.ensures)

pub returns-in-Short : goal.returns-in-Short
unfolding spelled
returns-in-Short c = rw c.in-Short.is at (ap length c.coding_of.ensures)

pub returns-in-Number : goal.returns-in-Number
unfolding spelled numbered
returns-in-Number c = rw c.in-Number.is at (ap length c.coding_of.ensures)
