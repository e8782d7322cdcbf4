-- `rowlist::spread` meets its contract. The loop's invariant: the first i entries are laid out.
-- Assumes nothing.
use Rattle.std.proofs.Common.{◌≡◌}
use Rattle.rowlist.proofs.Laid.{laid_out}
use Rattle.rowlist.proofs.spread.Given as goal

abbrev pub invariant-loop-i : goal.invariant-loop-i
invariant-loop-i l = l.numbers ≡ laid_out l.rows l.initial.numbers l.i
