-- `list_cases::entries::behind` is safe: a field ends within the text.
-- Assumes nothing.
use native.Mathlib.Omega.{arith}
use Rattle.chars.proofs.Laws.Parts.{run_le}
use Rattle.list_cases.proofs.entries.behind.Goals as goal

pub overflow_add-part_end : goal.overflow_add-part_end
overflow_add-part_end c = omega (arith, c.part_end.ensures, run_le 32 c.args.s.now)
