-- `cases::lines::line_end` meets its contract: a line ends within the text.
-- Assumes nothing.
use native.Mathlib.Omega.{arith}
use lib.ListN.{drop, length-drop}
use Rattle.chars.proofs.Laws.Parts.{run_le}
use Rattle.cases.proofs.lines.line_end.Goals as goal

pub returns : goal.returns
returns c =
    let a = c.args in
    record {
      ends = c.part_end.ensures;
      after = omega (arith, c.part_end.ensures);
      within = omega (arith, c.part_end.ensures, run_le 10 (drop a.from a.s.now), length-drop a.from a.s.now);
    }
