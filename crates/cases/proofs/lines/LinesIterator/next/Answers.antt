-- `cases::lines::Lines` gives the lines of its text in order.
-- Assumes nothing.
use Rattle.std.proofs.Common.{◌≡◌, ◌<◌, ◌∷◌, arith, ap, length, take, sym}
use borrow.Author.Tests.{eqb-true, eqb-false}
use Rattle.chars.specs.Parts.{run}
use Rattle.cases.specs.Lines.{lines}
use Rattle.cases.proofs.Laws.{lines_step, no_lines}
use Rattle.cases.proofs.lines.LinesIterator.next.Goals as goal

pub returns-then-is_empty-clause-steps : goal.returns-then-is_empty-clause-steps
returns-then-is_empty-clause-steps c =
    let s = c.args.self.now.left.now in
    let e = no_lines s (eqb-true (length s) 0 (sym c.if-is_empty.ensures)) in
    (e, e)

pub returns-clause-steps : goal.returns-clause-steps
returns-clause-steps c =
    let s = c.args.self.now.left.now in
    let some : 0 < length s = omega (arith, eqb-false (length s) 0 (sym c.if-is_empty.ensures)) in
    let n : c.line_end-end.result ≡ run 10 s = omega (arith, c.line_end-end.ensures.ends) in
    rw (c.rest-self.ensures, n) (lines_step s some)

pub returns-clause-goes : goal.returns-clause-goes
returns-clause-goes c =
    let e : lines c.args.self.now.left.now ≡ take c.line_end-end.result c.args.self.now.left.now ∷ lines c.rest-self.result.now = returns-clause-steps c in
    let l = ap length e in
    grind (arith, l)
