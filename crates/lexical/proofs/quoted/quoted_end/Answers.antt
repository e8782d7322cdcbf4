-- `lexical::quoted::quoted_end` meets its contract. The loop's invariant: a string that is open at `i` ends where one open at `from` does.
-- Assumes nothing.
use mathlib.Core.Path.{sym, ◌∙◌}
use native.Mathlib.Omega.{arith}
use Rattle.lexical.proofs.Laws.Quoted.{end_break, end_close, end-end, end_escape, end-fold, end_keep, fold-inside}
use Rattle.lexical.proofs.quoted.quoted_end.Goals as goal

pub overflow_add-i : goal.overflow_add-i
overflow_add-i c =
    let l = c.loop-i in
    omega (arith, fold-inside c.args.s.now l.i l.escaped (sym c.in-Fold.ensures))

pub loop-i-preserved-in-Fold : goal.loop-i-preserved-in-Fold
loop-i-preserved-in-Fold c =
    let l = c.loop-i in
    l.invariant ∙ end-fold c.args.s.now l.i l.escaped (omega arith) (sym c.in-Fold.ensures)

pub returns-in-Close : goal.returns-in-Close
returns-in-Close c =
    let l = c.loop-i in
    sym (l.invariant ∙ end_close c.args.s.now l.i l.escaped (omega arith) (sym c.in-Close.ensures))

pub loop-i-preserved-in-Escape : goal.loop-i-preserved-in-Escape
loop-i-preserved-in-Escape c =
    let l = c.loop-i in
    l.invariant ∙ end_escape c.args.s.now l.i l.escaped (omega arith) (sym c.in-Escape.ensures)

pub loop-i-preserved : goal.loop-i-preserved
loop-i-preserved c =
    let l = c.loop-i in
    l.invariant ∙ end_keep c.args.s.now l.i l.escaped (omega arith) (sym c.in-Keep.ensures)

pub returns-in-Break : goal.returns-in-Break
returns-in-Break c =
    let l = c.loop-i in
    sym (l.invariant ∙ end_break c.args.s.now l.i l.escaped (omega arith) (sym c.in-Break.ensures))

pub returns : goal.returns
returns c = sym (c.loop-i.invariant ∙ end-end c.args.s.now c.loop-i.i c.loop-i.escaped (omega arith))
