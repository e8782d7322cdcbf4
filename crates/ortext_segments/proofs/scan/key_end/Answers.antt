-- `ortext_segments::scan::key_end` meets its contract. The loop's invariant: a key from `i` on ends where the key from `from` on does.
-- Assumes nothing.
use mathlib.Core.Path.{sym, ◌∙◌}
use native.Mathlib.Omega.{arith}
use Rattle.ortext_segments.proofs.Laws.Keys.{key-end, key_here, key_more}
use Rattle.ortext_segments.proofs.scan.key_end.Goals as goal

pub returns-then-not-is_label_char : goal.returns-then-not-is_label_char
returns-then-not-is_label_char c =
    let at = c in
    omega (arith, at.loop-i.invariant.same, key_here at.args.s.now at.loop-i.i (omega arith) (sym c.is_label_char.ensures ∙ c.if-not-is_label_char.true))

pub loop-i-preserved : goal.loop-i-preserved
loop-i-preserved c =
    let at = c in
    record {
      behind = omega arith;
      within = omega arith;
      same = omega (arith, at.loop-i.invariant.same, key_more at.args.s.now at.loop-i.i (omega arith) (sym c.is_label_char.ensures ∙ c.if-not-is_label_char.false));
    }

pub returns : goal.returns
returns c = omega (arith, c.max.ensures, c.loop-i.invariant.same, key-end c.args.s.now c.loop-i.i (omega arith))
