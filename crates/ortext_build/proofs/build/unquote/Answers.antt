-- `ortext_build::build::unquote` meets its contract. The loop's invariant: what is stored, and what is left, is the whole text.
-- Assumes nothing.
use mathlib.Core.Path.{refl, ◌∙◌}
use native.Mathlib.Omega.{arith}
use lib.ListN.{length-set}
use Rattle.chars.proofs.Laws.Lists.{true_not_false}
use Rattle.ortext_build.proofs.Laws.Spans.{all_stored, byte_stored, quote_passed, unquoted_after}
use Rattle.ortext_build.proofs.build.unquote.Goals as goal
use Rattle.ortext_build.proofs.build.unquote.Goals.{else-b-eq36-via-then-b-eq36+else-not-is_quoted, else-b-eq36-via-else-b-eq36}

pub loop-b-init : goal.loop-b-init
unfolding unquoted_after
loop-b-init c = record { behind = omega arith; room = refl; text = refl }

pub loop-b-preserved-then-not-is_quoted : goal.loop-b-preserved-then-not-is_quoted
loop-b-preserved-then-not-is_quoted c =
    let l = c.loop-b in record {
      behind = omega arith;
      room = l.invariant.room;
      text = quote_passed _ l.room l.b-index l.n l.is_quoted (omega arith) l.invariant.text c.if-b-eq36.true c.if-not-is_quoted.true;
    }

pub loop-b-preserved : goal.loop-b-preserved
loop-b-preserved c =
    let l = c.loop-b in record {
      behind = omega arith;
      room = length-set l.room l.n _ ∙ l.invariant.room;
      text =
          byte_stored _ l.room l.b-index l.n l.is_quoted (omega arith) l.invariant.text (omega arith)
          (elim c.else-b-eq36.branch [
            | else-b-eq36-via-then-b-eq36+else-not-is_quoted w ↦ λ f g. true_not_false l.is_quoted w.if-not-is_quoted.false f
            | else-b-eq36-via-else-b-eq36 w ↦ λ f g. w.if-b-eq36.false g
          ]);
    }

pub returns : goal.returns
returns c =
    let l = c.loop-b in record {
      fits = omega arith;
      holds = all_stored c.args.s.now l.room c.args.span l.b-index l.n l.is_quoted (omega arith) l.invariant.text;
    }
