-- `lexical::token::skip_gaps` meets its contract. The loop's invariant: the tokens from `i` on are those from `from` on.
-- Assumes nothing.
use Rattle.std.proofs.Common.{◌∙◌, ◌≤◌, arith, sym, ap, length, drop}
use lib.ListN.{length-drop, drop_of_length-le}
use Rattle.lexical.specs.Tokens.{gap, tokens_at}
use Rattle.lexical.proofs.Laws.Tokens.{gap_none, gap_some, gap_step, gap_within}
use Rattle.lexical.proofs.token.skip_gaps.Goals as goal

pub returns-in_default : goal.returns-in_default
returns-in_default c =
    let l = c.loop-i in
    record {
      low = l.invariant.0;
      high = l.invariant.1;
      same = l.invariant.2;
      stops = gap_none l.i (gap (drop l.i c.args.s.now)) (sym c.in_default.is ∙ c.gap_end.ensures);
    }

pub loop-i-smaller : goal.loop-i-smaller
loop-i-smaller c =
    let i = c.loop-i.i in
    let s = c.args.s.now in
    omega (arith, gap_some i (gap (drop i s)) c.in-Some.end c.in-Some.ensures)

pub loop-i-preserved : goal.loop-i-preserved
loop-i-preserved c =
    let l = c.loop-i in
    let s = c.args.s.now in
    let e = gap_some l.i (gap (drop l.i s)) c.in-Some.end c.in-Some.ensures in (
      omega (arith, e.0),
      omega (arith, e.0, gap_within (drop l.i s), length-drop l.i s),
      l.invariant.2 ∙ gap_step s l.i (omega arith) e.1 ∙ ap (tokens_at s) (sym e.0),
    )

pub returns : goal.returns
unfolding gap
returns c =
    let l = c.loop-i in
    let s = c.args.s.now in
    let h : length s ≤ l.i = omega arith in
    record { low = l.invariant.0; high = l.invariant.1; same = l.invariant.2; stops = rw (drop_of_length-le s h) }
