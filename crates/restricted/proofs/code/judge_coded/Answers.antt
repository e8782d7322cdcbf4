-- `restricted::code::judge_coded` meets its contract.
-- Assumes nothing.
use mathlib.Core.Path.{sym, ap, ◌∙◌}
use Prim.Native.Nat.{◌≤◌, ◌<◌}
use native.Mathlib.Omega.{arith}
use borrow.Author.Tests.{ltb-false, ltb-true}
use lib.ListN.{length, drop, get_or}
use Rattle.std.specs.Prelude.{Err}
use Rattle.chars.specs.Class.{highest_code, is_char}
use Rattle.chars.proofs.Laws.Lists.{all_end}
use Rattle.restricted.specs.Answers.{short_answer}
use Rattle.restricted.proofs.Laws.Code.{answer-done, answer-high, answer-short, chars_step, chars_stop, coded-end, rest-whole, size_step}
use Rattle.restricted.proofs.code.judge_coded.Goals as goal

pub returns-then-not-is_ascii : goal.returns-then-not-is_ascii
returns-then-not-is_ascii c =
    let l = c.loop-i in
    let a = c.args in
    let h : highest_code < get_or a.s.now l.i 0 = omega (arith, ltb-false _ 128 (sym c.is_ascii.ensures ∙ c.if-not-is_ascii.true)) in
    sym (answer-high a.s.now a.room (l.invariant.chars ∙ chars_stop a.s.now l.i (omega arith) h))

pub returns-then-left-n : goal.returns-then-left-n
returns-then-left-n c =
    let l = c.loop-i in
    let a = c.args in
    ap (λ e. Err e) (c.short_answer.ensures ∙ ap short_answer (rest-whole a.s.now l.i))
    ∙ sym
    (answer-short a.s.now (drop l.i a.s.now) a.room
    (omega (arith, l.invariant.used, size_step a.s.now l.i (omega arith), c.coded_size-n.ensures, c.if-left-n.true))
    l.invariant.chars)

pub loop-i-preserved : goal.loop-i-preserved
loop-i-preserved c =
    let l = c.loop-i in
    let a = c.args in
    let h : get_or a.s.now l.i 0 ≤ highest_code = omega (arith, ltb-true _ 128 (sym c.is_ascii.ensures ∙ c.if-not-is_ascii.false)) in
    record {
      chars = l.invariant.chars ∙ chars_step a.s.now l.i (omega arith) h;
      used = omega (arith, l.invariant.used, size_step a.s.now l.i (omega arith), c.coded_size-n.ensures, c.if-left-n.false);
    }

pub returns : goal.returns
returns c =
    let l = c.loop-i in
    let a = c.args in
    let e = ap length (coded-end a.s.now l.i (omega arith)) in
    sym (answer-done a.s.now a.room (omega (arith, l.invariant.used, e)) (l.invariant.chars ∙ all_end is_char a.s.now l.i (omega arith)))
