-- `restricted::parse::measure_parsed` meets its contract.
-- Assumes nothing.
use native.Mathlib.Omega.{arith}
use mathlib.Core.Path.{ap, ◌∙◌}
use lib.ListN.{drop}
use Rattle.chars.specs.Class.{is_char}
use Rattle.chars.proofs.Laws.Lists.{all_end}
use Rattle.restricted.specs.Answers.{unparsed_answer}
use Rattle.restricted.proofs.Laws.Code.{rest-whole}
use Rattle.restricted.proofs.Laws.Parse.{measured-none, parsing_end, parsing_none, parsing_start, parsing_step}
use Rattle.restricted.proofs.parse.measure_parsed.Goals as goal

pub loop-i-init : goal.loop-i-init
loop-i-init c = (omega arith, parsing_start c.args.s.now)

pub returns-in_default : goal.returns-in_default
returns-in_default c =
    let l = c.loop-i in
    let s = c.args.s.now in
    let d = l.invariant.1 in
    measured-none s (drop l.i s) c.unparsed_answer.result (parsing_none d c.in_default.ensures) d.chars
    (c.unparsed_answer.ensures ∙ ap unparsed_answer (rest-whole s l.i))

pub loop-i-preserved : goal.loop-i-preserved
loop-i-preserved c = (omega (arith, c.in-Some.ensures.some_bytes), parsing_step c.loop-i.invariant.1 c.in-Some.ensures)

pub returns : goal.returns
returns c =
    let l = c.loop-i in
    let d = l.invariant.1 in
    let s = c.args.s.now in
    (d.chars ∙ all_end is_char s l.i (omega arith), d.text, parsing_end d (omega arith), d.size)
