-- `restricted::parse::put_parsed` meets its contract.
-- Assumes nothing.
use mathlib.Core.Path.{refl, ◌∙◌}
use native.Mathlib.Omega.{arith}
use lib.ListN.{drop, length-set}
use Rattle.restricted.specs.Answers.{Begins}
use Rattle.restricted.proofs.Laws.Parse.{decoded_parsed, parsing_end, parsing_room, parsing_some, writing_start, writing_step}
use Rattle.restricted.proofs.parse.put_parsed.Goals as goal

pub loop-i-init : goal.loop-i-init
loop-i-init c = (refl, writing_start c.args.s.now c.args.dst.now)

pub unwrap-g-requires : goal.unwrap-g-requires
unwrap-g-requires c = parsing_some c.loop-i.invariant.1.parsed c.requires.s_value c.group_at.result c.group_at.ensures

pub bounds-dst-n : goal.bounds-dst-n
bounds-dst-n c =
    let r : Begins (drop c.loop-i.i c.args.s.now) c.unwrap-g.result = rw c.unwrap-g.ensures at c.group_at.ensures in
    omega (arith, parsing_room c.loop-i.invariant.1.parsed r c.requires.s_value)

pub overflow_add-n : goal.overflow_add-n
overflow_add-n c =
    let r : Begins (drop c.loop-i.i c.args.s.now) c.unwrap-g.result = rw c.unwrap-g.ensures at c.group_at.ensures in
    omega (arith, parsing_room c.loop-i.invariant.1.parsed r c.requires.s_value)

pub loop-i-preserved : goal.loop-i-preserved
loop-i-preserved c =
    let r : Begins (drop c.loop-i.i c.args.s.now) c.unwrap-g.result = rw c.unwrap-g.ensures at c.group_at.ensures in
    let l = c.loop-i in
    (length-set l.dst l.n _ ∙ l.invariant.0, writing_step l.invariant.1 r)

pub returns : goal.returns
returns c =
    let d = c.loop-i.invariant.1 in
    let s = c.args.s.now in
    rw (decoded_parsed s d.parsed.text (parsing_end d.parsed (omega arith))) d.wrote
