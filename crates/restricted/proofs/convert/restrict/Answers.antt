-- `restricted::convert::restrict` meets its contract.
-- Assumes nothing.
use mathlib.Core.Path.{sym, ◌∙◌}
use lib.ListN.{length}
use Rattle.restricted.proofs.Laws.Convert.{done-fits, restrict-done, restrict-refused, told-done, told-err}
use Rattle.restricted.proofs.convert.restrict.Goals as goal

pub returns-in_err-judge_coded : goal.returns-in_err-judge_coded
returns-in_err-judge_coded c =
    let old = c.args.out.now in
    let e = c.in_err-judge_coded.field-0.0 in
    told-err c.from_residual.result e old c.from_residual.ensures.1 ∙ restrict-refused c.args.text.now old e c.in_err-judge_coded.ensures

pub put_coded-requires : goal.put_coded-requires
put_coded-requires c = (done-fits c.args.text.now (length c.args.out.now) c.in_ok-judge_coded.ensures).1

pub returns : goal.returns
returns c =
    let d = done-fits c.args.text.now (length c.args.out.now) c.in_ok-judge_coded.ensures in
    told-done c.put_coded.ensures d.1 ∙ sym (restrict-done c.args.text.now c.args.out.now d.0)
