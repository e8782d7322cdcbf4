-- `restricted::convert::unrestrict` meets its contract.
-- Assumes nothing.
use mathlib.Core.Path.{sym, ap, ◌∙◌}
use native.Mathlib.Omega.{arith}
use Rattle.std.specs.Prelude.{Ok, None}
use Rattle.chars.specs.Write.{placed_text}
use Rattle.restricted.specs.Answers.{Measured, told}
use Rattle.restricted.specs.Code.{decoded}
use Rattle.restricted.proofs.Laws.Convert.{told-done, told-err, told-placed, told-short, unrestrict-chars, unrestrict-refused}
use Rattle.restricted.proofs.Laws.Parse.{decoded-stands, measured-some}
use Rattle.restricted.proofs.convert.unrestrict.Goals as goal

pub returns-in_err-n : goal.returns-in_err-n
returns-in_err-n c =
    let old = c.args.out.now in
    let e = c.in_err-n.field-0.0 in
    told-err c.from_residual.result e old c.from_residual.ensures.1 ∙ unrestrict-refused c.args.text.now old e c.in_err-n.ensures

pub returns-in_default : goal.returns-in_default
returns-in_default c =
    let s = c.args.text.now in
    let old = c.args.out.now in
    let new = c.place.new.out in
    let m : Measured s (Ok None) = rw c.in_default.is at c.in_ok-n.ensures in
    ap (λ r. told r new) c.ok_or.ensures.value ∙ told-placed s old new c.place.result c.place.ensures.size c.place.ensures.buffer
    ∙ sym (unrestrict-chars s old m.0 ∙ ap (λ t. placed_text t old) (decoded-stands s m.1))

pub returns-then-out-n : goal.returns-then-out-n
returns-then-out-n c =
    let m = measured-some c.args.text.now c.in-Some.n (rw c.in-Some.is at c.in_ok-n.ensures) in
    told-short (decoded c.args.text.now) c.args.out.now (omega (arith, m.2)) ∙ sym (unrestrict-chars c.args.text.now c.args.out.now m.0)

pub put_parsed-requires-clause-s_value : goal.put_parsed-requires-clause-s_value
put_parsed-requires-clause-s_value c =
    let m = measured-some c.args.text.now c.in-Some.n (rw c.in-Some.is at c.in_ok-n.ensures) in
    m.1

pub put_parsed-requires-clause-s_in_bounds : goal.put_parsed-requires-clause-s_in_bounds
put_parsed-requires-clause-s_in_bounds c =
    let m = measured-some c.args.text.now c.in-Some.n (rw c.in-Some.is at c.in_ok-n.ensures) in
    omega (arith, m.2)

pub returns : goal.returns
returns c =
    let m = measured-some c.args.text.now c.in-Some.n (rw c.in-Some.is at c.in_ok-n.ensures) in
    told-done c.put_parsed.ensures (omega (arith, m.2)) ∙ sym (unrestrict-chars c.args.text.now c.args.out.now m.0)
