-- `ortext_read::read::finished` meets its contract.
-- Assumes nothing.
use mathlib.Core.Path.{◌≡◌, sym, ap, ◌∙◌}
use native.Mathlib.Omega.{arith}
use lib.ListN.{length}
use Rattle.oraddr.specs.Add.{told}
use Rattle.ortext_read.specs.Apply.{complete, finish, read}
use Rattle.ortext_build.proofs.Laws.Adding.{told-done, told-refused}
use Rattle.ortext_read.proofs.Laws.Answers.{answer-record, answer-refused, complete-admd, complete_no_c, complete_space, finish-refused, finish-start}
use Rattle.ortext_read.proofs.read.finished.Goals as goal
use Rattle.ortext_read.proofs.read.finished.Goals.{then-size-eq0-via-then-size-eq0, then-size-eq0-via-else-size-eq0+then-size-gt0}

pub returns-in-Refused : goal.returns-in-Refused
returns-in-Refused c =
    let a = c.args in answer-refused (finish-refused (told a.done.now) (told-refused a.done.now c.in-Refused.is))

pub returns-then-size-eq0 : goal.returns-then-size-eq0
returns-then-size-eq0 c =
    let d = c.args.done.now in
    let rec = d.«record» in
    let kept : rec ≡ complete rec =
    elim c.then-size-eq0.branch [
      | then-size-eq0-via-then-size-eq0 w ↦ complete_no_c rec (ap length (sym c.single.ensures) ∙ sym c.size.ensures ∙ w.if-size-eq0.true)
      | then-size-eq0-via-else-size-eq0+then-size-gt0 w ↦ complete-admd rec (omega (arith, ap length w.single-else-size-eq0.ensures, w.size-else-size-eq0.ensures, w.if-size-gt0.true))
    ] in
    answer-record _ (ap finish (told-done d c.in_default.is) ∙ finish-start rec ∙ ap read (sym kept))

pub returns : goal.returns
returns c =
    let d = c.args.done.now in
    let rec = d.«record» in
    let spaced = ap (λ o. o.record') c.with_single.ensures ∙ complete_space rec (omega (arith, ap length c.single.ensures, c.size.ensures, c.if-size-eq0.false)) (omega (arith, ap length c.single-else-size-eq0.ensures, c.size-else-size-eq0.ensures, c.if-size-gt0.false)) in
    answer-record _ (ap finish (told-done d c.in_default.is) ∙ finish-start rec ∙ ap read (sym spaced))
