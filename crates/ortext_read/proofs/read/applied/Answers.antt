-- `ortext_read::read::applied` meets its contract.
-- Assumes nothing.
use mathlib.Core.Path.{◌≡◌, sym, ap, ap₂, ◌∙◌}
use mathlib.Core.Bool.{true, false, ◌||◌}
use Rattle.chars.proofs.Laws.Lists.{or_left, or_right}
use Rattle.oraddr.specs.Add.{told}
use Rattle.ortext_build.specs.Adding.{add_held}
use Rattle.ortext_named.specs.Named.{is_beside}
use Rattle.ortext_read.specs.Answers.{reading_result}
use Rattle.ortext_read.proofs.Laws.Answers.{answer-again, answer-refused, finish-done, held_again, held_finished, held_refused}
use Rattle.ortext_read.proofs.read.applied.Goals as goal
use Rattle.ortext_read.proofs.read.applied.Goals.{then-named-2-via-then-named-2, then-named-2-via-else-named-2+then-is_beside}

pub returns-then-named : goal.returns-then-named
returns-then-named c =
    let a = c.args in answer-again (held_again a.s.now a.named a.rec c.if-named.true)

pub returns-then-named-2 : goal.returns-then-named-2
returns-then-named-2 c =
    let a = c.args in
    let refuse = λ (e : (a.named.bad || is_beside a.named) ≡ true). answer-refused (held_refused a.s.now a.named a.rec c.if-named.false e) in
    elim c.then-named-2.branch [
      | then-named-2-via-then-named-2 w ↦ refuse (or_left a.named.bad (is_beside a.named) w.if-named-2.true)
      | then-named-2-via-else-named-2+then-is_beside w ↦ refuse (or_right a.named.bad (is_beside a.named) (sym w.is_beside.ensures ∙ w.if-is_beside.true))
    ]

pub returns : goal.returns
returns c =
    let a = c.args in
    let d = c.add_named in
    let f : (a.named.bad || is_beside a.named) ≡ false = ap₂ (λ x y. x || y) c.if-named-2.false (sym c.is_beside.ensures ∙ c.if-is_beside.false) in
    c.finished.ensures
    ∙ ap reading_result (finish-done (told d.result) (add_held a.s.now a.named a.rec) d.ensures
    ∙ sym (held_finished a.s.now a.named a.rec c.if-named.false f))
