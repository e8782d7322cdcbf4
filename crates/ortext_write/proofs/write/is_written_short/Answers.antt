-- `ortext_write::write::is_written_short` meets its contract: the three tests in order.
-- Assumes nothing.
use mathlib.Core.Path.{◌≡◌, sym, ap, ◌∙◌}
use mathlib.Core.Bool.{false}
use mathlib.Core.List.{[]}
use native.Mathlib.Omega.{arith}
use borrow.Author.Tests.{eqb-false, eqb-true}
use lib.ListN.{length}
use Rattle.chars.proofs.Laws.Lists.{true_not_false}
use Rattle.chars.proofs.Laws.Seq.{no_length}
use Rattle.oraddr.specs.Bounds.{GQ}
use Rattle.oraddr.specs.View.{value_view, view}
use Rattle.ortext_name.specs.Name.{is_short}
use Rattle.ortext_write.specs.Write.{remaining, writes_short}
use Rattle.ortext_write.proofs.Laws.Write.{name_left, single_left, writes_generation, writes_not, writes_rest}
use Rattle.ortext_write.proofs.write.is_written_short.Goals as goal
use Rattle.ortext_write.proofs.write.is_written_short.Goals.{then-is_only_name, else-is_only_name}

pub returns-then-size-eq0 : goal.returns-then-size-eq0
returns-then-size-eq0 c =
    let a = c.args in
    let left = remaining a.from (view a.rec) in
    elim c.if-is_only_name.branch [
      | then-is_only_name w ↦
          let size = eqb-true w.size.result 0 (sym w.value-is ∙ c.if-size-eq0.true) in
          let generation = single_left a.from (view a.rec) GQ (omega arith) ∙ sym w.single.ensures ∙ no_length (value_view w.single.result) (omega (arith, size, w.size.ensures)) in
          c.is_short.ensures ∙ ap (λ n. is_short n []) (c.name_in.ensures ∙ name_left a.from (view a.rec))
          ∙ sym (writes_rest left (sym c.is_only_name.ensures ∙ w.if-is_only_name.true) generation)
      | else-is_only_name w ↦ true_not_false c.if-is_only_name.value c.if-size-eq0.true (w.value-is ∙ w.if-is_only_name.false)
    ]

pub returns-else-size-eq0 : goal.returns-else-size-eq0
returns-else-size-eq0 c =
    let a = c.args in
    let left = remaining a.from (view a.rec) in
    let short : writes_short left ≡ false =
    elim c.if-is_only_name.branch [
      | then-is_only_name w ↦
          let size = eqb-false w.size.result 0 (sym w.value-is ∙ c.if-size-eq0.false) in
          let generation = single_left a.from (view a.rec) GQ (omega arith) in
          writes_generation left (omega (arith, ap length generation, ap length w.single.ensures, size, w.size.ensures))
      | else-is_only_name w ↦ writes_not left (sym c.is_only_name.ensures ∙ w.if-is_only_name.false)
    ] in
    c.if-size-eq0.false ∙ sym short
