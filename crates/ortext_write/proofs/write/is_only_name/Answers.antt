-- `ortext_write::write::is_only_name` meets its contract: the four tests in order.
-- Assumes nothing.
use mathlib.Core.Path.{◌≡◌, refl, sym, ap, ap₂, ◌∙◌}
use mathlib.Core.Bool.{not, ◌&&◌}
use native.Mathlib.Omega.{arith}
use Prim.Native.Nat.{ℕ}
use lib.Dec.{eqb, leb}
use lib.ListN.{length, take}
use Rattle.chars.specs.Lists.{all, non_empty}
use Rattle.oraddr.specs.Attributes.{single_of}
use Rattle.oraddr.specs.Bounds.{CN, own_levels}
use Rattle.oraddr.specs.View.{view}
use Rattle.ortext_name.proofs.Laws.Name.{asked_both, asked_first}
use Rattle.ortext_write.specs.Write.{only_name, remaining}
use Rattle.ortext_write.proofs.Laws.Write.{none_test, single_left, units-test}
use Rattle.ortext_write.proofs.write.is_only_name.Goals as goal
use Rattle.ortext_write.proofs.write.is_only_name.Goals.{then-is_own_empty, else-is_own_empty, then-size-saturating_sub, else-size-saturating_sub}

pub returns-then-size-eq0 : goal.returns-then-size-eq0
unfolding only_name remaining view
returns-then-size-eq0 c =
    let r = view c.args.rec in
    let left = remaining c.args.from r in
    let a : c.if-is_own_empty.value ≡ (all (λ s. not (non_empty s)) (take own_levels left.single) && not (non_empty left.units)) =
    elim c.if-is_own_empty.branch [
      | then-is_own_empty w ↦ asked_both c.is_own_empty.ensures (ap₂ leb w.size.ensures w.saturating_sub.ensures ∙ units-test c.args.from r) w.if-is_own_empty.true w.value-is
      | else-is_own_empty w ↦ asked_first _ c.is_own_empty.ensures w.if-is_own_empty.false w.value-is
    ] in
    let b : c.if-size-saturating_sub.value ≡ (all (λ s. not (non_empty s)) (take own_levels left.single) && not (non_empty left.units) && not (non_empty (single_of left CN))) =
    elim c.if-size-saturating_sub.branch [
      | then-size-saturating_sub w ↦ asked_both a (ap (λ (n : ℕ). eqb n 0) w.size-then-size-saturating_sub.ensures ∙ ap (λ s. eqb (length s) 0) (w.single.ensures ∙ sym (single_left c.args.from r CN (omega arith))) ∙ none_test _) w.if-size-saturating_sub.true w.value-is
      | else-size-saturating_sub w ↦ asked_first _ a w.if-size-saturating_sub.false w.value-is
    ] in
    asked_both b (ap (λ (n : ℕ). eqb n 0) c.size-then-size-eq0.ensures ∙ none_test _) c.if-size-eq0.true refl

pub returns-else-size-eq0 : goal.returns-else-size-eq0
unfolding only_name view
returns-else-size-eq0 c =
    let r = view c.args.rec in
    let left = remaining c.args.from r in
    let a : c.if-is_own_empty.value ≡ (all (λ s. not (non_empty s)) (take own_levels left.single) && not (non_empty left.units)) =
    elim c.if-is_own_empty.branch [
      | then-is_own_empty w ↦ asked_both c.is_own_empty.ensures (ap₂ leb w.size.ensures w.saturating_sub.ensures ∙ units-test c.args.from r) w.if-is_own_empty.true w.value-is
      | else-is_own_empty w ↦ asked_first _ c.is_own_empty.ensures w.if-is_own_empty.false w.value-is
    ] in
    let b : c.if-size-saturating_sub.value ≡ (all (λ s. not (non_empty s)) (take own_levels left.single) && not (non_empty left.units) && not (non_empty (single_of left CN))) =
    elim c.if-size-saturating_sub.branch [
      | then-size-saturating_sub w ↦ asked_both a (ap (λ (n : ℕ). eqb n 0) w.size-then-size-saturating_sub.ensures ∙ ap (λ s. eqb (length s) 0) (w.single.ensures ∙ sym (single_left c.args.from r CN (omega arith))) ∙ none_test _) w.if-size-saturating_sub.true w.value-is
      | else-size-saturating_sub w ↦ asked_first _ a w.if-size-saturating_sub.false w.value-is
    ] in
    asked_first _ b c.if-size-eq0.false refl
