-- `ortext_name::name::Name::is_short` meets its contract: its tests are those of `is_short`, in its order.
-- Assumes nothing.
use mathlib.Core.Path.{◌≡◌, refl, sym, ap, ◌∙◌}
use mathlib.Core.Bool.{not, ◌&&◌}
use Prim.Native.Nat.{ℕ}
use lib.Dec.{eqb}
use Rattle.chars.specs.Lists.{all, non_empty}
use Rattle.chars.specs.Class.{is_in, is_letter}
use Rattle.ortext_name.specs.Name.{dot_allowed, given_short}
use Rattle.ortext_name.specs.Places.{name_view}
use Rattle.ortext_name.proofs.Laws.Name.{asked_both, asked_first, short_tests, some-full}
use Rattle.ortext_name.proofs.name.Name.is_short.Goals as goal
use Rattle.ortext_name.proofs.name.Name.is_short.Goals.{then-not-is_empty, else-not-is_empty, then-all_in, else-all_in, then-is_given_short, else-is_given_short}

pub returns-then-is_dot_allowed : goal.returns-then-is_dot_allowed
unfolding is_in
returns-then-is_dot_allowed c =
    let n = c.args.self.now in
    let a : c.if-not-is_empty.value ≡ (non_empty n.surname.now && all is_letter n.initials.now) =
    elim c.if-not-is_empty.branch [
      | then-not-is_empty w ↦ asked_both (some-full _ c.is_empty.ensures) w.all_in.ensures (ap not w.if-not-is_empty.true) w.value-is
      | else-not-is_empty w ↦ asked_first _ (some-full _ c.is_empty.ensures) (ap not w.if-not-is_empty.false) w.value-is
    ] in
    let b : c.if-all_in.value ≡ (non_empty n.surname.now && all is_letter n.initials.now && given_short n.given.now) =
    elim c.if-all_in.branch [
      | then-all_in w ↦ asked_both a w.is_given_short.ensures w.if-all_in.true w.value-is
      | else-all_in w ↦ asked_first _ a w.if-all_in.false w.value-is
    ] in
    let d : c.if-is_given_short.value ≡ (non_empty n.surname.now && all is_letter n.initials.now && given_short n.given.now && dot_allowed (name_view n)) =
    elim c.if-is_given_short.branch [
      | then-is_given_short w ↦ asked_both b w.is_dot_allowed.ensures w.if-is_given_short.true w.value-is
      | else-is_given_short w ↦ asked_first _ b w.if-is_given_short.false w.value-is
    ] in
    asked_both d (ap (λ (x : ℕ). not (eqb x 47)) c.first_byte.ensures) c.if-is_dot_allowed.true refl ∙ sym (short_tests (name_view n))

pub returns-else-is_dot_allowed : goal.returns-else-is_dot_allowed
unfolding is_in
returns-else-is_dot_allowed c =
    let n = c.args.self.now in
    let a : c.if-not-is_empty.value ≡ (non_empty n.surname.now && all is_letter n.initials.now) =
    elim c.if-not-is_empty.branch [
      | then-not-is_empty w ↦ asked_both (some-full _ c.is_empty.ensures) w.all_in.ensures (ap not w.if-not-is_empty.true) w.value-is
      | else-not-is_empty w ↦ asked_first _ (some-full _ c.is_empty.ensures) (ap not w.if-not-is_empty.false) w.value-is
    ] in
    let b : c.if-all_in.value ≡ (non_empty n.surname.now && all is_letter n.initials.now && given_short n.given.now) =
    elim c.if-all_in.branch [
      | then-all_in w ↦ asked_both a w.is_given_short.ensures w.if-all_in.true w.value-is
      | else-all_in w ↦ asked_first _ a w.if-all_in.false w.value-is
    ] in
    let d : c.if-is_given_short.value ≡ (non_empty n.surname.now && all is_letter n.initials.now && given_short n.given.now && dot_allowed (name_view n)) =
    elim c.if-is_given_short.branch [
      | then-is_given_short w ↦ asked_both b w.is_dot_allowed.ensures w.if-is_given_short.true w.value-is
      | else-is_given_short w ↦ asked_first _ b w.if-is_given_short.false w.value-is
    ] in
    asked_first _ d c.if-is_dot_allowed.false refl ∙ sym (short_tests (name_view n))
