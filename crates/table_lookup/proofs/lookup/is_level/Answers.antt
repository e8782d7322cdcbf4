-- `is_level` meets its contract: a named level is compared as it stands in the text, one that is not is empty.
-- Assumes nothing.
use borrow.Author.Rules.{rules}
use mathlib.Core.Path.{◌≡◌, ap, ◌∙◌}
use Prim.Native.Nat.{ℕ, ◌+◌, ◌-◌}
use native.Mathlib.Omega.{arith}
use lib.ListN.{take, drop}
use Rattle.chars.specs.Case.{same_text}
use Rattle.table_lookup.specs.Levels.{level_token, span_text}
use Rattle.table_lookup.specs.Looked.{KindInside}
use Rattle.table_lookup.specs.declared.level.LevelKind.TheVariants.{Named}
use Rattle.table_lookup.proofs.Laws.Paths.{nothing_same}
use Rattle.table_lookup.proofs.lookup.is_level.Goals as goal

pub overflow_add-b : goal.overflow_add-b
overflow_add-b c =
    let h : KindInside c.args.text.now (Named c.in-Named.span) = rw c.in-Named.is at c.requires in
    omega arith

pub slice_bounds-same_text-end : goal.slice_bounds-same_text-end
slice_bounds-same_text-end c =
    let h : KindInside c.args.text.now (Named c.in-Named.span) = rw c.in-Named.is at c.requires in
    search rules

pub returns-in-Named : goal.returns-in-Named
unfolding level_token span_text
returns-in-Named c =
    let a = c.args in
    let span = c.in-Named.span in
    let e : span.start + span.len - span.start ≡ span.len = omega arith in
    rw c.in-Named.is (c.same_text.ensures ∙ ap (λ (n : ℕ). same_text (take n (drop span.start a.text.now)) a.token.now) e)

pub returns-in-Omitted : goal.returns-in-Omitted
unfolding level_token
returns-in-Omitted c = rw c.in-Omitted.is (c.is_empty.ensures ∙ nothing_same c.args.token.now)

pub returns-in-NotReached : goal.returns-in-NotReached
unfolding level_token
returns-in-NotReached c = rw c.in-NotReached.is (c.is_empty-in-NotReached.ensures ∙ nothing_same c.args.token.now)
