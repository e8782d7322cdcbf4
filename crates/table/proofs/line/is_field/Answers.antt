-- `table::line::is_field` meets its contract: an empty field keeps no rule, and another is no omitted level.
-- Assumes nothing.
use mathlib.Core.Path.{sym, ◌∙◌}
use native.Mathlib.Omega.{arith}
use borrow.Author.Tests.{eqb-false, eqb-true}
use lib.ListN.{length}
use Rattle.table.proofs.Laws.Fields.{field_empty, field_own, field_unit}
use Rattle.table.proofs.line.is_field.Goals as goal

pub returns-then-is_empty : goal.returns-then-is_empty
returns-then-is_empty c =
    let a = c.args in
    sym (field_empty a.k a.s.now (eqb-true (length a.s.now) 0 (sym c.is_empty.ensures ∙ c.if-is_empty.true)))

pub returns-then-k-lt-OWN_LEVELS : goal.returns-then-k-lt-OWN_LEVELS
returns-then-k-lt-OWN_LEVELS c =
    let a = c.args in
    c.keeps_rule.ensures ∙ sym (field_own a.k a.s.now (eqb-false (length a.s.now) 0 (sym c.is_empty.ensures ∙ c.if-is_empty.false)) (omega arith))

pub returns-else-k-lt-OWN_LEVELS : goal.returns-else-k-lt-OWN_LEVELS
returns-else-k-lt-OWN_LEVELS c =
    let a = c.args in
    c.is_value.ensures ∙ sym (field_unit a.k a.s.now (eqb-false (length a.s.now) 0 (sym c.is_empty.ensures ∙ c.if-is_empty.false)) (omega arith))
