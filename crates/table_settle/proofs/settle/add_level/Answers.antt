-- `table_settle::settle::add_level` meets its contract.
-- Assumes nothing.
use mathlib.Core.Path.{sym, ◌∙◌}
use native.Mathlib.Omega.{arith}
use Rattle.table_settle.proofs.Laws.Settle.{level_omitted, level_single, level_unit}
use Rattle.table_settle.proofs.settle.add_level.Goals as goal

pub returns-then-token-eq0 : goal.returns-then-token-eq0
returns-then-token-eq0 c =
    let a = c.args in
    sym (level_omitted a.k a.token.now a.rec c.if-token-eq0.true)

pub returns-then-k-lt-OWN_LEVELS : goal.returns-then-k-lt-OWN_LEVELS
returns-then-k-lt-OWN_LEVELS c =
    let a = c.args in
    c.with_single.ensures ∙ sym (level_single a.k a.token.now a.rec c.if-token-eq0.false (omega arith))

pub returns : goal.returns
returns c =
    let a = c.args in
    c.with_unit.ensures ∙ sym (level_unit a.k a.token.now a.rec c.if-token-eq0.false (omega arith))
