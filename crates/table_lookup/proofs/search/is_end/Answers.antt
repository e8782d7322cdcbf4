-- `table_lookup::search::is_end` meets its contract.
-- Assumes nothing.
use mathlib.Core.Path.{sym, ap, ap₂, ◌∙◌}
use Prim.Native.Nat.{ℕ}
use native.Mathlib.Omega.{arith}
use borrow.Author.Tests.{eq-eqb}
use lib.Dec.{eqb}
use lib.ListN.{get_or}
use Rattle.table_order.specs.Order.{spell_by}
use Rattle.table_lookup.proofs.Laws.Side.{at-end, end-at}
use Rattle.table_lookup.proofs.search.is_end.Goals as goal

pub returns-then-k-query : goal.returns-then-k-query
returns-then-k-query c =
    let a = c.args in
    sym (eq-eqb _ _ (ap (λ (k : ℕ). get_or (spell_by a.key a.query.now) k 0) c.if-k-query.true ∙ at-end a.key a.query.now))

pub returns : goal.returns
returns c =
    let a = c.args in
    ap₂ eqb c.byte_by.ensures c.separator_of.ensures ∙ sym (end-at a.key a.query.now a.k (omega arith))
