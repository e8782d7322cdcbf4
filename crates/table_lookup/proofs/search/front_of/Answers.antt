-- `table_lookup::search::front_of` meets its contract.
-- Assumes nothing.
use mathlib.Core.Path.{sym, ap, ◌∙◌}
use mathlib.Core.List.{List, reverse}
use Prim.Native.Nat.{ℕ, ◌-◌, ◌≤◌}
use native.Mathlib.Omega.{arith}
use lib.ListN.{length, drop, length-drop}
use lib.Seq.{length-take-le, take_all}
use Rattle.table_order.specs.Order.{read_by, separator, spell}
use Rattle.table_order.specs.Order.{spell_by}
use Rattle.table_lookup.proofs.Laws.Side.{reverse-drop, spell-take}
use Rattle.table_lookup.proofs.search.front_of.Goals as goal

pub slice_bounds-result-end-in-Path : goal.slice_bounds-result-end-in-Path
slice_bounds-result-end-in-Path c = sym (length-take-le _ _ c.requires)

pub returns-in-Domain : goal.returns-in-Domain
unfolding spell_by separator read_by
returns-in-Domain c =
    let a = c.args in
    let m : ℕ = length a.query.now - a.k in
    let e : length (drop m a.query.now) ≤ length a.query.now - m = omega (arith, length-drop m a.query.now) in
    rw c.in-Domain.is
    (ap (λ (t : List ℕ). spell 46 (reverse t)) (take_all (length a.query.now - m) (drop m a.query.now) e)
    ∙ ap (spell 46) (reverse-drop a.k a.query.now c.requires)
    ∙ spell-take 46 a.k (reverse a.query.now))

pub returns-in-Path : goal.returns-in-Path
unfolding spell_by separator read_by
returns-in-Path c =
    let a = c.args in
    rw c.in-Path.is (spell-take 9 a.k a.query.now)
