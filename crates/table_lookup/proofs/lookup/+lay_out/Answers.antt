-- `table_lookup::lookup::lay_out` meets its contract. The levels that are left fall.
-- Assumes nothing.
use mathlib.Core.Path.{◌≡◌, sym, ap, ◌∙◌}
use mathlib.Core.List.{List, [], ◌∷◌, ◌++◌}
use Prim.Native.Nat.{ℕ, suc, ◌+◌, ◌-◌}
use native.Mathlib.Omega.{arith}
use lib.ListN.{length, get_or, length-append, length-set}
use Rattle.chars.proofs.Laws.Write.{wrote-length, wrote_nothing, wrote_one, wrote_then}
use Rattle.table_lookup.specs.Looked.{tabbed, tokens_from}
use Rattle.table.specs.Rows.{between}
use Rattle.table_lookup.proofs.Laws.Laid.{tabbed-none, tabbed_step}
use Rattle.table_lookup.proofs.lookup.+lay_out.Goals as goal

-- what the levels from the next on come to, laid out
next : (levels ends : List ℕ) (k left : ℕ) → (left ≡ 0 → ⊥)
    → tabbed (tokens_from levels ends k left)
    ≡ (9 ∷ []) ++ (between levels (get_or ends k 0) (get_or ends (k + 1) 0) ++ tabbed (tokens_from levels ends (k + 1) (left - 1)))
next levels ends k left n =
    let e : suc (left - 1) ≡ left = omega arith in
    ap (λ (m : ℕ). tabbed (tokens_from levels ends k m)) (sym e) ∙ tabbed_step levels ends k (left - 1)

pub returns-then-left-eq0 : goal.returns-then-left-eq0
returns-then-left-eq0 t c =
    let a = c.args in
    let l : tabbed (tokens_from a.levels.now.bytes.now a.levels.now.ends.now a.k a.left) ≡ [] =
    ap (λ (m : ℕ). tabbed (tokens_from a.levels.now.bytes.now a.levels.now.ends.now a.k m)) c.if-left-eq0.true ∙ tabbed-none a.levels.now.bytes.now a.levels.now.ends.now a.k in
    rw l wrote_nothing

pub bounds-query-at : goal.bounds-query-at
bounds-query-at t c =
    let a = c.args in
    omega (arith, c.requires.left_in_bounds, ap length (next a.levels.now.bytes.now a.levels.now.ends.now a.k a.left c.if-left-eq0.false))

pub overflow_add-at : goal.overflow_add-at
overflow_add-at t c =
    let a = c.args in
    omega (arith, c.requires.left_in_bounds, ap length (next a.levels.now.bytes.now a.levels.now.ends.now a.k a.left c.if-left-eq0.false))

pub put-next-requires : goal.put-next-requires
unfolding between
put-next-requires t c =
    let a = c.args in
    let level : List ℕ = between a.levels.now.bytes.now (get_or a.levels.now.ends.now a.k 0) (get_or a.levels.now.ends.now (a.k + 1) 0) in
    let rest : List ℕ = tabbed (tokens_from a.levels.now.bytes.now a.levels.now.ends.now (a.k + 1) (a.left - 1)) in
    let l = next a.levels.now.bytes.now a.levels.now.ends.now a.k a.left c.if-left-eq0.false in
    omega (arith, c.requires.left_in_bounds, ap length l, length-append level rest, length-set a.query.now a.at 9, ap length c.level.ensures)

pub lay_out-requires : goal.lay_out-requires
unfolding between
lay_out-requires t c =
    let a = c.args in
    let level : List ℕ = between a.levels.now.bytes.now (get_or a.levels.now.ends.now a.k 0) (get_or a.levels.now.ends.now (a.k + 1) 0) in
    let rest : List ℕ = tabbed (tokens_from a.levels.now.bytes.now a.levels.now.ends.now (a.k + 1) (a.left - 1)) in
    let l = next a.levels.now.bytes.now a.levels.now.ends.now a.k a.left c.if-left-eq0.false in
    let w = c.put-next.ensures in (
      omega arith,
      (
        omega arith,
        omega (arith, c.requires.left_in_bounds, ap length l, length-append level rest, w.moved, wrote-length w, length-set a.query.now a.at 9, ap length c.level.ensures),
      ),
    )

pub shape_of-query : goal.shape_of-query
shape_of-query t c = wrote-length c.lay_out.ensures ∙ wrote-length c.put-next.ensures ∙ length-set c.args.query.now c.args.at 9

pub returns : goal.returns
unfolding between
returns t c =
    let a = c.args in
    rw (next a.levels.now.bytes.now a.levels.now.ends.now a.k a.left c.if-left-eq0.false)
    (wrote_then (wrote_one 9) (wrote_then (rw c.level.ensures at c.put-next.ensures) c.lay_out.ensures))
