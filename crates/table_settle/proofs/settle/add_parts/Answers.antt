-- `table_settle::settle::add_parts` meets its contract. The loop's invariant: what is left, added to the record so far, is all of it added.
-- Assumes nothing.
use mathlib.Core.Path.{refl, sym, ap, ◌∙◌}
use Prim.Native.Nat.{◌-◌}
use native.Mathlib.Omega.{arith}
use lib.ListN.{length, take, drop}
use Rattle.oraddr.specs.Add.{told}
use Rattle.table_settle.specs.Settle.{left_parts}
use Rattle.table_settle.proofs.Laws.Settle.{left_first, left_none, levels-added, levels-none, levels_stop, told-refused}
use Rattle.table_settle.proofs.settle.add_parts.Goals as goal

pub loop-from-init : goal.loop-from-init
loop-from-init c = (omega arith, omega (arith, c.requires.start_bound), refl)

-- nothing is added after a refusal
pub returns-in-Refused : goal.returns-in-Refused
returns-in-Refused c =
    let l = c.loop-from in
    let a = c.args in
    sym (l.invariant.2 ∙ levels_stop l.i (left_parts a.domain.now l.from) (told l.done) (told-refused l.done c.in-Refused.is))

pub slice_bounds-add_level-count : goal.slice_bounds-add_level-count
slice_bounds-add_level-count c = omega (arith, c.part_start-from.ensures)

pub slice_bounds-add_level-start : goal.slice_bounds-add_level-start
slice_bounds-add_level-start c = omega (arith, c.part_start-from.ensures)

pub slice_bounds-add_level-end : goal.slice_bounds-add_level-end
slice_bounds-add_level-end c = omega (arith, c.part_start-from.ensures)

pub overflow_add-i : goal.overflow_add-i
overflow_add-i c = omega (arith, c.loop-from.invariant.1)

pub loop-from-smaller : goal.loop-from-smaller
loop-from-smaller c = omega (arith, c.part_start-from.ensures)

pub loop-from-preserved : goal.loop-from-preserved
loop-from-preserved c =
    let l = c.loop-from in
    let d = c.args.domain.now in
    let r = c.part_start-from.result in
    let first = left_first d l.from r (omega arith) (omega arith) c.part_start-from.ensures in (
      omega (arith, c.part_start-from.ensures),
      omega (arith, l.invariant.1, ap length first),
      l.invariant.2
          ∙ levels-added l.i (take (l.from - 1 - r) (drop r d)) (left_parts d r) first l.done c.add_level-done.result c.in_default.is
          c.add_level-done.ensures,
    )

pub returns : goal.returns
returns c =
    let l = c.loop-from in
    let a = c.args in
    sym (l.invariant.2 ∙ levels-none l.i (left_parts a.domain.now l.from) (told l.done) (left_none a.domain.now l.from (omega arith)))
