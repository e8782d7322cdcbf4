-- `table_settle::settle::add_laid` meets its contract. The loop's invariant: the levels left, noted from k on, added to what came so far,
-- are all of them added.
-- Assumes nothing.
use mathlib.Core.Path.{sym, ap, ◌∙◌}
use Prim.Native.Nat.{◌-◌}
use native.Mathlib.Omega.{arith}
use lib.ListN.{get_or, take, drop}
use Rattle.oraddr.specs.Add.{told}
use Rattle.oraddr.specs.declared.record.Record.{Record}
use Rattle.table.specs.Rows.{fields_at}
use Rattle.table.proofs.Laws.Fields.{fields-past}
use Rattle.table_settle.specs.Settle.{add_levels, begun}
use Rattle.table_settle.proofs.Laws.Nexts.{next_read, next_there}
use Rattle.table_settle.proofs.Laws.Settle.{levels-added, levels-none, levels_stop, told-refused}
use Rattle.table_settle.proofs.settle.add_laid.Goals as goal

pub loop-from-init : goal.loop-from-init
loop-from-init c =
    let a = c.args in
    (c.requires.nexts_value, ap (λ (r : Record). add_levels 0 (fields_at a.text.now a.at a.end) (begun r)) (sym c.empty.ensures))

-- nothing is added after a refusal
pub returns-in-Refused : goal.returns-in-Refused
returns-in-Refused c =
    let l = c.loop-from in
    let a = c.args in
    sym (l.invariant.1 ∙ levels_stop l.k (fields_at a.text.now l.from a.end) (told l.done) (told-refused l.done c.in-Refused.is))

pub offset_bounds-nexts-k : goal.offset_bounds-nexts-k
offset_bounds-nexts-k c =
    let a = c.args in
    let l = c.loop-from in
    let h = next_there a.text.now l.from a.end a.nexts.now l.k (omega arith) c.requires.end_in_bounds l.invariant.0 in
    omega arith

pub bounds-nexts-k : goal.bounds-nexts-k
bounds-nexts-k c =
    let a = c.args in
    let l = c.loop-from in
    next_there a.text.now l.from a.end a.nexts.now l.k (omega arith) c.requires.end_in_bounds l.invariant.0

pub overflow_sub-next : goal.overflow_sub-next
overflow_sub-next c =
    let a = c.args in
    let l = c.loop-from in
    let h = next_read a.text.now l.from a.end a.nexts.now l.k (omega arith) c.requires.end_in_bounds l.invariant.0 in
    omega arith

pub slice_bounds-add_level-count : goal.slice_bounds-add_level-count
slice_bounds-add_level-count c =
    let a = c.args in
    let l = c.loop-from in
    let h = next_read a.text.now l.from a.end a.nexts.now l.k (omega arith) c.requires.end_in_bounds l.invariant.0 in
    omega arith

pub slice_bounds-add_level-start : goal.slice_bounds-add_level-start
slice_bounds-add_level-start c =
    let a = c.args in
    let l = c.loop-from in
    let h = next_read a.text.now l.from a.end a.nexts.now l.k (omega arith) c.requires.end_in_bounds l.invariant.0 in
    omega arith

pub slice_bounds-add_level-end : goal.slice_bounds-add_level-end
slice_bounds-add_level-end c =
    let a = c.args in
    let l = c.loop-from in
    let h = next_read a.text.now l.from a.end a.nexts.now l.k (omega arith) c.requires.end_in_bounds l.invariant.0 in
    omega (arith, c.requires.end_in_bounds)

pub overflow_add-k : goal.overflow_add-k
overflow_add-k c =
    let a = c.args in
    let l = c.loop-from in
    let h = next_there a.text.now l.from a.end a.nexts.now l.k (omega arith) c.requires.end_in_bounds l.invariant.0 in
    omega arith

pub loop-from-smaller : goal.loop-from-smaller
loop-from-smaller c =
    let a = c.args in
    let l = c.loop-from in
    let h = next_read a.text.now l.from a.end a.nexts.now l.k (omega arith) c.requires.end_in_bounds l.invariant.0 in
    omega arith

pub loop-from-preserved : goal.loop-from-preserved
loop-from-preserved c =
    let a = c.args in
    let l = c.loop-from in
    let h = next_read a.text.now l.from a.end a.nexts.now l.k (omega arith) c.requires.end_in_bounds l.invariant.0 in
    let next = get_or a.nexts.now l.k 0 in (
      h.noted,
      l.invariant.1
          ∙ levels-added l.k (take (next - 1 - l.from) (drop l.from a.text.now)) (fields_at a.text.now next a.end) h.fields l.done
          c.add_level-done.result c.in_default.is c.add_level-done.ensures,
    )

pub returns : goal.returns
returns c =
    let l = c.loop-from in
    let a = c.args in
    sym (l.invariant.1 ∙ levels-none l.k (fields_at a.text.now l.from a.end) (told l.done) (fields-past a.text.now l.from a.end (omega arith)))
