-- `table_settle::settle::settle_row` meets its contract.
-- Assumes nothing.
use mathlib.Core.Path.{sym, ap, ◌∙◌}
use native.Mathlib.Omega.{arith}
use mathlib.Core.List.{◌++◌}
use Prim.Native.Nat.{◌+◌, ◌-◌}
use lib.ListN.{length, length-append}
use Rattle.oraddr.specs.Add.{told}
use Rattle.table.specs.Rows.{fields_at, row_at}
use Rattle.table_settle.specs.Settle.{left_parts, settled_as}
use Rattle.table_settle.proofs.Laws.Nexts.{noted_count, noted_taken}
use Rattle.table_settle.proofs.Laws.Settle.{settled-past, settled-refused, settled-row, told-done, told-refused}
use Rattle.table_settle.proofs.settle.settle_row.Goals as goal

pub overflow_sub-k : goal.overflow_sub-k
overflow_sub-k c =
    let r = c.args.row in
    let counted = noted_count r.path (fields_at c.args.text.now r.path r.path_end) c.lay_levels-k.result c.lay_levels-k.ensures in
    omega (arith, counted, c.requires.row_inside.levels)

-- the parts in front pass OU4
pub returns-then-k-n : goal.returns-then-k-n
unfolding row_at
returns-then-k-n c =
    let a = c.args in
    let r = a.row in
    let fs = fields_at a.text.now r.path r.path_end in
    let gs = left_parts a.domain.now (length a.domain.now - (r.domain_end - r.domain)) in
    let counted = noted_count r.path fs c.lay_levels-k.result c.lay_levels-k.ensures in
    sym
    (settled-past (fs ++ gs)
    (omega (arith, length-append fs gs, counted, c.count_left-n.ensures, c.if-k-n.true, c.requires.row_inside.levels)))

pub add_laid-path-requires : goal.add_laid-path-requires
add_laid-path-requires c =
    let r = c.args.row in
    let p = c.requires.row_inside in
    record {
      end_in_bounds = p.within;
      nexts_value = noted_taken r.path (fields_at c.args.text.now r.path r.path_end) c.lay_levels-k.ensures p.levels;
    }

pub add_parts-done-requires : goal.add_parts-done-requires
add_parts-done-requires c =
    let r = c.args.row in
    let counted = noted_count r.path (fields_at c.args.text.now r.path r.path_end) c.lay_levels-k.result c.lay_levels-k.ensures in
    record { start_in_bounds = omega arith; start_bound = omega (arith, c.count_left-n.ensures, counted, c.requires.row_inside.levels) }

-- what the additions came to
pub returns : goal.returns
unfolding row_at settled_as
returns c =
    let a = c.args in
    let r = a.row in
    let fs = fields_at a.text.now r.path r.path_end in
    let gs = left_parts a.domain.now (length a.domain.now - (r.domain_end - r.domain)) in
    let k = c.lay_levels-k.result in
    let n = c.count_left-n.result in
    let path = c.add_laid-path in
    let counted = noted_count r.path fs k c.lay_levels-k.ensures in
    sym (ap (settled_as (k + n)) (told-done c.add_parts-done.result c.in_default.is))
    ∙ ap (settled_as (k + n)) c.add_parts-done.ensures
    ∙ settled-row fs gs k n (told path.result) counted c.count_left-n.ensures (omega (arith, counted, c.requires.row_inside.levels)) path.ensures

pub returns-in-Refused : goal.returns-in-Refused
unfolding row_at
returns-in-Refused c =
    let a = c.args in
    let r = a.row in
    let fs = fields_at a.text.now r.path r.path_end in
    let gs = left_parts a.domain.now (length a.domain.now - (r.domain_end - r.domain)) in
    let k = c.lay_levels-k.result in
    let n = c.count_left-n.result in
    let path = c.add_laid-path in
    let done = c.add_parts-done.result in
    let counted = noted_count r.path fs k c.lay_levels-k.ensures in
    sym (settled-refused (k + n) (told done) (told-refused done c.in-Refused.is))
    ∙ ap (settled_as (k + n)) c.add_parts-done.ensures
    ∙ settled-row fs gs k n (told path.result) counted c.count_left-n.ensures (omega (arith, counted, c.requires.row_inside.levels)) path.ensures
