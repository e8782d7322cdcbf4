-- `table_settle::settle::lay_levels` meets its contract. The levels that are left fall.
-- Assumes nothing.
use Rattle.std.proofs.Common.{◌∙◌, sym}
use mathlib.Core.Path.{ap}
use native.Mathlib.Omega.{arith}
use lib.ListN.{length, length-set}
use Rattle.chars.proofs.Laws.Write.{wrote-length}
use Rattle.table.specs.Rows.{fields_at}
use Rattle.table_lookup.proofs.Laws.Paths.{level_here, level_past}
use Rattle.table_settle.proofs.Laws.Nexts.{length_nexts, noted_more, noted_none}
use Rattle.table_settle.proofs.settle.+lay_levels.Goals as goal

pub level_at-level-requires : goal.level_at-level-requires
level_at-level-requires t c = c.requires.end_in_bounds

pub returns-then-not-is_reached : goal.returns-then-not-is_reached
returns-then-not-is_reached t c =
    let a = c.args in
    let level = c.level_at-level in
    noted_none a.at
    (level_past a.text.now a.at a.end level.result.next level.result.kind (sym c.is_reached.ensures ∙ c.if-not-is_reached.true) level.ensures)

pub offset_bounds-nexts-k : goal.offset_bounds-nexts-k
offset_bounds-nexts-k t c =
    let a = c.args in
    let level = c.level_at-level in
    let h = level_here a.text.now a.at a.end level.result.next level.result.kind (sym c.is_reached.ensures ∙ c.if-not-is_reached.false) level.ensures in
    omega (arith, ap length h.fields, c.requires)

pub bounds-nexts-k : goal.bounds-nexts-k
bounds-nexts-k t c =
    let a = c.args in
    let level = c.level_at-level in
    let h = level_here a.text.now a.at a.end level.result.next level.result.kind (sym c.is_reached.ensures ∙ c.if-not-is_reached.false) level.ensures in
    omega (arith, ap length h.fields, c.requires)

pub overflow_add-k : goal.overflow_add-k
overflow_add-k t c =
    let a = c.args in
    let level = c.level_at-level in
    let h = level_here a.text.now a.at a.end level.result.next level.result.kind (sym c.is_reached.ensures ∙ c.if-not-is_reached.false) level.ensures in
    omega (arith, ap length h.fields, c.requires)

pub overflow_sub-left : goal.overflow_sub-left
overflow_sub-left t c =
    let a = c.args in
    let level = c.level_at-level in
    let h = level_here a.text.now a.at a.end level.result.next level.result.kind (sym c.is_reached.ensures ∙ c.if-not-is_reached.false) level.ensures in
    omega (arith, ap length h.fields, c.requires)

pub lay_levels-requires : goal.lay_levels-requires
lay_levels-requires t c =
    let a = c.args in
    let p = c.requires in
    let level = c.level_at-level in
    let h = level_here a.text.now a.at a.end level.result.next level.result.kind (sym c.is_reached.ensures ∙ c.if-not-is_reached.false) level.ensures in
    let l = ap length h.fields in
    (omega (arith, l), (simp length-set p.nexts_len, (p.end_in_bounds, (omega (arith, l, p.end_len_bound), omega (arith, l, p)))))

pub overflow_add-result : goal.overflow_add-result
overflow_add-result t c =
    let a = c.args in
    let level = c.level_at-level in
    let next = level.result.next in
    let h = level_here a.text.now a.at a.end next level.result.kind (sym c.is_reached.ensures ∙ c.if-not-is_reached.false) level.ensures in
    omega (arith, c.lay_levels.ensures.moved, length_nexts next (fields_at a.text.now next a.end), ap length h.fields, c.requires)

pub shape_of-nexts : goal.shape_of-nexts
shape_of-nexts t c = simp length-set at (wrote-length c.lay_levels.ensures)

pub returns : goal.returns
returns t c =
    let a = c.args in
    let level = c.level_at-level in
    let h = level_here a.text.now a.at a.end level.result.next level.result.kind (sym c.is_reached.ensures ∙ c.if-not-is_reached.false) level.ensures in
    noted_more c.lay_levels.result c.requires.end_in_bounds h c.lay_levels.ensures
