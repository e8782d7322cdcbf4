-- `match_path` meets its contract. The measure is the number of levels that are left.
-- Assumes nothing.
use Rattle.std.proofs.Common.{sym}
use native.Mathlib.Omega.{arith}
use Prim.Native.Nat.{◌+◌, ◌-◌}
use mathlib.Core.Path.{◌∙◌}
use mathlib.Core.List.{List}
use Rattle.table.specs.Table.{Token}
use Rattle.table.specs.Rows.{between, fields_at}
use Rattle.table_lookup.specs.Levels.{level_token}
use Rattle.table_lookup.proofs.Laws.Paths.{ended-less, level_here, level_inside, level_past, path_next, path-none, path_over, path_stop}
use Rattle.table_lookup.proofs.lookup.+match_path.Goals as goal

pub level_at-level-requires : goal.level_at-level-requires
level_at-level-requires t c = c.requires.0

pub returns-then-not-is_reached : goal.returns-then-not-is_reached
returns-then-not-is_reached t c =
    let a = c.args in
    let level = c.level_at-level in
    path-none a.levels.now a.ends.now a.k a.left (fields_at a.text.now a.at a.end)
    (level_past a.text.now a.at a.end level.result.next level.result.kind (sym c.is_reached.ensures ∙ c.if-not-is_reached.true) level.ensures)

pub returns-then-left-eq0 : goal.returns-then-left-eq0
returns-then-left-eq0 t c =
    let a = c.args in
    let level = c.level_at-level in
    let next = level.result.next in
    let kind = level.result.kind in
    let fs : List Token = fields_at a.text.now a.at a.end in
    let gs : List Token = fields_at a.text.now next a.end in
    let here = level_here a.text.now a.at a.end next kind (sym c.is_reached.ensures ∙ c.if-not-is_reached.false) level.ensures in
    path_over a.levels.now a.ends.now a.k a.left fs (level_token a.text.now kind) gs here.fields c.if-left-eq0.true

pub is_level-requires : goal.is_level-requires
is_level-requires t c =
    let a = c.args in
    let level = c.level_at-level in
    level_inside a.text.now a.at a.end level.result.next level.result.kind c.requires.0 level.ensures

pub returns-then-not-is_level : goal.returns-then-not-is_level
unfolding between
returns-then-not-is_level t c =
    let a = c.args in
    let level = c.level_at-level in
    let next = level.result.next in
    let kind = level.result.kind in
    let fs : List Token = fields_at a.text.now a.at a.end in
    let gs : List Token = fields_at a.text.now next a.end in
    let here = level_here a.text.now a.at a.end next kind (sym c.is_reached.ensures ∙ c.if-not-is_reached.false) level.ensures in
    path_stop a.levels.now a.ends.now a.k a.left fs (level_token a.text.now kind) gs here.fields c.if-left-eq0.false
    (sym c.is_level.ensures ∙ c.if-not-is_level.true)

pub returns : goal.returns
unfolding between
returns t c =
    let a = c.args in
    let level = c.level_at-level in
    let next = level.result.next in
    let kind = level.result.kind in
    let fs : List Token = fields_at a.text.now a.at a.end in
    let gs : List Token = fields_at a.text.now next a.end in
    let here = level_here a.text.now a.at a.end next kind (sym c.is_reached.ensures ∙ c.if-not-is_reached.false) level.ensures in
    c.match_path.ensures
    ∙ path_next a.levels.now a.ends.now a.k a.left fs (level_token a.text.now kind) gs here.fields c.if-left-eq0.false
    (sym c.is_level.ensures ∙ c.if-not-is_level.false)

pub overflow_add-k : goal.overflow_add-k
overflow_add-k t c = omega (arith, c.requires.1.room)

pub match_path-requires : goal.match_path-requires
match_path-requires t c =
    let a = c.args in
    (omega arith, (c.requires.0, ended-less (a.k + 1 + (a.left - 1)) c.requires.1 (omega arith)))
