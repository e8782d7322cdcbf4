-- `table_lookup::lookup::find_path` meets its contract: the levels laid out are a path's text, whose fields they are.
-- Assumes nothing.
use native.Mathlib.Omega.{arith}
use Rattle.chars.specs.Lists.{all}
use Rattle.table_lookup.specs.Search.{tokens_by}
use Rattle.table_lookup.proofs.Laws.Laid.{laid_out_lem, room}
use Rattle.table_lookup.proofs.lookup.find_path.Goals as goal

pub lay_out-end-requires : goal.lay_out-end-requires
lay_out-end-requires c =
    let l = c.requires.laid in
    record { left_bound = omega arith; left_in_bounds = omega (arith, room c.args.levels.now.bytes.now c.args.levels.now.ends.now l) }

pub slice_bounds-find-count : goal.slice_bounds-find-count
unfolding all
slice_bounds-find-count c =
    let a = c.args in
    let l = c.requires.laid in
    (laid_out_lem a.levels.now.bytes.now a.levels.now.ends.now l.clear (room a.levels.now.bytes.now a.levels.now.ends.now l) c.lay_out-end.ensures).0

pub slice_bounds-find-start : goal.slice_bounds-find-start
unfolding all
slice_bounds-find-start c =
    let a = c.args in
    let l = c.requires.laid in
    let d = laid_out_lem a.levels.now.bytes.now a.levels.now.ends.now l.clear (room a.levels.now.bytes.now a.levels.now.ends.now l) c.lay_out-end.ensures in
    omega (arith, d.0, d.1)

pub slice_bounds-find-end : goal.slice_bounds-find-end
unfolding all
slice_bounds-find-end c =
    let a = c.args in
    let l = c.requires.laid in
    let d = laid_out_lem a.levels.now.bytes.now a.levels.now.ends.now l.clear (room a.levels.now.bytes.now a.levels.now.ends.now l) c.lay_out-end.ensures in
    omega (arith, d.0, d.1)

pub returns : goal.returns
unfolding tokens_by all
returns c =
    let a = c.args in
    let l = c.requires.laid in
    rw (laid_out_lem a.levels.now.bytes.now a.levels.now.ends.now l.clear (room a.levels.now.bytes.now a.levels.now.ends.now l) c.lay_out-end.ensures).2 at c.find.ensures
