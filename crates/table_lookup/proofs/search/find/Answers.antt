-- `table_lookup::search::find` meets its contract.
-- Assumes nothing.
use Rattle.std.specs.Prelude.{Some, None}
use native.Mathlib.Omega.{arith}
use Rattle.table_order.specs.Order.{closed, spell_by}
use Rattle.table_order.specs.Place.{number_in}
use Rattle.table_lookup.specs.Looked.{found_row}
use Rattle.table_lookup.specs.Search.{Longest, closed_key}
use Rattle.table_lookup.proofs.Laws.Look.{looked, row_of}
use Rattle.table_lookup.proofs.search.find.Goals as goal

pub overflow_add-result : goal.overflow_add-result
overflow_add-result c =
    let a = c.args in
    let l : Longest (closed_key a.key a.text.now a.rows.now) a.n (closed (spell_by a.key a.query.now)) c.in_ok-i.i = c.in_ok-i.ensures in
    omega (arith, l.below, c.requires.ordered.few)

pub offset_bounds-rows-i : goal.offset_bounds-rows-i
offset_bounds-rows-i c =
    let a = c.args in
    let l : Longest (closed_key a.key a.text.now a.rows.now) a.n (closed (spell_by a.key a.query.now)) c.in_ok-i.i = c.in_ok-i.ensures in
    omega (arith, l.below, c.requires.ordered.few)

pub bounds-rows-i : goal.bounds-rows-i
bounds-rows-i c =
    let a = c.args in
    let l : Longest (closed_key a.key a.text.now a.rows.now) a.n (closed (spell_by a.key a.query.now)) c.in_ok-i.i = c.in_ok-i.ensures in
    omega (arith, l.below, c.requires.ordered.room)

pub returns : goal.returns
unfolding row_of found_row number_in
returns c =
    let a = c.args in
    let l : Longest (closed_key a.key a.text.now a.rows.now) a.n (closed (spell_by a.key a.query.now)) c.in_ok-i.i = c.in_ok-i.ensures in
    record {
      row = looked a.key a.text.now a.rows.now a.n c.requires a.query.now (Some c.in_ok-i.i) l;
      below = c.requires.each c.in_ok-i.i l.below;
    }

pub returns-in_err-i : goal.returns-in_err-i
unfolding row_of found_row number_in
returns-in_err-i c =
    let a = c.args in
    rw c.from_residual.ensures
    (record {
      row = looked a.key a.text.now a.rows.now a.n c.requires a.query.now None c.in_err-i.ensures;
      below = tt;
    })
