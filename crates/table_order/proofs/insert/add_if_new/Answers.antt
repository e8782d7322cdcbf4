-- `table_order::insert::add_if_new` meets its contract: the row's key is compared with the last that is not over it, and where it is another
-- the row is put behind the others and its number at its place.
-- Assumes nothing.
use mathlib.Core.Path.{◌≡◌, refl, sym, ap, subst, ◌∙◌}
use mathlib.Core.Bool.{true}
use mathlib.Core.List.{List}
use Prim.Native.Nat.{ℕ, ◌-◌}
use native.Mathlib.Omega.{arith}
use lib.ListN.{length}
use Rattle.chars.proofs.Laws.Lists.{true_not_false}
use Rattle.table.specs.declared.line.Row.{Row}
use Rattle.table.specs.declared.rows.Key.{Key}
use Rattle.table.specs.declared.rows.KeyPlace.{KeyPlace}
use Rattle.table.specs.Keys.{key_place, key_text}
use Rattle.table.specs.Rows.{RowInside, between, put_at}
use Rattle.table.proofs.Laws.Fields.{between-length}
use Rattle.table.proofs.Laws.Keys.{key-inside, key-text}
use Rattle.table_order.specs.Insert.{Opened, is_last}
use Rattle.table_order.specs.declared.place.Place.{Place}
use Rattle.table_order.specs.Order.{spell_by}
use Rattle.table_order.specs.Place.{PlaceFound, ranks_in}
use Rattle.table_order.proofs.Laws.Insert.{joins, key_reached, known, new}
use Rattle.table_order.proofs.insert.add_if_new.Goals as goal

-- the row's own key is in the text, how long it is, its place, and what the test of the key before that place says
module _ (k : Key) (s ns : List ℕ) (n : ℕ) (p : Row) (q : KeyPlace) (e : q ≡ key_place k p) where
  size : RowInside s p → q.end - q.from ≡ length (key_text k s p)
  size i =
      let w = key-inside k s p q e i in
      sym (between-length s q.from q.end w.0 w.1) ∙ ap length (key-text k s p q e)

  found : (r : Place) → PlaceFound (ranks_in k s ns) n (spell_by k (between s q.from q.end)) r
      → PlaceFound (ranks_in k s ns) n (spell_by k (key_text k s p)) r
  found r h = rw (key-text k s p q e) at h

pub slice_bounds-place_key-count : goal.slice_bounds-place_key-count
slice_bounds-place_key-count c =
    let a = c.args in
    (key-inside a.key a.text.now a.row c.key_of-own.result c.key_of-own.ensures c.requires.row_inside).0

pub slice_bounds-place_key-start : goal.slice_bounds-place_key-start
slice_bounds-place_key-start c =
    let a = c.args in
    omega (arith, key-inside a.key a.text.now a.row c.key_of-own.result c.key_of-own.ensures c.requires.row_inside)

pub slice_bounds-place_key-end : goal.slice_bounds-place_key-end
slice_bounds-place_key-end c =
    let a = c.args in
    omega (arith, key-inside a.key a.text.now a.row c.key_of-own.result c.key_of-own.ensures c.requires.row_inside)

pub overflow_sub-end : goal.overflow_sub-end
overflow_sub-end c =
    let a = c.args in
    (key-inside a.key a.text.now a.row c.key_of-own.result c.key_of-own.ensures c.requires.row_inside).0

pub is_last-requires : goal.is_last-requires
unfolding between
is_last-requires c l =
    let a = c.args in
    let f = found a.key a.text.now a.rows.now a.n a.row c.key_of-own.result c.key_of-own.ensures c.place_key-place.result c.place_key-place.ensures in
    (key_reached (c.place_key-place.result.at - 1) c.requires.sorted.ordered (omega (arith, f.most))).0

pub returns-then-is_last : goal.returns-then-is_last
unfolding between
returns-then-is_last c =
    let a = c.args in
    let p = c.requires in
    let place = c.place_key-place.result in
    let f = found a.key a.text.now a.rows.now a.n a.row c.key_of-own.result c.key_of-own.ensures place c.place_key-place.ensures in
    let tested = c.is_last.ensures
    ∙ ap (is_last a.key a.rows.now place) (size a.key a.text.now a.rows.now a.n a.row c.key_of-own.result c.key_of-own.ensures p.row_inside) in
    record {
      answers = sym (known a.key a.text.now a.rows.now a.n a.row p.n_lt_most_rows p.rows_len p.row_inside p.sorted place f
          (sym tested ∙ c.if-is_last.true));
      joins = λ e. true_not_false true refl (sym e);
    }

pub returns : goal.returns
unfolding between
returns c =
    let a = c.args in
    let p = c.requires in
    let place = c.place_key-place.result in
    let f = found a.key a.text.now a.rows.now a.n a.row c.key_of-own.result c.key_of-own.ensures place c.place_key-place.ensures in
    let tested = c.is_last.ensures
    ∙ ap (is_last a.key a.rows.now place) (size a.key a.text.now a.rows.now a.n a.row c.key_of-own.result c.key_of-own.ensures p.row_inside) in
    let off = sym tested ∙ c.if-is_last.false in
    let opened : Opened (put_at a.rows.now a.n a.row) a.n place.at c.insert_at.new.rows =
    subst (λ (ns : List ℕ). Opened ns a.n place.at c.insert_at.new.rows) c.put_row.ensures c.insert_at.ensures in
    record {
      answers = sym (new a.key a.text.now a.rows.now a.n a.row p.n_lt_most_rows p.rows_len p.row_inside p.sorted place f off);
      joins = λ e. joins a.key a.text.now a.rows.now a.n a.row p.n_lt_most_rows p.rows_len p.row_inside p.sorted place f off
          c.insert_at.new.rows opened;
    }
