-- `table_order::place::compare_at` meets its contract: the key stands where its row says.
-- Assumes nothing.
use mathlib.Core.Path.{◌≡◌, ap, ◌∙◌}
use mathlib.Core.List.{List}
use Prim.Native.Nat.{ℕ, ◌≤◌}
use native.Mathlib.Omega.{arith}
use lib.ListN.{length}
use Rattle.table.specs.declared.line.Row.{Row}
use Rattle.table.specs.declared.rows.Key.{Key}
use Rattle.table.specs.declared.rows.KeyPlace.{KeyPlace}
use Rattle.table.specs.Keys.{key_place}
use Rattle.table.specs.Rows.{RowInside, between, places_at}
use Rattle.table.proofs.Laws.Keys.{key-inside, key-text}
use Rattle.table_order.specs.Order.{spell_by}
use Rattle.table_order.specs.Place.{key_in, number_in, ranks_in}
use Rattle.table_order.proofs.place.compare_at.Goals as goal

-- the key that a place names is in the text, and which ranks it has
module _ (k : Key) (s ns : List ℕ) (i : ℕ) (p : Row) (q : KeyPlace) (e : q ≡ key_place k p) (f : p ≡ places_at ns (number_in ns i)) where
  inside : RowInside s (places_at ns (number_in ns i)) → (q.from ≤ q.end) × (q.end ≤ length s)
  inside = key-inside k s (places_at ns (number_in ns i)) q (e ∙ ap (key_place k) f)

  text : spell_by k (between s q.from q.end) ≡ ranks_in k s ns i
  unfolding key_in ranks_in
  text = ap (spell_by k) (key-text k s (places_at ns (number_in ns i)) q (e ∙ ap (key_place k) f))

pub row_in-requires : goal.row_in-requires
row_in-requires c =
    let o = c.args.rows.now.ordered in
    record { k_in_bounds = omega (arith, o.room); row_in_bounds = o.rows c.args.k c.requires.k_lt_n }

pub slice_bounds-compare-count : goal.slice_bounds-compare-count
slice_bounds-compare-count c =
    let a = c.args in
    (inside a.rows.now.key a.rows.now.text.now a.rows.now.numbers.now a.k _ _ c.key_of-place.ensures c.row_in.ensures (c.args.rows.now.ordered.inside a.k c.requires.k_lt_n)).0

pub slice_bounds-compare-start : goal.slice_bounds-compare-start
slice_bounds-compare-start c =
    let a = c.args in
    let w = inside a.rows.now.key a.rows.now.text.now a.rows.now.numbers.now a.k _ _ c.key_of-place.ensures c.row_in.ensures (c.args.rows.now.ordered.inside a.k c.requires.k_lt_n) in
    omega (arith, w)

pub slice_bounds-compare-end : goal.slice_bounds-compare-end
slice_bounds-compare-end c =
    let a = c.args in
    let w = inside a.rows.now.key a.rows.now.text.now a.rows.now.numbers.now a.k _ _ c.key_of-place.ensures c.row_in.ensures (c.args.rows.now.ordered.inside a.k c.requires.k_lt_n) in
    omega (arith, w)

pub compare-requires : goal.compare-requires
unfolding between
compare-requires c =
    let a = c.args in
    rw (text a.rows.now.key a.rows.now.text.now a.rows.now.numbers.now a.k _ _ c.key_of-place.ensures c.row_in.ensures) c.requires.from_bound

pub returns : goal.returns
unfolding between
returns c =
    let a = c.args in
    rw (← text a.rows.now.key a.rows.now.text.now a.rows.now.numbers.now a.k _ _ c.key_of-place.ensures c.row_in.ensures) c.compare.ensures
