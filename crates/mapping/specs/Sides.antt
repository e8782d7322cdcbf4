-- What is known of a loaded table on the side that a mapping reads: the gateway's row is inside the text, and the rows of its direction are in
-- order. Each is a fact with one proof, so a struct may hold it as a ghost field.
-- Assumes nothing.
use Rattle.std.specs.Prelude.{List, ℕ}
use Rattle.table.specs.Props.{RowInside-prop}
use Rattle.table.specs.Rows.{RowInside}
use Rattle.table.specs.declared.load as load
use Rattle.table.specs.declared.rows.Key.TheVariants.{Domain, Path}
use Rattle.table_order.specs.Place.{Sorted}
use Rattle.table_order.proofs.Laws.Props.{Sorted-prop}

pub record KeptInward (s ds : List ℕ) (t : load.Loaded.Loaded) : Type 0 where
  pub row_inside : RowInside s t.gateway
  pub sorted : Sorted Domain s ds t.to_path

pub record KeptOutward (s rs : List ℕ) (t : load.Loaded.Loaded) : Type 0 where
  pub row_inside : RowInside s t.gateway
  pub sorted : Sorted Path s rs t.to_domain

pub KeptInward-prop : (s ds : List ℕ) (t : load.Loaded.Loaded) → IsProp (KeptInward s ds t)
KeptInward-prop s ds t a b = λ i. record {
  row_inside = RowInside-prop s t.gateway a.row_inside b.row_inside i;
  sorted = Sorted-prop Domain s ds t.to_path a.sorted b.sorted i;
}

pub KeptOutward-prop : (s rs : List ℕ) (t : load.Loaded.Loaded) → IsProp (KeptOutward s rs t)
KeptOutward-prop s rs t a b = λ i. record {
  row_inside = RowInside-prop s t.gateway a.row_inside b.row_inside i;
  sorted = Sorted-prop Path s rs t.to_domain a.sorted b.sorted i;
}
