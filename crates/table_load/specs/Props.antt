-- That a loaded table is in order, and that it keeps the rules of "The table text", are facts with one proof, so the table's struct holds
-- them as ghost fields.
-- Assumes nothing.
use Rattle.std.specs.Prelude.{List, ℕ}
use Rattle.std.specs.Coded.{le_prop}
use mathlib.Core.Bool.{Bool-set}
use Rattle.table.specs.Table.{Table}
use Rattle.table.specs.Formed.{Formed}
use Rattle.table.specs.Props.{RowInside-prop}
use Rattle.table.specs.declared.load as loaded
use Rattle.table.specs.declared.rows.Key.TheVariants.{Domain, Path}
use Rattle.table_order.proofs.Laws.Props.{Sorted-prop}
use Rattle.table_load.specs.Load.{Kept}

pub Kept-prop : (s ds rs : List ℕ) (t : loaded.Loaded.Loaded) → IsProp (Kept s ds rs t)
Kept-prop s ds rs t a b = λ i. record {
  gateway = RowInside-prop s t.gateway a.gateway b.gateway i;
  paths = Sorted-prop Domain s ds t.to_path a.paths b.paths i;
  domains = Sorted-prop Path s rs t.to_domain a.domains b.domains i;
  most = le_prop a.most b.most i;
}

pub Formed-prop : (t : Table) → IsProp (Formed t)
Formed-prop t a b = λ i. record {
  gateway = Bool-set _ _ a.gateway b.gateway i;
  paths = Bool-set _ _ a.paths b.paths i;
  domains = Bool-set _ _ a.domains b.domains i;
  few = le_prop a.few b.few i;
  each_domain = Bool-set _ _ a.each_domain b.each_domain i;
  each_path = Bool-set _ _ a.each_path b.each_path i;
}
