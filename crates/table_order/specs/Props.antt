-- That the keys of rows rise is a fact with one proof, so a struct may hold it as a ghost field.
-- Assumes nothing.
use Rattle.std.specs.Prelude.{List, ℕ}
use Rattle.std.specs.Coded.{Π_prop, le_prop}
use mathlib.Core.Bool.{Bool-set}
use Rattle.table.specs.Props.{RowInside-prop}
use Rattle.table.specs.declared.rows.Key.{Key}
use Rattle.table_order.specs.Place.{Ordered}

pub Ordered-prop : (k : Key) (s ns : List ℕ) (n : ℕ) → IsProp (Ordered k s ns n)
Ordered-prop k s ns n a b = λ i. record {
  few = le_prop a.few b.few i;
  room = le_prop a.room b.room i;
  rows = Π_prop (λ m. Π_prop (λ l. le_prop)) a.rows b.rows i;
  inside = Π_prop (λ m. Π_prop (λ l. RowInside-prop s _)) a.inside b.inside i;
  rising = Π_prop (λ m. Π_prop (λ j. Π_prop (λ l. Π_prop (λ h. Bool-set _ _)))) a.rising b.rising i;
}
