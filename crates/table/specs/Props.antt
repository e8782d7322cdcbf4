-- That the places of a row are inside the text is a fact with one proof, so a struct may hold it as a ghost field.
-- Assumes nothing.
use Rattle.std.specs.Prelude.{List, ℕ}
use Rattle.std.specs.Coded.{Π_prop, le_prop}
use Rattle.table.specs.Rows.{Inside, RowInside}
use Rattle.table.specs.declared.line as line

pub RowInside-prop : (s : List ℕ) (p : line.Row.Row) → IsProp (RowInside s p)
RowInside-prop s p a b = λ i. record {
  domain = le_prop a.domain b.domain i;
  within-domain = le_prop a.within-domain b.within-domain i;
  path = le_prop a.path b.path i;
  within = le_prop a.within b.within i;
  short = le_prop a.short b.short i;
  levels = le_prop a.levels b.levels i;
}

pub Inside-prop : (s ns : List ℕ) (n : ℕ) → IsProp (Inside s ns n)
Inside-prop s ns n a b = λ i. record {
  fits = le_prop a.fits b.fits i;
  each = Π_prop (λ m. Π_prop (λ l. RowInside-prop s _)) a.each b.each i;
}
