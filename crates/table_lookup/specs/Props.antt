-- That the ends of levels are in order is a fact with one proof, so the levels' struct holds it as a ghost field.
-- Assumes nothing.
use Rattle.std.specs.Prelude.{List, ℕ}
use Rattle.std.specs.Coded.{Π_prop, le_prop}
use Rattle.table_lookup.specs.Looked.{Ended}

pub Ended-prop : (s ends : List ℕ) (n : ℕ) → IsProp (Ended s ends n)
Ended-prop s ends n a b = λ i. record {
  room = le_prop a.room b.room i;
  ordered = Π_prop (λ k. Π_prop (λ l. le_prop)) a.ordered b.ordered i;
  inside = Π_prop (λ k. Π_prop (λ l. le_prop)) a.inside b.inside i;
}
