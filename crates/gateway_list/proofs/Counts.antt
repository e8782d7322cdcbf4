-- The number of a list's bad entry is small enough to be packed.
-- Assumes nothing.
use mathlib.Core.Path.{sym, subst}
use mathlib.Core.List.{List, [], ◌∷◌, map}
use Prim.Native.Nat.{ℕ, zero, suc, ◌+◌, ◌≤◌}
use native.Mathlib.Omega.{arith}
use lib.ListN.{length, take}
use Rattle.rowlist.specs.Entries.{most_entries}
use Rattle.rowlist.specs.declared.RowEntry.{RowEntry}
use Rattle.table.specs.Lines.{Line, read_lines}
use Rattle.rowlist_load.specs.Listed.{entry_line, listed_from}
use Rattle.rowlist_load.proofs.Laws.Load.{listed_lines}
use Rattle.rowlist_load.proofs.Laws.Whole.{listed_front}
use Rattle.gateway_pack.specs.Packed.{most_count}
use Rattle.gateway_export.proofs.Laws.Bounds.{Counted, lines-number, numbered_more}

-- no more lines than entries, and no more than are taken
lines-few : (f : RowEntry → Line) (n : ℕ) (es : List RowEntry) → length (map f (take n es)) ≤ n
lines-few f zero es = omega arith
lines-few f (suc n) [] = omega arith
lines-few f (suc n) (e ∷ es) = omega (arith, lines-few f n es)

front_counted : (s : List ℕ) (es : List RowEntry) → Counted (listed_from s (take most_entries es))
front_counted s es =
    let ls : List Line = map (entry_line s) (take most_entries es) in
    subst Counted (sym (listed_lines s (take most_entries es)))
    (numbered_more (2 + length ls) most_count (read_lines ls) (omega (arith, lines-few (entry_line s) most_entries es)) (lines-number ls))

pub listed_counted : (s : List ℕ) (es : List RowEntry) → Counted (listed_from s es)
listed_counted s es = subst Counted (listed_front s es) (front_counted s es)
