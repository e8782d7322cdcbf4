-- How great the number of a table text's bad line can be: the text has at most so many lines.
-- Assumes nothing.
use mathlib.Core.Path.{◌≡◌, refl}
use mathlib.Core.Bool.{true, false}
use mathlib.Core.List.{List, [], ◌∷◌}
use Prim.Native.Nat.{ℕ, suc, ◌+◌, ◌≤◌}
use native.Mathlib.Omega.{arith}
use borrow.Author.Tests.{ltb-false}
use lib.Dec.{eqb, ltb}
use lib.ListN.{length}
use Rattle.chars.specs.Lists.{non_empty}
use Rattle.chars.specs.Parts.{before, split}
use Rattle.chars.proofs.Laws.Lists.{by_test, true_not_false}
use Rattle.chars.proofs.Laws.Parts.{split-some}
use Rattle.table.specs.Lines.{lines_of, loaded_from, longest_table, read_lines, table_lines}
use Rattle.gateway_pack.specs.Packed.{most_count}
use Rattle.gateway_export.proofs.Laws.Bounds.{Counted, lines-number, numbered_more}

before-length : (x : ℕ) (ps : List (List ℕ)) → non_empty ps ≡ true → length (before x ps) ≡ length ps
unfolding before non_empty
before-length x [] h = true_not_false false h refl
before-length x (p ∷ ps) h = refl

split-length : (s : List ℕ) → length (split 10 s) ≤ suc (length s)
unfolding split
split-length [] = omega arith
split-length (x ∷ s) =
    by_test (eqb x 10)
    (λ e. rw e (omega (arith, split-length s)))
    (λ e. rw e (omega (arith, before-length x (split 10 s) (split-some 10 s), split-length s)))

lines-length : (ps : List (List ℕ)) → length (lines_of ps) ≤ length ps
unfolding lines_of non_empty
lines-length [] = omega arith
lines-length (p ∷ []) = by_test (non_empty p) (λ e. rw e (omega arith)) (λ e. rw e (omega arith))
lines-length (p ∷ q ∷ ps) = omega (arith, lines-length (q ∷ ps))

table-lines : (s : List ℕ) → length (table_lines s) ≤ suc (length s)
unfolding table_lines
table-lines s =
    by_test (non_empty s)
    (λ e. rw e (omega (arith, lines-length (split 10 s), split-length s)))
    (λ e. rw e (omega arith))

pub table-number : (s : List ℕ) → Counted (loaded_from s)
unfolding loaded_from
table-number s =
    by_test (ltb longest_table (length s))
    (λ e. rw e (omega arith))
    (λ e. rw e (numbered_more (2 + length (table_lines s)) most_count (read_lines (table_lines s)) (omega (arith, table-lines s, ltb-false longest_table (length s) e)) (lines-number (table_lines s))))
