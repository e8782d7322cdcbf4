-- Laws of the look-up case aside: what it answers, extending a row's domain, and the rows as the code keeps them.
-- Assumes nothing.
use mathlib.Core.Path.{◌≡◌, refl, ap}
use mathlib.Core.Bool.{true}
use mathlib.Core.List.{List, [], ◌∷◌, ◌++◌}
use mathlib.Core.Option.{Option, some}
use Prim.Native.Nat.{ℕ}
use lib.ListN.{length, drop}
use Rattle.chars.specs.Lists.{all}
use Rattle.chars.specs.Case.{same_text}
use Rattle.chars.specs.Domain.{is_domain_part}
use Rattle.chars.proofs.Laws.Lists.{and_both, by_test}
use Rattle.chars.proofs.Laws.Case.{same_refl, same_sym, same_trans}
use Rattle.table.specs.Table.{Row, Token}
use Rattle.table.specs.Rows.{places_at, row_at, rows_at}
use Rattle.table_lookup.specs.Looked.{Looked, found_row}
use Rattle.std.specs.Prelude.{Some}
use Rattle.table_lookup.specs.Lookup.{RowKey, begins, extension, look}
use Rattle.table_lookup.proofs.Laws.Begins.{AnswerBy, IsEquality, found-by}

-- two texts the same case aside
pub same_equality : IsEquality same_text
same_equality = record { itself = same_refl; either = same_sym; by = same_trans }

-- ---- what the look-up answers

abbrev pub Answer : RowKey → List Row → List Token → Option Row → Type 0
Answer key rows q o = AnswerBy same_text key rows q o

pub found : (key : RowKey) (rows : List Row) (q : List Token) → Answer key rows q (look key rows q)
found key rows q = found-by same_text key rows q

-- ---- extending a row's domain: the longest front that is all domain parts

pub extension-parts : (l : List Token) → all is_domain_part (extension l) ≡ true
unfolding extension all
extension-parts [] = refl
extension-parts (x ∷ l) = by_test (is_domain_part x) (λ e. rw e (and_both e (extension-parts l))) (λ e. rw e)

pub extension-front : (l : List Token) → extension l ++ drop (length (extension l)) l ≡ l
unfolding extension
extension-front [] = refl
extension-front (x ∷ l) = by_test (is_domain_part x) (λ e. rw e (ap (λ (t : List Token). x ∷ t) (extension-front l))) (λ e. rw e)

-- ---- the rows as the code keeps them

-- the key of a row that was found begins the query
pub found-begins : (key : RowKey) (s ns : List ℕ) (q : List Token) (n j : ℕ) → Looked key s ns n q (Some j) → begins (key (row_at s (places_at ns j))) q ≡ true
unfolding found_row
found-begins key s ns q n j h =
    let b : Answer key (rows_at s ns n) q (some (row_at s (places_at ns j))) = rw h.row at (found key (rows_at s ns n) q) in
    b.fits
