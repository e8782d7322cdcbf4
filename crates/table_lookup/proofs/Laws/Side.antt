-- Laws of a query from the side that keys are compared from: where a token ends, and a front of it.
-- Assumes nothing.
use mathlib.Core.Path.{◌≡◌, refl, sym, ap, ◌∙◌}
use mathlib.Core.List.{List, [], ◌∷◌, reverse, reverse-append}
use Prim.Native.Nat.{ℕ, zero, suc, ◌-◌, ◌≤◌, ◌<◌}
use native.Mathlib.Omega.{arith}
use borrow.Author.Tests.{ne_eqb}
use lib.Dec.{eqb}
use lib.ListN.{length, take, drop, get_or, length-drop, length-reverse, take-append-drop, get_or-eq_default}
use lib.Seq.{take_at}
use Rattle.chars.specs.Case.{fold_case}
use Rattle.chars.proofs.Laws.Lists.{by_test}
use Rattle.table.specs.declared.rows.Key.{Key}
use Rattle.table_order.specs.Order.{rank, read_by, separator, spell, spell_by}
use Rattle.table_order.proofs.Laws.Compare.{by-at, by_length}

pub rank-end : (sep b : ℕ) → eqb (rank sep b) 0 ≡ eqb b sep
unfolding rank
rank-end sep b = by_test (eqb b sep) (λ e. rw e) (λ e. rw (e, ne_eqb (suc (fold_case b)) 0 (λ z. omega arith)))

pub at-end : (k : Key) (s : List ℕ) → get_or (spell_by k s) (length s) 0 ≡ 0
at-end k s = get_or-eq_default (spell_by k s) 0 (omega (arith, by_length k s))

pub spell-take : (sep : ℕ) (k : ℕ) (s : List ℕ) → spell sep (take k s) ≡ take k (spell sep s)
unfolding spell
spell-take sep zero s = refl
spell-take sep (suc k) [] = refl
spell-take sep (suc k) (x ∷ s) = ap (λ (l : List ℕ). rank sep x ∷ l) (spell-take sep k s)

pub reverse-drop : (k : ℕ) (s : List ℕ) → k ≤ length s → reverse (drop (length s - k) s) ≡ take k (reverse s)
reverse-drop k s h =
    let m : ℕ = length s - k in
    let e : length (reverse (drop m s)) ≡ k = omega (arith, length-reverse (drop m s), length-drop m s) in
    sym
    (ap (λ (t : List ℕ). take k (reverse t)) (sym (take-append-drop m s))
    ∙ ap (take k) (reverse-append (take m s) (drop m s))
    ∙ take_at (reverse (drop m s)) (reverse (take m s)) k e)

pub end-at : (k : Key) (s : List ℕ) (i : ℕ) → i < length s → eqb (get_or (spell_by k s) i 0) 0 ≡ eqb (get_or (read_by k s) i 0) (separator k)
end-at k s i h = ap (λ (r : ℕ). eqb r 0) (by-at k s i h) ∙ rank-end (separator k) (get_or (read_by k s) i 0)
