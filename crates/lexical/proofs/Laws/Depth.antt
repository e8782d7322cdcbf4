-- Nesting is counted exactly: n opening parentheses nest n deep, also where they close again.
-- Assumes nothing.
use mathlib.Core.Path.{◌≡◌, refl, ◌∙◌}
use mathlib.Core.Bool.{false}
use mathlib.Core.List.{List, [], ◌∷◌, ◌++◌, append-nil}
use Prim.Native.Nat.{ℕ, zero, suc, ◌+◌, max}
use native.Mathlib.Nat.{add-zero, max-eq_left, max-eq_right, zero-add}
use native.Mathlib.Omega.{arith}
use lib.Dec.{ltb}
use lib.ListN.{replicate}
use Rattle.chars.specs.Lists.{bytes}
use Rattle.lexical.proofs.Laws.Nesting.{deepest-least}
use Rattle.lexical.specs.Nesting.{deepest, nest_comment, nest_of, nest_outside, nests_too_deep}

-- one more that opens, and one that closes
deepest_opening : (d : ℕ) (s : List ℕ) → deepest 0 false d (40 ∷ s) ≡ deepest 0 false (suc d) s
unfolding deepest nest_of nest_outside nest_comment
deepest_opening zero s = max-eq_right (omega arith)
deepest_opening (suc d) s = max-eq_right (omega (arith, deepest-least 0 false (suc (suc d)) s))

deepest-closing : (d : ℕ) (s : List ℕ) → deepest 0 false (suc d) (41 ∷ s) ≡ max (suc d) (deepest 0 false d s)
unfolding deepest nest_of nest_comment
deepest-closing d s = refl

pub deepest_openings : (n d : ℕ) (s : List ℕ) → deepest 0 false d (replicate n 40 ++ s) ≡ deepest 0 false (d + n) s
deepest_openings zero d s = rw (add-zero d)
deepest_openings (suc n) d s =
    let e : suc d + n ≡ d + suc n = omega arith in
    deepest_opening d (replicate n 40 ++ s) ∙ deepest_openings n (suc d) s ∙ rw e

pub deepest_closings : (n : ℕ) (s : List ℕ) → deepest 0 false 0 s ≡ 0 → deepest 0 false n (replicate n 41 ++ s) ≡ n
deepest_closings zero s h = h
deepest_closings (suc n) s h = deepest-closing n (replicate n 41 ++ s) ∙ rw (deepest_closings n s h) (max-eq_left (omega arith))

-- opening parentheses alone, which never close
pub openings_count : (n : ℕ) → deepest 0 false 0 (replicate n 40) ≡ n
unfolding deepest
openings_count n = rw (append-nil {A = ℕ} (replicate n 40), zero-add n) at (deepest_openings n 0 [])

-- a comment nested n deep, and an address behind it
unfoldable pub nested : ℕ → List ℕ
unfolding bytes
nested n = replicate n 40 ++ (replicate n 41 ++ bytes "a@b")

pub nested-deepest : (n : ℕ) → deepest 0 false 0 (nested n) ≡ n
unfolding nested deepest bytes nest_of nest_outside
nested-deepest n = deepest_openings n 0 (replicate n 41 ++ bytes "a@b") ∙ rw (zero-add n) (deepest_closings n (bytes "a@b") refl)

-- refusal 9 is for nesting past eight, and for nothing less
pub nested_too_deep : (n : ℕ) → nests_too_deep (nested n) ≡ ltb 8 n
unfolding nests_too_deep
nested_too_deep n = rw (nested-deepest n)
