-- Laws of how deep comments nest: a byte of a text at a time, by places.
-- Assumes nothing.
use mathlib.Core.Path.{◌≡◌, refl, sym, ◌∙◌}
use mathlib.Core.Bool.{Bool, true, false}
use mathlib.Core.List.{List, [], ◌∷◌}
use Prim.Native.Nat.{ℕ, zero, suc, max, ◌+◌, ◌-◌, ◌≤◌, ◌<◌}
use native.Mathlib.Omega.{arith}
use native.Mathlib.Numerals.{add-one}
use borrow.Author.Tests.{le-ltb, lt-ltb, ltb-false, ltb-true}
use lib.Dec.{eqb, ltb}
use lib.ListN.{length, drop, get_or, drop_of_length-le}
use lib.Seq.{drop-cons, drop-drop}
use Rattle.chars.proofs.Laws.Lists.{by_test}
use Rattle.lexical.specs.Nesting.{deepest, nest, nest_behind, nest_comment, nest_of, nest_outside, nest_quoted}
use Rattle.lexical.specs.declared.nesting.Nest.{Nest}

-- in a comment, as code says it
pub in_comment : (b d : ℕ) → 0 < d → nest_of b false d ≡ nest_comment b (d - 1)
unfolding nest_of
in_comment b zero h = absurd (omega arith)
in_comment b (suc d) h = let e : suc d - 1 ≡ d = omega arith in rw e

-- a byte takes at most one more
skip_quoted : (b d : ℕ) → (nest_quoted b d).skip ≤ 1
unfolding nest_quoted
skip_quoted b d = by_test (eqb b 92) (λ e. rw e (omega arith)) (λ e. rw e (omega arith))

skip_outside : (b : ℕ) → (nest_outside b).skip ≤ 1
unfolding nest_outside
skip_outside b = by_test (eqb b 40) (λ e. rw e (omega arith)) (λ e. rw e (omega arith))

skip_comment : (b d : ℕ) → (nest_comment b d).skip ≤ 1
unfolding nest_comment
skip_comment b d =
    by_test (eqb b 92)
    (λ e. rw e (omega arith))
    (λ e. by_test (eqb b 40) (λ f. rw (e, f) (omega arith)) (λ f. by_test (eqb b 41) (λ g. rw (e, f, g) (omega arith)) (λ g. rw (e, f, g) (omega arith))))

skip_one : (b : ℕ) (q : Bool) (d : ℕ) → (nest_of b q d).skip ≤ 1
unfolding nest_of
skip_one b true d = skip_quoted b d
skip_one b false zero = skip_outside b
skip_one b false (suc d) = skip_comment b d

pub skips : (n : Nest) (b : ℕ) (q : Bool) (d : ℕ) → n ≡ nest_of b q d → n.skip ≤ 1
skips n b q d e = rw e (skip_one b q d)

-- bytes that are passed are dropped
deepest_skip : (k : ℕ) (q : Bool) (d : ℕ) (s : List ℕ) → deepest k q d s ≡ deepest 0 q d (drop k s)
unfolding deepest
deepest_skip zero q d s = refl
deepest_skip (suc k) q d [] = refl
deepest_skip (suc k) q d (x ∷ s) = deepest_skip k q d s

-- as many are open as were
pub deepest-least : (k : ℕ) (q : Bool) (d : ℕ) (s : List ℕ) → d ≤ deepest k q d s
unfolding deepest
deepest-least k q d [] = omega arith
deepest-least (suc k) q d (x ∷ s) = deepest-least k q d s
deepest-least zero q d (x ∷ s) = omega arith

-- the bound is passed later where it is not passed yet
past-max : (d m : ℕ) → d ≤ 8 → ltb 8 (max d m) ≡ ltb 8 m
past-max d m h =
    by_test (ltb 8 m)
    (λ e. let k : 8 < m = ltb-true 8 m e in rw (e, lt-ltb 8 (max d m) (omega arith)))
    (λ e. let k : m ≤ 8 = ltb-false 8 m e in rw (e, le-ltb 8 (max d m) (omega arith)))

-- a byte of a text
turn : (x : ℕ) (t : List ℕ) (k : ℕ) (q : Bool) (d : ℕ) → d ≤ 8 → (m : Nest) → m ≡ nest_behind x (nest q d k)
    → ltb 8 (deepest k q d (x ∷ t)) ≡ ltb 8 (deepest m.skip m.quote m.depth t)
unfolding deepest nest_behind
turn x t zero q d h m e = rw e (past-max d (deepest (nest_of x q d).skip (nest_of x q d).quote (nest_of x q d).depth t) h)
turn x t (suc k) q d h m e = let p : suc k - 1 ≡ k = omega arith in rw (e, lt-ltb 0 (suc k) (omega arith), p)

-- a turn over a byte and what it takes with it, at once: the bound is passed from here on if it is passed from behind them on
module _ (s : List ℕ) (i : ℕ) (q : Bool) (d : ℕ) (h : d ≤ 8) where
  pub nest_jump : i < length s → (n : Nest) → n ≡ nest_of (get_or s i 0) q d
      → ltb 8 (deepest 0 q d (drop i s)) ≡ ltb 8 (deepest 0 n.quote n.depth (drop (i + 1 + n.skip) s))
  unfolding deepest
  nest_jump l n e =
      rw (drop-cons s i 0 l, sym e, deepest_skip n.skip n.quote n.depth (drop (suc i) s), drop-drop n.skip (suc i) s, sym (add-one i))
      (past-max d (deepest 0 n.quote n.depth (drop (i + 1 + n.skip) s)) h)

-- the turns of a loop over a text
module _ (s : List ℕ) (i : ℕ) (n : Nest) (h : n.depth ≤ 8) where
  pub nest_turn : i < length s → (m : Nest) → m ≡ nest_behind (get_or s i 0) n
      → ltb 8 (deepest n.skip n.quote n.depth (drop i s)) ≡ ltb 8 (deepest m.skip m.quote m.depth (drop (i + 1) s))
  nest_turn l m e = rw (add-one i, drop-cons s i 0 l) (turn (get_or s i 0) (drop (suc i) s) n.skip n.quote n.depth h m e)

  pub nest_over : i < length s → (m : Nest) → m ≡ nest_behind (get_or s i 0) n → 8 < m.depth → ltb 8 (deepest n.skip n.quote n.depth (drop i s)) ≡ true
  nest_over l m e g =
      nest_turn l m e
      ∙ lt-ltb 8 (deepest m.skip m.quote m.depth (drop (i + 1) s))
      (omega (arith, deepest-least m.skip m.quote m.depth (drop (i + 1) s)))

  pub nest-end : length s ≤ i → ltb 8 (deepest n.skip n.quote n.depth (drop i s)) ≡ false
  unfolding deepest
  nest-end l = rw (drop_of_length-le s l) (le-ltb 8 n.depth h)
