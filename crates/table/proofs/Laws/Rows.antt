-- Laws of rows kept as numbers: a row put behind the others joins them and leaves them, what all rows have, and paths compared as texts.
-- Assumes nothing.
use mathlib.Core.Path.{◌≡◌, refl, sym, ap, ap₂, ◌∙◌}
use mathlib.Core.Bool.{Bool, true, false, and-false}
use mathlib.Core.List.{List, [], ◌∷◌, ◌++◌, map, append_assoc}
use Prim.Native.Nat.{ℕ, zero, suc, ◌+◌, ◌*◌, ◌≤◌, ◌<◌}
use native.Mathlib.Nat.{add-zero, zero-add}
use native.Mathlib.Numerals.{add-one}
use native.Mathlib.Omega.{arith}
use borrow.Author.Count.{below_more}
use borrow.Author.Tests.{le-leb}
use lib.ListN.{length, get_or, take, drop, set, length-set, get_or-append}
use lib.Seq.{sets, sets-eq, get_or-append-add, get_or-set_other, length-take-le}
use Rattle.chars.specs.Lists.{all}
use Rattle.chars.specs.Class.{between as in_range, is_letter}
use Rattle.chars.specs.Case.{agree, fold_text, same_text}
use Rattle.chars.specs.Parts.{join, split}
use Rattle.chars.proofs.Laws.Lists.{and_both, and_left, and_right, bool_same, true_not_false}
use Rattle.chars.proofs.Laws.Case.{same_of, same-path}
use Rattle.chars.proofs.Laws.Parts.{join-split, split-fold}
use Rattle.table.specs.Table.{Row, Token}
use Rattle.table.specs.Rows.{Inside, RowInside, between, fields_at, places_at, put_at, row_at, rows_at, rows_from}
use Rattle.table.specs.declared.line as line

-- ---- paths

pub agree-fold : (ps qs : List Token) → map fold_text ps ≡ map fold_text qs → agree same_text ps qs ≡ true
unfolding agree
agree-fold [] [] h = refl
agree-fold [] (q ∷ qs) h = let z : ◌≡◌ {A = ℕ} 0 1 = cc in absurd (omega arith)
agree-fold (p ∷ ps) [] h = let z : ◌≡◌ {A = ℕ} 0 1 = cc in absurd (omega arith)
agree-fold (p ∷ ps) (q ∷ qs) h = and_both (same_of p q (cc)) (agree-fold ps qs (cc))

pub fold-agree : (ps qs : List Token) → agree same_text ps qs ≡ true → map fold_text ps ≡ map fold_text qs
unfolding agree
fold-agree [] [] h = refl
fold-agree [] (q ∷ qs) h = true_not_false true refl (sym h)
fold-agree (p ∷ ps) [] h = true_not_false true refl (sym h)
fold-agree (p ∷ ps) (q ∷ qs) h =
    ap₂ (λ (t : List ℕ) (ts : List Token). t ∷ ts)
    (same-path p q (and_left (same_text p q) (agree same_text ps qs) h))
    (fold-agree ps qs (and_right (same_text p q) (agree same_text ps qs) h))

-- a tab is no letter
pub tab_other : is_letter 9 ≡ false
unfolding is_letter in_range
tab_other = refl

-- two texts agree case aside where their fields do
pub same-fields : (s t : List ℕ) → same_text s t ≡ agree same_text (split 9 s) (split 9 t)
same-fields s t =
    bool_same (same_text s t) (agree same_text (split 9 s) (split 9 t))
    (λ h. agree-fold (split 9 s) (split 9 t) (sym (split-fold 9 tab_other s) ∙ ap (split 9) (same-path s t h) ∙ split-fold 9 tab_other t))
    (λ h. same_of s t
    (sym (join-split 9 (fold_text s))
    ∙ ap (join 9) (split-fold 9 tab_other s ∙ fold-agree (split 9 s) (split 9 t) h ∙ sym (split-fold 9 tab_other t))
    ∙ join-split 9 (fold_text t)))

-- the same of the paths at two places
pub same-paths : (s : List ℕ) (a b c d : ℕ) → a ≤ b → c ≤ d → same_text (between s a b) (between s c d) ≡ agree same_text (fields_at s a b) (fields_at s c d)
unfolding fields_at
same-paths s a b c d h k = rw (le-leb a b h, le-leb c d k) (same-fields (between s a b) (between s c d))

-- ---- all rows

-- what holds of each row holds of all
pub all-rows : (p : Row → Bool) (s ns : List ℕ) (i n : ℕ) → ((j : ℕ) → j < i + n → p (row_at s (places_at ns j)) ≡ true) → all p (rows_from s ns i n) ≡ true
unfolding rows_from all
all-rows p s ns i zero f = refl
all-rows p s ns i (suc n) f = and_both (f i (omega arith)) (all-rows p s ns (suc i) n (λ j h. f j (omega arith)))

-- what one has not, not all have
pub one-row : (p : Row → Bool) (s ns : List ℕ) (i n j : ℕ) → j < n → p (row_at s (places_at ns (i + j))) ≡ false → all p (rows_from s ns i n) ≡ false
unfolding rows_from all
one-row p s ns i zero j l e = absurd (omega arith)
one-row p s ns i (suc n) zero l e = rw (rw add-zero at e)
one-row p s ns i (suc n) (suc j) l e =
    let h : i + suc j ≡ suc i + j = omega arith in
    rw (one-row p s ns (suc i) n j (omega arith) (rw h at e), and-false)

-- ---- a row put behind the others

-- what stands before a run of stores, in it, and behind it
before-sets : (l : List ℕ) (k : ℕ) (vs : List ℕ) (j : ℕ) → j < k → get_or (sets l k vs) j 0 ≡ get_or l j 0
before-sets l k [] j h = refl
before-sets l k (v ∷ vs) j h = before-sets (set l k v) (suc k) vs j (omega arith) ∙ get_or-set_other l k j v 0 (λ e. omega arith)

in_sets : (l : List ℕ) (k : ℕ) (vs : List ℕ) (j : ℕ) → k + length vs ≤ length l → j < length vs → get_or (sets l k vs) (k + j) 0 ≡ get_or vs j 0
in_sets l k vs j h g =
    let r = drop (k + length vs) l in
    ap (λ (t : List ℕ). get_or t (k + j) 0) (sets-eq vs l k h ∙ append_assoc (take k l) vs r)
    ∙ ap (λ (m : ℕ). get_or (take k l ++ (vs ++ r)) (m + j) 0) (sym (length-take-le k l (omega arith)))
    ∙ get_or-append-add (take k l) (vs ++ r) j 0
    ∙ get_or-append vs r 0 j g

behind-sets : (l : List ℕ) (k : ℕ) (vs : List ℕ) (j : ℕ) → k + length vs ≤ j → get_or (sets l k vs) j 0 ≡ get_or l j 0
behind-sets l k [] j h = refl
behind-sets l k (v ∷ vs) j h = behind-sets (set l k v) (suc k) vs j (omega arith) ∙ get_or-set_other l k j v 0 (λ e. omega arith)

-- the row's places stand there, and those before them and what stands behind them stay
module _ (ns : List ℕ) (i : ℕ) (p : line.Row.Row) where
  pub length_put : length (put_at ns i p) ≡ length ns
  unfolding put_at
  length_put = simp length-set

  pub places_put : i * 4 + 4 ≤ length ns → places_at (put_at ns i p) i ≡ p
  unfolding places_at put_at
  places_put h =
      let vs : List ℕ = p.domain ∷ p.domain_end ∷ p.path ∷ p.path_end ∷ [] in
      let e : get_or (sets ns (i * 4) vs) (i * 4) 0 ≡ p.domain = ap (λ (k : ℕ). get_or (sets ns (i * 4) vs) k 0) (sym (add-zero (i * 4))) ∙ in_sets ns (i * 4) vs 0 h (omega arith) in
      rw (e, in_sets ns (i * 4) vs 1 h (omega arith), in_sets ns (i * 4) vs 2 h (omega arith), in_sets ns (i * 4) vs 3 h (omega arith))

  pub places-before : (j : ℕ) → j < i → places_at (put_at ns i p) j ≡ places_at ns j
  unfolding places_at put_at
  places-before j h =
      let vs : List ℕ = p.domain ∷ p.domain_end ∷ p.path ∷ p.path_end ∷ [] in
      rw (
        before-sets ns (i * 4) vs (j * 4) (omega arith),
        before-sets ns (i * 4) vs (j * 4 + 1) (omega arith),
        before-sets ns (i * 4) vs (j * 4 + 2) (omega arith),
        before-sets ns (i * 4) vs (j * 4 + 3) (omega arith),
      )

  pub put_behind : (j : ℕ) → i * 4 + 4 ≤ j → get_or (put_at ns i p) j 0 ≡ get_or ns j 0
  unfolding put_at
  put_behind j h = behind-sets ns (i * 4) (p.domain ∷ p.domain_end ∷ p.path ∷ p.path_end ∷ []) j h

-- a number stored behind the places of row j leaves them
pub places-set : (ns : List ℕ) (k v j : ℕ) → j * 4 + 4 ≤ k → places_at (set ns k v) j ≡ places_at ns j
unfolding places_at
places-set ns k v j h =
    rw (
      get_or-set_other ns k (j * 4) v 0 (λ e. omega arith),
      get_or-set_other ns k (j * 4 + 1) v 0 (λ e. omega arith),
      get_or-set_other ns k (j * 4 + 2) v 0 (λ e. omega arith),
      get_or-set_other ns k (j * 4 + 3) v 0 (λ e. omega arith),
    )

module _ (s ns : List ℕ) where
  rows_same : (ms : List ℕ) (i n : ℕ) → ((j : ℕ) → j < i + n → places_at ms j ≡ places_at ns j) → rows_from s ms i n ≡ rows_from s ns i n
  unfolding rows_from
  rows_same ms i zero f = refl
  rows_same ms i (suc n) f =
      ap₂ (λ (r : Row) (rs : List Row). r ∷ rs)
      (ap (row_at s) (f i (omega arith)))
      (rows_same ms (suc i) n (λ j h. f j (omega arith)))

  pub rows_snoc : (i n : ℕ) → rows_from s ns i (suc n) ≡ rows_from s ns i n ++ (row_at s (places_at ns (i + n)) ∷ [])
  unfolding rows_from
  rows_snoc i zero = rw add-zero
  rows_snoc i (suc n) =
      let e : suc i + n ≡ i + suc n = omega arith in
      ap (λ (rs : List Row). row_at s (places_at ns i) ∷ rs)
      (rows_snoc (suc i) n ∙ ap (λ (k : ℕ). rows_from s ns (suc i) n ++ (row_at s (places_at ns k) ∷ [])) e)

  length_from : (i n : ℕ) → length (rows_from s ns i n) ≡ n
  unfolding rows_from
  length_from i zero = refl
  length_from i (suc n) = ap suc (length_from (suc i) n)

  pub length-rows : (n : ℕ) → length (rows_at s ns n) ≡ n
  unfolding rows_at
  length-rows n = length_from 0 n

-- a row put behind the first n joins them
module _ (s ns : List ℕ) (n : ℕ) (p : line.Row.Row) (ms : List ℕ) (low : (j : ℕ) → j < n → places_at ms j ≡ places_at ns j) (here : places_at ms n ≡ p) where
  pub rows_put : rows_at s ms (n + 1) ≡ rows_at s ns n ++ (row_at s p ∷ [])
  unfolding rows_at
  rows_put =
      ap (rows_from s ms 0) (add-one n)
      ∙ rows_snoc s ms 0 n
      ∙ ap₂ (λ (rs : List Row) (q : line.Row.Row). rs ++ (row_at s q ∷ []))
      (rows_same s ns ms 0 n (λ j h. low j (omega arith)))
      (ap (places_at ms) (zero-add n) ∙ here)

  pub inside_put : n * 4 + 4 ≤ length ms → Inside s ns n → RowInside s p → Inside s ms (n + 1)
  inside_put l i r =
      record {
        fits = omega arith;
        each = below_more (λ k. RowInside s (places_at ms k)) n (λ k h. rw (low k h) (i.each k h)) (rw here r);
      }

pub inside-none : (s ns : List ℕ) → Inside s ns 0
inside-none s ns = record { fits = omega arith; each = λ i h. absurd (omega arith) }
