-- Bytes of a buffer moved to its front, one after the other: each is read before it is written over.
-- Assumes nothing.
use mathlib.Core.Path.{◌≡◌, sym, ap, ◌∙◌}
use mathlib.Core.List.{List, ◌++◌}
use Prim.Native.Nat.{ℕ, ◌+◌, ◌-◌, ◌≤◌, ◌<◌}
use native.Mathlib.Numerals.{add-one}
use native.Mathlib.Omega.{arith}
use lib.ListN.{length, take, drop, set, get_or, length-drop}
use lib.Seq.{drop_at, get_or-append-add, get_or-drop, length-paste, length_paste_head, length-take-le, paste, paste-suc, take-add, take-paste}

module _ (d : List ℕ) (from n i : ℕ) (h : from + n ≤ length d) (k : i < n) where
  -- the byte that is moved is still the first one's
  still : get_or (paste d 0 (drop from d) i) (from + i) 0 ≡ get_or (drop from d) i 0
  still =
      let s : List ℕ = drop from d in
      let p : List ℕ = take 0 d ++ take i s in
      let r : List ℕ = drop (0 + i) d in
      let l : length p ≡ 0 + i = length_paste_head d 0 s i (omega arith) (omega (arith, length-drop from d)) in
      let e : from + i ≡ length p + from = omega (arith, l) in
      let f : 0 + i + from ≡ from + i = omega arith in
      ap (λ (j : ℕ). get_or (p ++ r) j 0) e ∙ get_or-append-add p r from 0 ∙ get_or-drop (0 + i) d from 0 ∙ ap (λ (j : ℕ). get_or d j 0) f ∙ sym (get_or-drop from d i 0)

  pub moved_step : set (paste d 0 (drop from d) i) i (get_or (paste d 0 (drop from d) i) (from + i) 0) ≡ paste d 0 (drop from d) (i + 1)
  moved_step =
      let s : List ℕ = drop from d in
      let z : i ≡ 0 + i = omega arith in
      rw (still, add-one)
      (ap (λ (j : ℕ). set (paste d 0 s i) j (get_or s i 0)) z ∙ paste-suc d 0 s i 0 (omega arith) (omega (arith, length-drop from d)))

pub moved_length : (d : List ℕ) (from n i : ℕ) → from + n ≤ length d → i ≤ n → length (paste d 0 (drop from d) i) ≡ length d
moved_length d from n i h k = length-paste d 0 (drop from d) i (omega arith) (omega (arith, length-drop from d))

-- the end of a buffer's first bytes, moved to the front
pub moved_front : (d : List ℕ) (from size : ℕ) → from ≤ size → size ≤ length d
    → take (size - from) (paste d 0 (drop from d) (size - from)) ≡ drop from (take size d)
moved_front d from size h k =
    let n : ℕ = size - from in
    let z : n ≡ 0 + n = omega arith in
    let e : size ≡ from + n = omega arith in
    ap (λ (i : ℕ). take i (paste d 0 (drop from d) n)) z
    ∙ take-paste d 0 (drop from d) n (omega arith) (omega (arith, length-drop from d))
    ∙ sym (drop_at (take from d) (take n (drop from d)) from (length-take-le from d (omega arith)))
    ∙ ap (drop from) (sym (take-add from n d))
    ∙ ap (λ (i : ℕ). drop from (take i d)) (sym e)
