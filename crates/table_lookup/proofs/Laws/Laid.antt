-- Laws of levels laid out as a path.
-- Assumes nothing.
use mathlib.Core.Path.{◌≡◌, refl, ap, ◌∙◌}
use mathlib.Core.Bool.{true}
use mathlib.Core.List.{List, [], ◌∷◌, ◌++◌, append-nil}
use Prim.Native.Nat.{ℕ, zero, suc, ◌+◌, ◌-◌, ◌≤◌}
use native.Mathlib.Nat.{add-zero}
use native.Mathlib.Numerals.{add-one}
use native.Mathlib.Omega.{arith}
use lib.ListN.{length, get_or, take, drop, length-append}
use Rattle.chars.specs.Lists.{all}
use Rattle.chars.specs.Parts.{join, split}
use Rattle.chars.specs.Write.{Wrote}
use Rattle.chars.proofs.Laws.Parts.{clear, split-join}
use Rattle.chars.proofs.Laws.Write.{wrote_taken}
use Rattle.table.specs.Table.{Token}
use Rattle.table.specs.Rows.{between}
use Rattle.oraddr.specs.Bounds.{level_count}
use Rattle.table_lookup.specs.Looked.{Ended, Laid, level_tokens, levels_room, tabbed, tokens_from}
use Rattle.table.proofs.Laws.Fields.{between-length}

tabbed-join : (t : Token) (ts : List Token) → tabbed (t ∷ ts) ≡ 9 ∷ join 9 (t ∷ ts)
unfolding tabbed join
tabbed-join t [] = ap (λ (r : List ℕ). 9 ∷ r) (append-nil t)
tabbed-join t (u ∷ ts) = ap (λ (r : List ℕ). 9 ∷ (t ++ r)) (tabbed-join u ts)

behind : (e : ℕ) (m t : List ℕ) → e ≡ suc (length t) → take e m ≡ 9 ∷ t → take (e - 1) (drop 1 m) ≡ t
behind zero m t n h = absurd (omega arith)
behind (suc e) [] t n h = let z : ◌≡◌ {A = ℕ} 0 1 = cc in absurd (omega arith)
behind (suc e) (x ∷ m) t n h = let z : suc e - 1 ≡ e = omega arith in rw z (cc)

module _ (s ends : List ℕ) where
  pub tabbed-length : (i n : ℕ) → Ended s ends (i + n) → get_or ends i 0 + length (tabbed (tokens_from s ends i n)) ≡ get_or ends (i + n) 0 + n
  unfolding tabbed tokens_from
  tabbed-length i zero h = rw (add-zero i) refl
  tabbed-length i (suc n) h =
      let t : Token = between s (get_or ends i 0) (get_or ends (suc i) 0) in
      let ts : List Token = tokens_from s ends (suc i) n in
      let e : i + suc n ≡ suc i + n = omega arith in
      let o : get_or ends i 0 ≤ get_or ends (suc i) 0 = rw (add-one i) at (h.ordered i (omega arith)) in
      let b : get_or ends (suc i) 0 ≤ length s = rw (add-one i) at (h.inside i (omega arith)) in
      rw e (omega (arith, tabbed-length (suc i) n (rw e at h), length-append t (tabbed ts), between-length s (get_or ends i 0) (get_or ends (suc i) 0) o b, o))

  -- one level and those behind it
  pub tabbed_step : (k n : ℕ) → tabbed (tokens_from s ends k (suc n)) ≡ (9 ∷ []) ++ (between s (get_or ends k 0) (get_or ends (k + 1) 0) ++ tabbed (tokens_from s ends (k + 1) n))
  unfolding tabbed tokens_from
  tabbed_step k n = rw add-one

  pub tabbed-none : (k : ℕ) → tabbed (tokens_from s ends k 0) ≡ []
  unfolding tabbed tokens_from
  tabbed-none k = refl

  pub room : Laid s ends → length (tabbed (tokens_from s ends 0 level_count)) ≤ levels_room + level_count
  room h = omega (arith, tabbed-length 0 level_count h.ended, h.most)

  pub laid_out_lem : {o m : List ℕ} {e : ℕ} → all (clear 9) (level_tokens s ends) ≡ true → length (tabbed (tokens_from s ends 0 level_count)) ≤ length o
      → Wrote o 0 (tabbed (tokens_from s ends 0 level_count)) e m → (1 ≤ e) × (e ≤ length o) × (split 9 (take (e - 1) (drop 1 m)) ≡ level_tokens s ends)
  unfolding level_tokens tokens_from
  laid_out_lem {o} {m} {e} c l w =
      let t : Token = between s (get_or ends 0 0) (get_or ends 1 0) in
      let ts : List Token = tokens_from s ends 1 7 in
      let j : tabbed (tokens_from s ends 0 level_count) ≡ 9 ∷ join 9 (t ∷ ts) = tabbed-join t ts in
      let k : take e m ≡ 9 ∷ join 9 (t ∷ ts) = wrote_taken w l ∙ j in
      let n : e ≡ suc (length (join 9 (t ∷ ts))) = omega (arith, w.moved, ap length j) in
      let d : take (e - 1) (drop 1 m) ≡ join 9 (t ∷ ts) = behind e m (join 9 (t ∷ ts)) n k in
      (omega arith, omega (arith, ap length j), ap (split 9) d ∙ split-join 9 t ts c)
