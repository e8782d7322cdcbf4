-- Laws of extending a row's domain as the code counts it.
-- Assumes nothing.
use mathlib.Core.Path.{◌≡◌, refl, ap, ◌∙◌}
use mathlib.Core.Bool.{true, false}
use mathlib.Core.List.{List, [], ◌∷◌}
use Prim.Native.Nat.{ℕ, zero, suc, ◌+◌, ◌≤◌, ◌<◌}
use native.Mathlib.Nat.{add-zero, le_of_suc-le-suc}
use native.Mathlib.Numerals.{add-one}
use native.Mathlib.Omega.{arith}
use lib.ListN.{length, drop, get_or, drop_of_length-le}
use lib.Seq.{drop-cons}
use Rattle.chars.specs.Domain.{is_domain_part}
use Rattle.table.specs.Table.{Token}
use Rattle.table.specs.Rows.{between}
use Rattle.table_lookup.specs.Lookup.{extension}
use Rattle.table_lookup.specs.Looked.{tokens_from, level_tokens}

pub tokens-length : (s ends : List ℕ) (k n : ℕ) → length (tokens_from s ends k n) ≡ n
unfolding tokens_from
tokens-length s ends k zero = refl
tokens-length s ends k (suc n) = ap suc (tokens-length s ends (suc k) n)

token-at : (s ends : List ℕ) (k n i : ℕ) → i < n → get_or (tokens_from s ends k n) i [] ≡ between s (get_or ends (k + i) 0) (get_or ends (suc (k + i)) 0)
unfolding tokens_from
token-at s ends k zero i h = absurd (omega arith)
token-at s ends k (suc n) zero h = rw (add-zero k)
token-at s ends k (suc n) (suc i) h = let e : suc k + i ≡ k + suc i = omega arith in token-at s ends (suc k) n i (le_of_suc-le-suc h) ∙ rw e

module _ (s ends : List ℕ) (i : ℕ) (h : i < 8) where
  tokens-first : drop i (level_tokens s ends) ≡ between s (get_or ends i 0) (get_or ends (i + 1) 0) ∷ drop (i + 1) (level_tokens s ends)
  unfolding level_tokens
  tokens-first =
      let e : 0 + i ≡ i = omega arith in
      drop-cons (tokens_from s ends 0 8) i [] (omega (arith, tokens-length s ends 0 8))
      ∙ rw (add-one i) (ap (λ (t : Token). t ∷ drop (suc i) (tokens_from s ends 0 8)) (token-at s ends 0 8 i h ∙ rw e))

  pub extension-ends : is_domain_part (between s (get_or ends i 0) (get_or ends (i + 1) 0)) ≡ false → length (extension (drop i (level_tokens s ends))) ≡ 0
  unfolding extension
  extension-ends e = rw (tokens-first, e)

  pub extension-more : is_domain_part (between s (get_or ends i 0) (get_or ends (i + 1) 0)) ≡ true
      → length (extension (drop i (level_tokens s ends))) ≡ suc (length (extension (drop (i + 1) (level_tokens s ends))))
  unfolding extension
  extension-more e = rw (tokens-first, e)

pub extension-past : (s ends : List ℕ) (i : ℕ) → 8 ≤ i → length (extension (drop i (level_tokens s ends))) ≡ 0
unfolding extension level_tokens
extension-past s ends i h =
    let l : length (tokens_from s ends 0 8) ≤ i = omega (arith, tokens-length s ends 0 8) in
    rw (drop_of_length-le (tokens_from s ends 0 8) l)
