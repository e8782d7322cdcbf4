-- Entries that are laid out one after the other are read back: `entries_of` of the numbers is the front of the list.
-- Assumes nothing.
use mathlib.Core.Path.{◌≡◌, refl, sym, ap, ◌∙◌}
use Prim.Native.Nat.{ℕ, zero, suc, ◌<◌, ◌≤◌, ◌+◌, ◌*◌}
use native.Mathlib.Omega.{arith}
use mathlib.Core.List.{List, [], ◌∷◌, ◌++◌}
use lib.ListN.{length, get_or, take, length-set}
use lib.Seq.{take-suc}
use Rattle.std.proofs.lemmas.Grind.{elements}
use Rattle.rowlist.specs.declared.RowEntry.{RowEntry}
use Rattle.rowlist.specs.Entries.{no_entry, entry_at, entries_from, entries_of, laid}

-- the numbers with the first i entries of a list laid out
unfoldable pub laid_out : List RowEntry → List ℕ → ℕ → List ℕ
laid_out rows ns zero = ns
laid_out rows ns (suc i) = laid (laid_out rows ns i) (i * 5) (get_or rows i no_entry)

module _ (ns : List ℕ) (k : ℕ) (e : RowEntry) where
  length-laid : length (laid ns k e) ≡ length ns
  length-laid = simp length-set

  -- a number before the place is as it was
  before : (j : ℕ) → j < k → get_or (laid ns k e) j 0 ≡ get_or ns j 0
  before j l = grind (arith, elements)

  -- the entry is read back at its place
  there : k + 4 < length ns → entry_at (laid ns k e) k ≡ e
  there l = λ i. record { kind = r₀ i; domain = r₁ i; domain_len = r₂ i; path = r₃ i; path_len = r₄ i }
    where
      r₀ : get_or (laid ns k e) k 0 ≡ e.kind
      r₀ = grind (arith, elements)

      r₁ : get_or (laid ns k e) (k + 1) 0 ≡ e.domain
      r₁ = grind (arith, elements)

      r₂ : get_or (laid ns k e) (k + 2) 0 ≡ e.domain_len
      r₂ = grind (arith, elements)

      r₃ : get_or (laid ns k e) (k + 3) 0 ≡ e.path
      r₃ = grind (arith, elements)

      r₄ : get_or (laid ns k e) (k + 4) 0 ≡ e.path_len
      r₄ = grind (arith, elements)

  entry_before : (j : ℕ) → j + 5 ≤ k → entry_at (laid ns k e) j ≡ entry_at ns j
  entry_before j l = λ i. record {
    kind = before j (omega (arith, l)) i;
    domain = before (j + 1) (omega (arith, l)) i;
    domain_len = before (j + 2) (omega (arith, l)) i;
    path = before (j + 3) (omega (arith, l)) i;
    path_len = before (j + 4) (omega (arith, l)) i;
  }

  -- the entries before the place are as they were
  entries-before : (j n : ℕ) → j + n * 5 ≤ k → entries_from (laid ns k e) j n ≡ entries_from ns j n
  unfolding entries_from
  entries-before j zero l = refl
  entries-before j (suc n) l = λ i. entry_before j (omega (arith, l)) i ∷ entries-before (j + 5) n (omega (arith, l)) i

pub length_laid_out : (rows : List RowEntry) (ns : List ℕ) (i : ℕ) → length (laid_out rows ns i) ≡ length ns
unfolding laid_out
length_laid_out rows ns zero = refl
length_laid_out rows ns (suc i) = length-laid (laid_out rows ns i) (i * 5) (get_or rows i no_entry) ∙ length_laid_out rows ns i

-- one entry more is laid out after the others
pub laid_one_more : (rows : List RowEntry) (ns : List ℕ) (i : ℕ) → laid_out rows ns (i + 1) ≡ laid (laid_out rows ns i) (i * 5) (get_or rows i no_entry)
unfolding laid_out
laid_one_more rows ns i = let e : i + 1 ≡ suc i = omega arith in ap (laid_out rows ns) e

-- one entry more is the one that stands after the others
one_entry_more : (ns : List ℕ) (k n : ℕ) → entries_from ns k (suc n) ≡ entries_from ns k n ++ (entry_at ns (k + n * 5) ∷ [])
unfolding entries_from
one_entry_more ns k zero = ap (λ (m : ℕ). entry_at ns m ∷ []) (omega arith)
one_entry_more ns k (suc n) =
    ap (λ (t : List RowEntry). entry_at ns k ∷ t) (one_entry_more ns (k + 5) n)
    ∙ ap (λ (m : ℕ). entry_at ns k ∷ (entries_from ns (k + 5) n ++ (entry_at ns m ∷ []))) (omega arith)

pub laid-read : (rows : List RowEntry) (ns : List ℕ) (n : ℕ) → n ≤ length rows → n * 5 ≤ length ns → entries_of (laid_out rows ns n) n ≡ take n rows
unfolding laid_out entries_from
laid-read rows ns zero l h = refl
laid-read rows ns (suc n) l h =
    one_entry_more (laid_out rows ns (suc n)) 0 n
    ∙ ap (λ (m : ℕ). entries_from (laid_out rows ns (suc n)) 0 n ++ (entry_at (laid_out rows ns (suc n)) m ∷ [])) (omega arith)
    ∙ (λ i. entries-before z (n * 5) e 0 n (omega arith) i ++ (there z (n * 5) e room i ∷ []))
    ∙ ap (λ (t : List RowEntry). t ++ (e ∷ [])) (laid-read rows ns n (omega (arith, l)) (omega (arith, h)))
    ∙ sym (take-suc rows n no_entry l)
  where
    z : List ℕ
    z = laid_out rows ns n

    e : RowEntry
    e = get_or rows n no_entry

    room : n * 5 + 4 < length z
    room = let q : length z ≡ length ns = length_laid_out rows ns n in omega (arith, h, q)

pub length-entries : (ns : List ℕ) (k n : ℕ) → length (entries_from ns k n) ≡ n
unfolding entries_from
length-entries ns k zero = refl
length-entries ns k (suc n) = ap suc (length-entries ns (k + 5) n)
