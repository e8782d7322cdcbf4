-- What is known of the numbers of an array of N that the entries of a list are laid out in.
-- Assumes nothing.
use mathlib.Core.Path.{◌≡◌, sym, ap, subst, ◌∙◌}
use mathlib.Core.List.{List}
use Prim.Native.Nat.{ℕ, ◌<◌, ◌≤◌, ◌^◌, ◌*◌, ◌/◌}
use native.Mathlib.Omega.{arith}
use lib.ListN.{length, take, replicate, length-replicate}
use Rattle.rowlist.specs.declared.RowEntry.{RowEntry}
use Rattle.rowlist.specs.Entries.{entries_of, lesser}
use Rattle.rowlist.proofs.Lesser.{lesser-fits, take-lesser}

-- the numbers that the array is filled with
abbrev pub zeros : ℕ → List ℕ
zeros N = replicate N 0

long : (N : ℕ) → length (zeros N) ≡ N
long N = length-replicate N 0

abbrev pub Listed : List RowEntry → ℕ → ℕ → List ℕ → Type 0
Listed rows N n ns = (n < 2 ^ 64) × ((entries_of ns n ≡ take (N / 5) rows) × ((n * 5 ≤ N) × (length ns ≡ N)))

pub in_numbers : (N n : ℕ) (ns : List ℕ) → (n * 5 ≤ N) × (length ns ≡ N) → n * 5 ≤ length ns
in_numbers N n ns e = subst (λ (m : ℕ). n * 5 ≤ m) (sym e.1) e.0

fifth : (n N : ℕ) → n ≤ N / 5 → n * 5 ≤ N
fifth n N h = omega (arith, h)

-- what `spread` ensures says as much
pub known : (rows : List RowEntry) (N n : ℕ) (ns : List ℕ) → n < 2 ^ 64
    → (entries_of ns n ≡ take n rows) × ((n ≡ lesser (length rows) (length (zeros N) / 5)) × (length ns ≡ length (zeros N))) → Listed rows N n ns
known rows N n ns fits e =
    let at-N : n ≡ lesser (length rows) (N / 5) = e.1.0 ∙ ap (λ (m : ℕ). lesser (length rows) (m / 5)) (long N) in (
      fits,
      (
        e.0 ∙ ap (λ (m : ℕ). take m rows) at-N ∙ take-lesser rows (N / 5),
        (fifth n N (subst (λ (m : ℕ). m ≤ N / 5) (sym at-N) (lesser-fits (length rows) (N / 5)).1), e.1.1 ∙ long N),
      ),
    )
