-- Laws of keys: a row's key is inside the text, two rows have one where its texts agree, and when a key is new among rows.
-- Assumes nothing.
use mathlib.Core.Path.{◌≡◌, refl, sym, ap, ◌∙◌}
use mathlib.Core.Bool.{true, false, not}
use mathlib.Core.List.{List}
use Prim.Native.Nat.{ℕ, ◌≤◌, ◌<◌}
use native.Mathlib.Nat.{zero-add}
use native.Mathlib.Omega.{arith}
use lib.ListN.{length}
use Rattle.chars.specs.Case.{same_text}
use Rattle.table.specs.Keys.{is_new_key, key_place, key_text, same_key}
use Rattle.table.specs.Lines.{same_domain, same_path}
use Rattle.table.specs.Rows.{Inside, RowInside, between, places_at, row_at, rows_at}
use Rattle.table.specs.declared.line as line
use Rattle.table.specs.declared.rows.Key.{Key}
use Rattle.table.specs.declared.rows.Key.TheVariants.{Domain, Path}
use Rattle.table.specs.declared.rows.KeyPlace.{KeyPlace}
use Rattle.table.proofs.Laws.Rows.{all-rows, one-row, same-paths}

pub key-inside : (k : Key) (s : List ℕ) (p : line.Row.Row) (q : KeyPlace) → q ≡ key_place k p → RowInside s p → (q.from ≤ q.end) × (q.end ≤ length s)
key-inside Domain s p q e r = rw e (r.domain, r.within-domain)
key-inside Path s p q e r = rw e (r.path, r.within)

-- what stands at the key's place
pub key-text : (k : Key) (s : List ℕ) (p : line.Row.Row) (q : KeyPlace) → q ≡ key_place k p → between s q.from q.end ≡ key_text k s p
unfolding key_text
key-text k s p q e = ap (λ (q : KeyPlace). between s q.from q.end) e

pub same_key_lem : (k : Key) (s : List ℕ) (p q : line.Row.Row) → RowInside s p → RowInside s q
    → same_text (key_text k s p) (key_text k s q) ≡ same_key k (row_at s p) (row_at s q)
unfolding key_text same_domain same_path row_at
same_key_lem Domain s p q h g = refl
same_key_lem Path s p q h g = same-paths s p.path p.path_end q.path q.path_end h.path g.path

module _ (k : Key) (s ns : List ℕ) (n : ℕ) (p : line.Row.Row) (f : Inside s ns n) (h : RowInside s p) where
  -- no row has its text
  pub new-key : ((j : ℕ) → j < n → same_text (key_text k s p) (key_text k s (places_at ns j)) ≡ false) → is_new_key k s ns n p ≡ true
  unfolding rows_at
  new-key g =
      all-rows (λ q. not (same_key k (row_at s p) q)) s ns 0 n
      (λ j l.
      let b : j < n = omega arith in
      ap not (sym (same_key_lem k s p (places_at ns j) h (f.each j b)) ∙ g j b))

  -- row j has it
  pub known_key : (j : ℕ) → j < n → same_text (key_text k s p) (key_text k s (places_at ns j)) ≡ true → is_new_key k s ns n p ≡ false
  unfolding rows_at
  known_key j b e =
      one-row (λ q. not (same_key k (row_at s p) q)) s ns 0 n j b
      (rw zero-add (ap not (sym (same_key_lem k s p (places_at ns j) h (f.each j b)) ∙ e)))
