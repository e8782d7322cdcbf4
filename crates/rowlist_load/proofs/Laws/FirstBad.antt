-- A list is malformed at the number of its first bad entry, and at no other number, and is well-formed where there is an entry and none is
-- bad, and nowhere else; with no entry it is malformed at 1.
-- Assumes nothing.
use mathlib.Core.Path.{◌≡◌, refl, sym, ap, ◌∙◌}
use mathlib.Core.Logic.{◌⊎◌, inl, inr}
use mathlib.Core.List.{List, [], ◌∷◌, map}
use Prim.Native.Nat.{ℕ}
use native.Mathlib.Omega.{arith}
use Rattle.chars.specs.Parts.{split}
use Rattle.rowlist.specs.declared.RowEntry.{RowEntry}
use Rattle.table.specs.FirstBad.{FirstBad, NoneBad, table_after}
use Rattle.table.specs.Lines.{gateway_table, malformed, read_lines, well_formed}
use Rattle.table.specs.Table.{Table}
use Rattle.table.proofs.Laws.FirstBad.{first-bad-lines, lines-first-bad, lines-none-bad, none-bad-lines}
use Rattle.rowlist_load.specs.Listed.{entry_line, listed_from}

module _ (s : List ℕ) where
  pub list-first-bad : (es : List RowEntry) (n : ℕ) → listed_from s es ≡ malformed n → ((es ≡ []) × (n ≡ 1)) ⊎ FirstBad (map (entry_line s) es) n
  unfolding listed_from read_lines
  list-first-bad [] n h = let q : malformed 1 ≡ malformed n = h in inl (refl, (cc))
  list-first-bad (e ∷ es) n h = inr (lines-first-bad (entry_line s e) (map (entry_line s) es) n h)

  pub list-bad-first : (es : List RowEntry) (n : ℕ) → FirstBad (map (entry_line s) es) n → listed_from s es ≡ malformed n
  unfolding listed_from
  list-bad-first es n f =
      ap read_lines f.lines
      ∙ first-bad-lines f.before f.line f.rest f.none f.bad
      ∙ ap malformed (sym f.number)

  pub list_well_formed : (es : List RowEntry) (t : Table) → listed_from s es ≡ well_formed t → (es ≡ [] → ⊥) × NoneBad (map (entry_line s) es)
  unfolding listed_from read_lines
  list_well_formed [] t h = let q : malformed 1 ≡ well_formed t = h in let z : ◌≡◌ {A = ℕ} 0 1 = cc in absurd (omega arith)
  list_well_formed (e ∷ es) t h = (λ q. some q, none-bad-lines (entry_line s e) (map (entry_line s) es) t h)
    where
      some : e ∷ es ≡ [] → ⊥
      some q = let z : ◌≡◌ {A = ℕ} 0 1 = cc in absurd (omega arith)

  pub list-formed_well : (es : List RowEntry) → (es ≡ [] → ⊥) → NoneBad (map (entry_line s) es) → (t : Table) × (listed_from s es ≡ well_formed t)
  unfolding listed_from
  list-formed_well [] k f = absurd (k refl)
  list-formed_well (e ∷ es) k f =
      (table_after (gateway_table (split 9 (entry_line s e).text)) (map (entry_line s) es), lines-none-bad (entry_line s e) (map (entry_line s) es) f)
