-- A list that spells a table can be written: the text of its entries' lines spells the same table.
-- Assumes nothing.
use mathlib.Core.Path.{◌≡◌, refl, sym, ap, ap₂, ◌∙◌}
use mathlib.Core.Bool.{Bool, true, false, ◌&&◌, ◌||◌, not}
use mathlib.Core.List.{List, [], ◌∷◌, map}
use Prim.Native.Nat.{ℕ, suc, ◌+◌, ◌≤◌}
use native.Mathlib.Omega.{arith}
use borrow.Author.Tests.{not-false}
use lib.Dec.{leb}
use lib.ListN.{length}
use Rattle.chars.specs.Lists.{all, non_empty}
use Rattle.chars.specs.Parts.{split}
use Rattle.chars.proofs.Laws.Lists.{and_both, and_left, and_right, by_test, neither, or_cases, true_not_false}
use Rattle.chars.proofs.Laws.Parts.{clear, split-at_sep, split-some}
use Rattle.chars.proofs.Laws.Seq.{some-append}
use Rattle.rowlist.specs.declared.RowEntry.{RowEntry}
use Rattle.table.specs.Table.{Table, Token}
use Rattle.table.specs.Lines.{Line, bad_gateway, bad_row, gateway_table, has_tag, is_new_row, is_row, lines_of, loaded_from, longest_gateway_domain, longest_row_domain, longest_table, malformed, most_rows, read_lines, read_rows, row_of, same_domain, same_path, table_lines, well_formed, with_row}
use Rattle.table.proofs.Laws.Lines.{loaded_lines}
use Rattle.rowlist_load.specs.Listed.{entry_line, is_entry, lines_text, listed_from}
use Rattle.rowlist_load.proofs.Laws.Feeds.{entry_no_feed}
use Rattle.rowlist_load.proofs.Laws.Load.{entry_ended, gateway_test, listed_lines}

-- ---- a text of lines

-- a line that a text can have: it has its LF, and no other
abbrev is_whole : Line → Bool
is_whole l = l.ended && clear 10 l.text

lines_more : (p : List ℕ) (ps : List (List ℕ)) → non_empty ps ≡ true → lines_of (p ∷ ps) ≡ record { text = p; ended = true } ∷ lines_of ps
unfolding lines_of non_empty
lines_more p [] h = true_not_false true refl (sym h)
lines_more p (q ∷ ps) h = refl

lines_of_lem : (ls : List Line) → all is_whole ls ≡ true → lines_of (split 10 (lines_text ls)) ≡ ls
unfolding lines_text lines_of split all non_empty
lines_of_lem [] h = refl
lines_of_lem (l ∷ ls) h =
    let w = and_left (is_whole l) (all is_whole ls) h in
    ap lines_of (split-at_sep 10 l.text (lines_text ls) (and_right l.ended (clear 10 l.text) w))
    ∙ lines_more l.text (split 10 (lines_text ls)) (split-some 10 (lines_text ls))
    ∙ ap₂ (λ (b : Bool) (ms : List Line). record { text = l.text; ended = b } ∷ ms) (sym (and_left l.ended (clear 10 l.text) w))
    (lines_of_lem ls (and_right (is_whole l) (all is_whole ls) h))

text-some : (l : Line) (ls : List Line) → non_empty (lines_text (l ∷ ls)) ≡ true
unfolding lines_text non_empty
text-some l ls = some-append l.text (10 ∷ lines_text ls) refl

text-lines : (l : Line) (ls : List Line) → all is_whole (l ∷ ls) ≡ true → table_lines (lines_text (l ∷ ls)) ≡ l ∷ ls
unfolding table_lines
text-lines l ls h = rw (text-some l ls) (lines_of_lem (l ∷ ls) h)

-- ---- the lines of a list that spells a table

module _ (s : List ℕ) (e : RowEntry) where
  whole : (kind most : ℕ) → (kind ≡ 9 → ⊥) → (kind ≡ 10 → ⊥) → is_entry s e kind most ≡ true → is_whole (entry_line s e) ≡ true
  whole kind most n m i = and_both (entry_ended s e kind most i) (entry_no_feed s e kind most n m i)

  gateway-whole : bad_gateway (entry_line s e) ≡ false → is_whole (entry_line s e) ≡ true
  gateway-whole b =
      whole 71 longest_gateway_domain (λ h. omega arith) (λ h. omega arith)
      (not-false (is_entry s e 71 longest_gateway_domain) (sym (gateway_test s e) ∙ b))

  row-whole : (t : Table) → bad_row t (entry_line s e) ≡ false → is_whole (entry_line s e) ≡ true
  unfolding bad_row is_new_row is_entry
  row-whole t b =
      let l = entry_line s e in
      let fs : List Token = split 9 l.text in
      let full : Bool = leb most_rows (length t.to_path + length t.to_domain) in
      let new_domain : Bool = all (λ q. not (same_domain (row_of fs) q)) t.to_path in
      let new_path : Bool = all (λ q. not (same_path (row_of fs) q)) t.to_domain in
      let both = neither (not l.ended || full) (not (is_new_row t fs)) b in
      let ended : l.ended ≡ true = not-false l.ended (neither (not l.ended) full both.0).0 in
      let new : is_new_row t fs ≡ true = not-false (is_new_row t fs) both.1 in
      let row : is_row longest_row_domain (row_of fs) ≡ true =
      and_left (is_row longest_row_domain (row_of fs)) (has_tag 68 fs && new_domain || has_tag 82 fs && new_path) new in
      or_cases (has_tag 68 fs && new_domain) (has_tag 82 fs && new_path)
      (and_right (is_row longest_row_domain (row_of fs)) (has_tag 68 fs && new_domain || has_tag 82 fs && new_path) new)
      (λ h. whole 68 longest_row_domain (λ z. omega arith) (λ z. omega arith) (and_both ended (and_both (and_left (has_tag 68 fs) new_domain h) row)))
      (λ h. whole 82 longest_row_domain (λ z. omega arith) (λ z. omega arith) (and_both ended (and_both (and_left (has_tag 82 fs) new_path h) row)))

rows_whole : (s : List ℕ) (n : ℕ) (t u : Table) (es : List RowEntry) → read_rows n t (map (entry_line s) es) ≡ well_formed u
    → all is_whole (map (entry_line s) es) ≡ true
unfolding read_rows all
rows_whole s n t u [] h = refl
rows_whole s n t u (e ∷ es) h =
    by_test (bad_row t (entry_line s e))
    (λ b. let g : malformed n ≡ well_formed u = rw b at h in let z : ◌≡◌ {A = ℕ} 0 1 = cc in absurd (omega arith))
    (λ b. and_both (row-whole s e t b) (rows_whole s (suc n) (with_row t (split 9 (entry_line s e).text)) u es (rw b at h)))

lines-written : (s : List ℕ) (es : List RowEntry) (u : Table) → read_lines (map (entry_line s) es) ≡ well_formed u
    → table_lines (lines_text (map (entry_line s) es)) ≡ map (entry_line s) es
unfolding read_lines all
lines-written s [] u h =
    let g : malformed 1 ≡ well_formed u = h in let z : ◌≡◌ {A = ℕ} 0 1 = cc in absurd (omega arith)
lines-written s (e ∷ es) u h =
    by_test (bad_gateway (entry_line s e))
    (λ b. let g : malformed 1 ≡ well_formed u = rw b at h in let z : ◌≡◌ {A = ℕ} 0 1 = cc in absurd (omega arith))
    (λ b. text-lines (entry_line s e) (map (entry_line s) es)
    (and_both (gateway-whole s e b) (rows_whole s 2 (gateway_table (split 9 (entry_line s e).text)) u es (rw b at h))))

-- Where a list spells a table, the text of its lines spells the same one, if it is no longer than a table text may be.
pub written : (s : List ℕ) (es : List RowEntry) (u : Table) → listed_from s es ≡ well_formed u
    → length (lines_text (map (entry_line s) es)) ≤ longest_table → loaded_from (lines_text (map (entry_line s) es)) ≡ well_formed u
written s es u h l =
    let g : read_lines (map (entry_line s) es) ≡ well_formed u = sym (listed_lines s es) ∙ h in
    loaded_lines (lines_text (map (entry_line s) es)) l ∙ ap read_lines (lines-written s es u g) ∙ g
