-- Laws of the table text by its lines: a line by its tag, the lines from a place on, what reading them comes to, and the whole text.
-- Assumes nothing.
use mathlib.Core.Path.{◌≡◌, refl, sym, ap, ◌∙◌}
use mathlib.Core.Bool.{Bool, true, false, ◌&&◌, not, and-true, or-false}
use mathlib.Core.List.{List, [], ◌∷◌}
use Prim.Native.Nat.{ℕ, ◌+◌, ◌-◌, ◌≤◌, ◌<◌}
use native.Mathlib.Numerals.{add-one}
use native.Mathlib.Omega.{arith}
use borrow.Author.Tests.{le-ltb, lt-ltb, ltb-false, ltb-true}
use lib.Dec.{ltb}
use lib.ListN.{length, get_or, take, drop, drop_of_length-le, length-drop}
use Rattle.chars.specs.Lists.{all, non_empty}
use Rattle.chars.specs.Case.{agree, equal_text}
use Rattle.chars.specs.Parts.{run, split}
use Rattle.chars.proofs.Laws.Lists.{and_left, and_right, by_test, true_not_false}
use Rattle.chars.proofs.Laws.Case.{equal-path}
use Rattle.chars.proofs.Laws.Parts.{split-end, split_next, split-some}
use Rattle.chars.proofs.Laws.Seq.{some-length}
use Rattle.table.specs.Table.{Table, Token}
use Rattle.table.specs.Lines.{Line, bad_gateway, bad_row, gateway_table, has_tag, is_gateway_line, is_new_row, is_row, lines_of, loaded_from, longest_gateway_domain, longest_row_domain, longest_table, malformed, read_lines, read_rows, row_of, same_domain, same_path, table_lines, with_row}
use Rattle.table.specs.Rows.{RowFound, bare_table, between, line_at, lines_from, row_at}
use Rattle.table.specs.declared.line as line

-- ---- a line by its tag

-- a line by itself is a row with the tag, as far as the code reads it
abbrev pub accepts : ℕ → ℕ → List Token → Bool
accepts tag most fs = has_tag tag fs && is_row most (row_of fs)

-- a D row is no R row
pub one_tag : (fs : List Token) → has_tag 68 fs ≡ true → has_tag 82 fs ≡ false
unfolding has_tag equal_text agree
one_tag fs h = rw (equal-path (get_or fs 0 []) (68 ∷ []) h)

-- a row with the other tag has not this one
pub no_domain : (fs : List Token) → accepts 68 longest_row_domain fs ≡ false → accepts 82 longest_row_domain fs ≡ true → has_tag 68 fs ≡ false
no_domain fs g h = sym (and-true (has_tag 68 fs)) ∙ rw (and_right (has_tag 82 fs) (is_row longest_row_domain (row_of fs)) h) at g

module _ (t : Table) (fs : List Token) where
  pub new-domain : accepts 68 longest_row_domain fs ≡ true → is_new_row t fs ≡ all (λ q. not (same_domain (row_of fs) q)) t.to_path
  unfolding is_new_row
  new-domain h =
      let d = and_left (has_tag 68 fs) (is_row longest_row_domain (row_of fs)) h in
      rw (d, one_tag fs d, and_right (has_tag 68 fs) (is_row longest_row_domain (row_of fs)) h, or-false)

  pub new-path : accepts 68 longest_row_domain fs ≡ false → accepts 82 longest_row_domain fs ≡ true
      → is_new_row t fs ≡ all (λ q. not (same_path (row_of fs) q)) t.to_domain
  unfolding is_new_row
  new-path g h =
      let i = and_right (has_tag 82 fs) (is_row longest_row_domain (row_of fs)) h in
      rw (i, no_domain fs g h, and_left (has_tag 82 fs) (is_row longest_row_domain (row_of fs)) h)

  pub new_neither : accepts 68 longest_row_domain fs ≡ false → accepts 82 longest_row_domain fs ≡ false → is_new_row t fs ≡ false
  unfolding is_new_row
  new_neither g h =
      by_test (is_row longest_row_domain (row_of fs))
      (λ i. rw (i, sym (and-true (has_tag 68 fs)) ∙ rw i at g, sym (and-true (has_tag 82 fs)) ∙ rw i at h))
      (λ i. rw i)

-- ---- the lines that are left

lines_more : (p : List ℕ) (ps : List (List ℕ)) → non_empty ps ≡ true → lines_of (p ∷ ps) ≡ record { text = p; ended = true } ∷ lines_of ps
unfolding lines_of non_empty
lines_more p [] h = true_not_false true refl (sym h)
lines_more p (q ∷ ps) h = refl

module _ (s : List ℕ) (from e : ℕ) (q : e ≡ from + run 10 (drop from s)) where
  -- the line that starts here has its LF
  pub lines_next : e < length s → lines_from s from ≡ line_at s from e ∷ lines_from s (e + 1)
  unfolding lines_from line_at between
  lines_next h =
      ap lines_of (split_next 10 s from e q h)
      ∙ lines_more (take (e - from) (drop from s)) (split 10 (drop (e + 1) s)) (split-some 10 (drop (e + 1) s))

  -- it has none
  pub lines-last : from < length s → length s ≤ e → lines_from s from ≡ record { text = drop from s; ended = false } ∷ []
  unfolding lines_from lines_of
  lines-last l h =
      ap lines_of (split-end 10 s from e q h)
      ∙ rw (some-length (drop from s) (omega (arith, length-drop from s)))

pub lines_none : (s : List ℕ) (from : ℕ) → length s ≤ from → lines_from s from ≡ []
unfolding lines_from lines_of split non_empty
lines_none s from h = rw (drop_of_length-le s)

-- ---- reading the rows, a line at a time

pub read-good : (n : ℕ) (t : Table) (l : Line) (ls : List Line) → bad_row t l ≡ false → read_rows n t (l ∷ ls) ≡ read_rows (n + 1) (with_row t (split 9 l.text)) ls
unfolding read_rows
read-good n t l ls h = rw (h, add-one)

pub read-bad : (n : ℕ) (t : Table) (l : Line) (ls : List Line) → bad_row t l ≡ true → read_rows n t (l ∷ ls) ≡ malformed n
unfolding read_rows
read-bad n t l ls h = rw h

pub read_unfinished : (n : ℕ) (t : Table) (p : List ℕ) (ls : List Line) → read_rows n t (record { text = p; ended = false } ∷ ls) ≡ malformed n
unfolding bad_row
read_unfinished n t p ls = read-bad n t (record { text = p; ended = false }) ls refl

-- ---- the whole text

pub loaded_large : (s : List ℕ) → longest_table < length s → loaded_from s ≡ malformed 0
unfolding loaded_from
loaded_large s h = rw (lt-ltb longest_table (length s) h)

pub loaded_lines : (s : List ℕ) → length s ≤ longest_table → loaded_from s ≡ read_lines (table_lines s)
unfolding loaded_from
loaded_lines s h = rw (le-ltb longest_table (length s) h)

-- the first line ends at e
read-last : (s : List ℕ) (e : ℕ) → e ≡ 0 + run 10 (drop 0 s) → length s ≤ e → read_lines (table_lines s) ≡ malformed 1
unfolding read_lines table_lines bad_gateway lines_from non_empty
read-last [] e q h = refl
read-last (x ∷ s) e q h = ap read_lines (lines-last (x ∷ s) 0 e q (omega arith) h)

lines-first : (s : List ℕ) (e : ℕ) → e ≡ 0 + run 10 (drop 0 s) → e < length s → table_lines s ≡ line_at s 0 e ∷ lines_from s (e + 1)
unfolding table_lines lines_from non_empty
lines-first [] e q h = absurd (omega arith)
lines-first (x ∷ s) e q h = lines_next (x ∷ s) 0 e q h

-- there is a first line
pub lines-some : (s : List ℕ) → (l : Line) × (ls : List Line) × (table_lines s ≡ l ∷ ls)
unfolding table_lines lines_from non_empty
lines-some [] = (record { text = []; ended = false }, [], refl)
lines-some (x ∷ s) =
    let e = 0 + run 10 (x ∷ s) in
    by_test (ltb e (length (x ∷ s)))
    (λ h. (line_at (x ∷ s) 0 e, lines_from (x ∷ s) (e + 1), lines_next (x ∷ s) 0 e refl (ltb-true e (length (x ∷ s)) h)))
    (λ h. (record { text = x ∷ s; ended = false }, [], lines-last (x ∷ s) 0 e refl (omega arith) (ltb-false e (length (x ∷ s)) h)))

module _ (s : List ℕ) (l : length s ≤ longest_table) (e : ℕ) (q : e ≡ 0 + run 10 (drop 0 s)) where
  pub loaded_last : length s ≤ e → loaded_from s ≡ malformed 1
  loaded_last h = loaded_lines s l ∙ read-last s e q h

  pub loaded_bad : e < length s → accepts 71 longest_gateway_domain (split 9 (between s 0 e)) ≡ false → loaded_from s ≡ malformed 1
  unfolding read_lines bad_gateway is_gateway_line line_at
  loaded_bad h g = loaded_lines s l ∙ rw (lines-first s e q h, g)

  pub loaded_rows : {p : line.Row.Row} → e < length s → RowFound s 0 e 71 longest_gateway_domain p → loaded_from s ≡ read_rows 2 (bare_table (row_at s p)) (lines_from s (e + 1))
  unfolding read_lines bad_gateway is_gateway_line line_at gateway_table bare_table
  loaded_rows h f = loaded_lines s l ∙ rw (lines-first s e q h, f.accepted, f.row)
