-- A text of the right size is malformed at the number of its first bad line, and at no other number, and is well-formed where no line is
-- bad, and nowhere else; a larger one is malformed at 0.
-- Assumes nothing.
use mathlib.Core.Path.{◌≡◌, refl, sym, ap, ◌∙◌}
use mathlib.Core.Logic.{◌⊎◌, inl, inr}
use mathlib.Core.Bool.{true, false}
use mathlib.Core.List.{List, [], ◌∷◌, ◌++◌}
use Prim.Native.Nat.{ℕ, suc, ◌+◌, ◌≤◌, ◌<◌}
use native.Mathlib.Nat.{add-zero}
use native.Mathlib.Omega.{arith}
use borrow.Author.Tests.{ltb-false, ltb-true}
use lib.Dec.{ltb}
use lib.ListN.{length}
use Rattle.chars.specs.Parts.{split}
use Rattle.chars.proofs.Laws.Lists.{by_test}
use Rattle.table.specs.Table.{Table}
use Rattle.table.specs.Lines.{Line, bad_gateway, bad_row, gateway_table, loaded_from, longest_table, malformed, read_lines, read_rows, table_lines, well_formed, with_row}
use Rattle.table.specs.FirstBad.{FirstBad, NoneBad, is_bad, table_after}
use Rattle.table.proofs.Laws.Lines.{lines-some, loaded_large, loaded_lines}

-- ---- the rows, after those of a table

-- none of the lines is a bad row after those before it
abbrev NoneBadAfter : Table → List Line → Type 0
NoneBadAfter t ls = (before : List Line) (l : Line) (rest : List Line) → ls ≡ before ++ l ∷ rest → bad_row (table_after t before) l ≡ false

none-empty : (t : Table) → NoneBadAfter t []
none-empty t [] l rest e = let z : ◌≡◌ {A = ℕ} 0 1 = cc in absurd (omega arith)
none-empty t (m ∷ before) l rest e = let z : ◌≡◌ {A = ℕ} 0 1 = cc in absurd (omega arith)

none_more : (t : Table) (m : Line) (ls : List Line) → bad_row t m ≡ false → NoneBadAfter (with_row t (split 9 m.text)) ls → NoneBadAfter t (m ∷ ls)
unfolding table_after
none_more t m ls b f [] l rest e = let q : l ≡ m = cc in rw q b
none_more t m ls b f (x ∷ before) l rest e = let q : x ≡ m = cc in rw q (f before l rest (cc))

none_first : (t : Table) (m : Line) (ls : List Line) → NoneBadAfter t (m ∷ ls) → bad_row t m ≡ false
unfolding table_after
none_first t m ls f = f [] m ls refl

none_rest : (t : Table) (m : Line) (ls : List Line) → NoneBadAfter t (m ∷ ls) → NoneBadAfter (with_row t (split 9 m.text)) ls
unfolding table_after
none_rest t m ls f before l rest e = f (m ∷ before) l rest (ap (λ (k : List Line). m ∷ k) e)

rows_none : (n : ℕ) (t : Table) (ls : List Line) → NoneBadAfter t ls → read_rows n t ls ≡ well_formed (table_after t ls)
unfolding read_rows table_after
rows_none n t [] f = refl
rows_none n t (l ∷ ls) f = rw (none_first t l ls f) (rows_none (suc n) (with_row t (split 9 l.text)) ls (none_rest t l ls f))

none_rows : (n : ℕ) (t u : Table) (ls : List Line) → read_rows n t ls ≡ well_formed u → NoneBadAfter t ls
unfolding read_rows
none_rows n t u [] h = none-empty t
none_rows n t u (l ∷ ls) h =
    by_test (bad_row t l)
    (λ b. let g : malformed n ≡ well_formed u = rw b at h in let z : ◌≡◌ {A = ℕ} 0 1 = cc in absurd (omega arith))
    (λ b. none_more t l ls b (none_rows (suc n) (with_row t (split 9 l.text)) u ls (rw b at h)))

-- the first bad row
record FirstAfter (t : Table) (ls : List Line) (n m : ℕ) : Type 0 where
  before : List Line
  line : Line
  rest : List Line
  lines : ls ≡ before ++ line ∷ rest
  number : m ≡ n + length before
  bad : bad_row (table_after t before) line ≡ true
  none : NoneBadAfter t before

rows-first : (n m : ℕ) (t : Table) (ls : List Line) → read_rows n t ls ≡ malformed m → FirstAfter t ls n m
unfolding read_rows table_after
rows-first n m t [] h = let z : ◌≡◌ {A = ℕ} 0 1 = cc in absurd (omega arith)
rows-first n m t (l ∷ ls) h =
    by_test (bad_row t l)
    (λ b. let g : malformed n ≡ malformed m = rw b at h in
    let q : m ≡ n = cc in
    record { before = []; line = l; rest = ls; lines = refl; number = q ∙ sym (add-zero n); bad = b; none = none-empty t })
    (λ b. let f = rows-first (suc n) m (with_row t (split 9 l.text)) ls (rw b at h) in
    record {
      before = l ∷ f.before;
      line = f.line;
      rest = f.rest;
      lines = ap (λ (k : List Line). l ∷ k) f.lines;
      number = omega (arith, f.number);
      bad = f.bad;
      none = none_more t l f.before b f.none;
    })

first_rows : (n : ℕ) (t : Table) (before : List Line) (l : Line) (rest : List Line) → NoneBadAfter t before → bad_row (table_after t before) l ≡ true
    → read_rows n t (before ++ l ∷ rest) ≡ malformed (n + length before)
unfolding read_rows table_after
first_rows n t [] l rest f b = rw (b, add-zero)
first_rows n t (m ∷ before) l rest f b =
    rw (none_first t m before f)
    (first_rows (suc n) (with_row t (split 9 m.text)) before l rest (none_rest t m before f) b ∙ ap malformed (omega arith))

-- ---- the lines of a text

-- none of the lines behind the gateway's is bad, and it is not
none-lines : (g : Line) (ls : List Line) → bad_gateway g ≡ false → NoneBadAfter (gateway_table (split 9 g.text)) ls → NoneBad (g ∷ ls)
unfolding is_bad
none-lines g ls b f [] l rest e = let q : l ≡ g = cc in rw q b
none-lines g ls b f (x ∷ before) l rest e = let q : x ≡ g = cc in rw q (f before l rest (cc))

none_after : (g : Line) (ls : List Line) → NoneBad (g ∷ ls) → NoneBadAfter (gateway_table (split 9 g.text)) ls
unfolding is_bad
none_after g ls f before l rest e = f (g ∷ before) l rest (ap (λ (k : List Line). g ∷ k) e)

none-gateway : (g : Line) (ls : List Line) → NoneBad (g ∷ ls) → bad_gateway g ≡ false
unfolding is_bad
none-gateway g ls f = f [] g ls refl

pub lines-none-bad : (g : Line) (ls : List Line) → NoneBad (g ∷ ls) → read_lines (g ∷ ls) ≡ well_formed (table_after (gateway_table (split 9 g.text)) ls)
unfolding read_lines
lines-none-bad g ls f = rw (none-gateway g ls f) (rows_none 2 (gateway_table (split 9 g.text)) ls (none_after g ls f))

pub none-bad-lines : (g : Line) (ls : List Line) (u : Table) → read_lines (g ∷ ls) ≡ well_formed u → NoneBad (g ∷ ls)
unfolding read_lines
none-bad-lines g ls u h =
    by_test (bad_gateway g)
    (λ b. let q : malformed 1 ≡ well_formed u = rw b at h in let z : ◌≡◌ {A = ℕ} 0 1 = cc in absurd (omega arith))
    (λ b. none-lines g ls b (none_rows 2 (gateway_table (split 9 g.text)) u ls (rw b at h)))

pub lines-first-bad : (g : Line) (ls : List Line) (n : ℕ) → read_lines (g ∷ ls) ≡ malformed n → FirstBad (g ∷ ls) n
unfolding read_lines is_bad
lines-first-bad g ls n h =
    by_test (bad_gateway g)
    (λ b. let q : malformed 1 ≡ malformed n = rw b at h in
    let m : n ≡ 1 = cc in
    record { before = []; line = g; rest = ls; lines = refl; number = m; bad = b; none = none-nothing })
    (λ b. let f = rows-first 2 n (gateway_table (split 9 g.text)) ls (rw b at h) in
    record {
      before = g ∷ f.before;
      line = f.line;
      rest = f.rest;
      lines = ap (λ (k : List Line). g ∷ k) f.lines;
      number = omega (arith, f.number);
      bad = f.bad;
      none = none-lines g f.before b f.none;
    })
  where
    none-nothing : NoneBad []
    none-nothing [] l rest e = let z : ◌≡◌ {A = ℕ} 0 1 = cc in absurd (omega arith)
    none-nothing (m ∷ before) l rest e = let z : ◌≡◌ {A = ℕ} 0 1 = cc in absurd (omega arith)

pub first-bad-lines : (before : List Line) (l : Line) (rest : List Line) → NoneBad before → is_bad before l ≡ true
    → read_lines (before ++ l ∷ rest) ≡ malformed (suc (length before))
unfolding read_lines is_bad
first-bad-lines [] l rest f b = rw b
first-bad-lines (g ∷ before) l rest f b =
    rw (none-gateway g before f)
    (first_rows 2 (gateway_table (split 9 g.text)) before l rest (none_after g before f) b ∙ ap malformed (omega arith))

-- ---- the theorems

-- a malformed text is too large, at 0, or its first bad line has the number
pub first-bad : (s : List ℕ) (n : ℕ) → loaded_from s ≡ malformed n → ((longest_table < length s) × (n ≡ 0)) ⊎ ((length s ≤ longest_table) × FirstBad (table_lines s) n)
first-bad s n h =
    by_test (ltb longest_table (length s))
    (λ e. let l = ltb-true longest_table (length s) e in
    let q : malformed n ≡ malformed 0 = sym h ∙ loaded_large s l in
    inl (l, (cc)))
    (λ e. let l = ltb-false longest_table (length s) e in
    let f = lines-some s in
    let q : table_lines s ≡ f.0 ∷ f.1 = f.2 in
    inr (l, rw q (lines-first-bad f.0 f.1 n (sym (ap read_lines q) ∙ sym (loaded_lines s l) ∙ h))))

-- and where a line of a text of the right size is the first bad one, the text is malformed at its number
pub bad-first : (s : List ℕ) (n : ℕ) → length s ≤ longest_table → FirstBad (table_lines s) n → loaded_from s ≡ malformed n
bad-first s n l f =
    loaded_lines s l
    ∙ ap read_lines f.lines
    ∙ first-bad-lines f.before f.line f.rest f.none f.bad
    ∙ ap malformed (sym f.number)

-- a text is well-formed where it is of the right size and no line is bad
pub well_formed_lem : (s : List ℕ) (t : Table) → loaded_from s ≡ well_formed t → (length s ≤ longest_table) × NoneBad (table_lines s)
well_formed_lem s t h =
    by_test (ltb longest_table (length s))
    (λ e. let q : malformed 0 ≡ well_formed t = sym (loaded_large s (ltb-true longest_table (length s) e)) ∙ h in
    let z : ◌≡◌ {A = ℕ} 0 1 = cc in absurd (omega arith))
    (λ e. let l = ltb-false longest_table (length s) e in
    let f = lines-some s in
    let q : table_lines s ≡ f.0 ∷ f.1 = f.2 in
    (l, rw q (none-bad-lines f.0 f.1 t (sym (ap read_lines q) ∙ sym (loaded_lines s l) ∙ h))))

pub formed_well : (s : List ℕ) → length s ≤ longest_table → NoneBad (table_lines s) → (t : Table) × (loaded_from s ≡ well_formed t)
formed_well s l g =
    let f = lines-some s in
    let q : table_lines s ≡ f.0 ∷ f.1 = f.2 in
    let none : NoneBad (f.0 ∷ f.1) = rw q at g in
    (table_after (gateway_table (split 9 f.0.text)) f.1, loaded_lines s l ∙ ap read_lines q ∙ lines-none-bad f.0 f.1 none)
