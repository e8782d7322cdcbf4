-- Laws of the table that a list spells: it keeps the rules of "The table text"; no entry behind the 514th matters; and it is the table that a
-- text with the same fields spells.
-- Assumes nothing.
use mathlib.Core.Path.{◌≡◌, refl, sym, ap, ap₂, ◌∙◌}
use mathlib.Core.Bool.{Bool, true, false, ◌||◌, not}
use mathlib.Core.List.{List, [], ◌∷◌, map}
use Prim.Native.Nat.{ℕ, zero, suc, ◌+◌, ◌≤◌, ◌<◌}
use native.Mathlib.Omega.{arith}
use borrow.Author.Tests.{leb-false}
use lib.Dec.{leb}
use lib.ListN.{length, take, length-append}
use Rattle.chars.specs.Lists.{all}
use Rattle.chars.specs.Parts.{join, split}
use Rattle.chars.proofs.Laws.Lists.{and_left, and_right, by_test, or_left, or_right, true_not_false}
use Rattle.chars.proofs.Laws.Parts.{join-split}
use Rattle.chars.proofs.Laws.Seq.{map-take}
use Rattle.rowlist.specs.Entries.{most_entries}
use Rattle.rowlist.specs.declared.RowEntry.{RowEntry}
use Rattle.table.specs.Table.{Table, Token}
use Rattle.table.specs.Lines as lines
use Rattle.table.specs.Lines.{Line, bad_gateway, bad_row, gateway_table, has_tag, is_new_row, loaded_from, longest_table, malformed, most_rows, read_lines, read_rows, row_of, table_lines, well_formed, with_row}
use Rattle.std.specs.Prelude.{Result}
use Rattle.table.specs.declared.load.Loaded.{Loaded}
use Rattle.table.specs.declared.load.Malformed.{Malformed}
use Rattle.table.proofs.Laws.Formed.{lines-formed}
use Rattle.table.proofs.Laws.Lines.{loaded_lines}
use Rattle.table_load.specs.Load.{FormedBy, Loading, Ready}
use Rattle.table_load.proofs.Laws.Ready.{formed-ready}
use Rattle.rowlist_load.specs.Listed.{entry_line, fields_of, listed_from}
use Rattle.rowlist_load.proofs.Laws.Load.{listed_lines}

-- ---- the rules

lines-rules : (ls : List Line) → FormedBy (read_lines ls)
unfolding read_lines
lines-rules [] = tt
lines-rules (l ∷ ls) = by-outcome (read_lines (l ∷ ls)) refl
  where
    by-outcome : (o : lines.TableOutcome) → read_lines (l ∷ ls) ≡ o → FormedBy o
    by-outcome (malformed n) e = tt
    by-outcome (well_formed t) e = lines-formed l ls t e

-- a table that a list spells keeps the rules of "The table text"
pub listed_rules : (s : List ℕ) (es : List RowEntry) → FormedBy (listed_from s es)
unfolding listed_from
listed_rules s es = lines-rules (map (entry_line s) es)

-- so a table that was read from a list is ready for a run
pub listing_ready : (s ds rs : List ℕ) (es : List RowEntry) (r : Result Loaded Malformed) → Loading s (listed_from s es) r ds rs → Ready s ds rs r
listing_ready s ds rs es r h = formed-ready s ds rs r (listed_from s es) h (listed_rules s es)

-- ---- no entry behind the 514th matters: the gateway's, 512 rows, and the first that is one too many

-- how many rows a table has
abbrev row_count : Table → ℕ
row_count t = length t.to_path + length t.to_domain

with_count : (t : Table) (fs : List Token) → row_count (with_row t fs) ≡ suc (row_count t)
unfolding with_row
with_count t fs =
    by_test (has_tag 68 fs)
    (λ e. rw e (omega (arith, length-append t.to_path (row_of fs ∷ []))))
    (λ e. rw e (omega (arith, length-append t.to_domain (row_of fs ∷ []))))

-- a line that is not bad comes after fewer rows than may be
good-few : (t : Table) (l : Line) → bad_row t l ≡ false → row_count t < most_rows
unfolding bad_row
good-few t l b =
    let full : Bool = leb most_rows (row_count t) in
    by_test full
    (λ e. true_not_false (bad_row t l) (or_left (not l.ended || full) (not (is_new_row t (split 9 l.text))) (or_right (not l.ended) full e)) b)
    (λ e. leb-false most_rows (row_count t) e)

-- one line more than there may be rows is enough to see that there are too many
rows-front : (m n : ℕ) (t : Table) (ls : List Line) → row_count t + m ≡ suc most_rows → 1 ≤ m → read_rows n t (take m ls) ≡ read_rows n t ls
unfolding read_rows
rows-front zero n t ls q h = absurd (omega arith)
rows-front (suc m) n t [] q h = refl
rows-front (suc m) n t (l ∷ ls) q h =
    by_test (bad_row t l)
    (λ b. rw b)
    (λ b. rw b (rows-front m (suc n) (with_row t (split 9 l.text)) ls
    (omega (arith, with_count t (split 9 l.text))) (omega (arith, good-few t l b))))

lines-front : (ls : List Line) → read_lines (take most_entries ls) ≡ read_lines ls
unfolding read_lines gateway_table
lines-front [] = refl
lines-front (l ∷ ls) =
    by_test (bad_gateway l)
    (λ b. rw b)
    (λ b. rw b (rows-front 513 2 (gateway_table (split 9 l.text)) ls (omega arith) (omega arith)))

pub listed_front : (s : List ℕ) (es : List RowEntry) → listed_from s (take most_entries es) ≡ listed_from s es
unfolding listed_from
listed_front s es = ap read_lines (map-take (entry_line s) most_entries es) ∙ lines-front (map (entry_line s) es)

-- ---- the same table as a text's

-- the line of fields that has its LF
abbrev line_of : List Token → Line
line_of fs = record { text = join 9 fs; ended = true }

-- lines that have their LF are known by their fields
lines_known : (ls : List Line) → all (λ l. l.ended) ls ≡ true → map line_of (map fields_of ls) ≡ ls
unfolding all
lines_known [] h = refl
lines_known (l ∷ ls) h =
    ap₂ (λ (x : Line) (y : List Line). x ∷ y)
    (ap₂ (λ (x : List ℕ) (b : Bool). record { text = x; ended = b }) (join-split 9 l.text) (sym (and_left l.ended (all (λ k. k.ended) ls) h)))
    (lines_known ls (and_right l.ended (all (λ k. k.ended) ls) h))

-- A list whose entries have the fields of a text's lines, one by one, spells the table that the text spells.
pub same-table : (s table : List ℕ) (es : List RowEntry) → length table ≤ longest_table
    → all (λ l. l.ended) (map (entry_line s) es) ≡ true → all (λ l. l.ended) (table_lines table) ≡ true
    → map fields_of (map (entry_line s) es) ≡ map fields_of (table_lines table) → listed_from s es ≡ loaded_from table
same-table s table es m e f h =
    let same : map (entry_line s) es ≡ table_lines table = sym (lines_known (map (entry_line s) es) e) ∙ ap (map line_of) h ∙ lines_known (table_lines table) f in
    listed_lines s es ∙ ap read_lines same ∙ sym (loaded_lines table m)
