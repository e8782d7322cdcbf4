-- Laws of loading: a row added to those of its key, whether a line is bad after the rows before it, how its row joins them, and what a loop
-- over the lines has left.
-- Assumes nothing.
use mathlib.Core.Path.{◌≡◌, refl, sym, ap, ◌∙◌}
use mathlib.Core.Bool.{Bool, true, false, ◌||◌, not}
use mathlib.Core.List.{List, []}
use Prim.Native.Nat.{ℕ, ◌+◌, ◌≤◌, ◌<◌}
use native.Mathlib.Omega.{arith}
use borrow.Author.Tests.{le-leb, lt-leb}
use lib.ListN.{length, drop}
use Rattle.chars.specs.Parts.{run, split}
use Rattle.chars.proofs.Laws.Lists.{and_left, or_left, or_right}
use Rattle.table.specs.Table.{Table, Token}
use Rattle.table.specs.Lines.{Line, TableOutcome, bad_row, has_tag, is_new_row, is_row, longest_row_domain, malformed, most_rows, read_rows, row_of, with_row}
use Rattle.table.specs.Rows.{RowInside, bare_table, line_at, lines_from, row_at, rows_at, rows_from, rows_size, table_at}
use Rattle.table.specs.declared.line as line
use Rattle.table.specs.declared.load as loaded
use Rattle.table.specs.declared.rows.Key.{Key}
use Rattle.table.specs.declared.rows.Key.TheVariants.{Domain, Path}
use Rattle.table.proofs.Laws.Lines.{accepts, lines-last, lines_next, lines_none, new-domain, new_neither, new-path, no_domain, read-bad, read-good, read_unfinished}
use Rattle.table.proofs.Laws.Rows.{length-rows}
use Rattle.table_order.specs.Insert.{Inserting}
use Rattle.table_order.proofs.Laws.Insert.{sorted_none}
use Rattle.table_load.specs.Load.{Adding, Joined, Joining, Kept, Loading, is_new_in, load_answer, with_keyed}
use Rattle.std.specs.Prelude.{Option, Some, None, Ok, Err}
use Rattle.std.specs.Bool.{then_some}

-- ---- a row with its key

module _ (s ds rs : List ℕ) (t : loaded.Loaded.Loaded) (k : Kept s ds rs t) (h : t.to_path + t.to_domain < most_rows) (p : line.Row.Row) where
  pub joining-domain : (new : Bool) {ms : List ℕ} → Inserting Domain s ds t.to_path p new ms
      → Joining s (table_at s ds rs t) Domain (row_at s p) (then_some new (record { gateway = t.gateway; to_path = t.to_path + 1; to_domain = t.to_domain })) ms rs
  unfolding table_at
  joining-domain true i =
      record {
        new = sym i.answers;
        table = rw (i.joins refl).rows;
        kept = record { gateway = k.gateway; paths = (i.joins refl).sorted; domains = k.domains; most = omega arith };
      }
  joining-domain false i = sym i.answers

  pub joining-path : (new : Bool) {ms : List ℕ} → Inserting Path s rs t.to_domain p new ms
      → Joining s (table_at s ds rs t) Path (row_at s p) (then_some new (record { gateway = t.gateway; to_path = t.to_path; to_domain = t.to_domain + 1 })) ds ms
  unfolding table_at
  joining-path true i =
      record {
        new = sym i.answers;
        table = rw (i.joins refl).rows;
        kept = record { gateway = k.gateway; paths = k.paths; domains = (i.joins refl).sorted; most = omega arith };
      }
  joining-path false i = sym i.answers

-- ---- a row by its tag

-- the fields of a line, or of an entry, are a row with the tag of a key
abbrev pub tag_of : Key → ℕ
tag_of Domain = 68
tag_of Path = 82

-- it is asked for as a row to a domain where it is no row to a path
abbrev pub Asked : Key → List Token → Type 0
Asked Domain fs = Unit {0}
Asked Path fs = accepts 68 longest_row_domain fs ≡ false

module _ (t : Table) (fs : List Token) where
  -- it is a new row where its key is new, and joins those of its key
  pub new_keyed : (k : Key) → Asked k fs → accepts (tag_of k) longest_row_domain fs ≡ true → is_new_row t fs ≡ is_new_in t k (row_of fs)
  new_keyed Domain n h = new-domain t fs h
  new_keyed Path n h = new-path t fs n h

  pub with_keyed_lem : (k : Key) → Asked k fs → accepts (tag_of k) longest_row_domain fs ≡ true → with_row t fs ≡ with_keyed t k (row_of fs)
  unfolding with_row
  with_keyed_lem Domain n h = rw (and_left (has_tag 68 fs) (is_row longest_row_domain (row_of fs)) h)
  with_keyed_lem Path n h = rw (no_domain fs n h)

-- ---- a line added

module _ (s ds rs : List ℕ) (t : loaded.Loaded.Loaded) (l : Line) where
  -- there are as many rows as may be
  pub bad-full : most_rows ≤ t.to_path + t.to_domain → bad_row (table_at s ds rs t) l ≡ true
  unfolding bad_row table_at
  bad-full h =
      rw (length-rows s ds t.to_path, length-rows s rs t.to_domain, le-leb most_rows (t.to_path + t.to_domain) h)
      (or_left (not l.ended || true) (not (is_new_row (table_at s ds rs t) (split 9 l.text))) (or_right (not l.ended) true refl))

  -- it has no LF
  pub bad-unended : l.ended ≡ false → bad_row (table_at s ds rs t) l ≡ true
  unfolding bad_row
  bad-unended h = rw h

  module _ (h : t.to_path + t.to_domain < most_rows) (e : l.ended ≡ true) where
    bad-new : bad_row (table_at s ds rs t) l ≡ not (is_new_row (table_at s ds rs t) (split 9 l.text))
    unfolding bad_row table_at
    bad-new = rw (e, length-rows s ds t.to_path, length-rows s rs t.to_domain, lt-leb most_rows (t.to_path + t.to_domain) h)

    pub bad_neither : accepts 68 longest_row_domain (split 9 l.text) ≡ false → accepts 82 longest_row_domain (split 9 l.text) ≡ false
        → bad_row (table_at s ds rs t) l ≡ true
    bad_neither g i = bad-new ∙ ap not (new_neither (table_at s ds rs t) (split 9 l.text) g i)

    -- the row joins those of its key where that is new, and the line is bad where it is not
    pub adding : (k : Key) (p : line.Row.Row) → Asked k (split 9 l.text) → accepts (tag_of k) longest_row_domain (split 9 l.text) ≡ true
        → row_at s p ≡ row_of (split 9 l.text) → (r : Option loaded.Loaded.Loaded) (ds' rs' : List ℕ)
        → Joining s (table_at s ds rs t) k (row_at s p) r ds' rs' → Adding s (table_at s ds rs t) l r ds' rs'
    adding k p n f g (Some u) ds' rs' j =
        let fs = split 9 l.text in
        let before = table_at s ds rs t in
        record {
          good = bad-new ∙ ap not (new_keyed before fs k n f ∙ ap (is_new_in before k) (sym g) ∙ j.new);
          table = j.table ∙ ap (with_keyed before k) g ∙ sym (with_keyed_lem before fs k n f);
          kept = j.kept;
        }
    adding k p n f g None ds' rs' j =
        let fs = split 9 l.text in
        let before = table_at s ds rs t in
        bad-new ∙ ap not (new_keyed before fs k n f ∙ ap (is_new_in before k) (sym g) ∙ j)

-- the answer that a line is bad
pub refused : {s ds rs : List ℕ} {l : TableOutcome} {n : ℕ} → l ≡ malformed n → Loading s l (Err (record { line = n })) ds rs
unfolding load_answer
refused e = record { answers = sym e; kept = tt }

-- ---- the loop over the lines

-- How far a loop has come that reads the rows from a place on, after those of a table: what is left, with the lists as they are, the place
-- and the number of the line.
pub record Progress (s : List ℕ) (start : Table) (from : ℕ) (ds rs : List ℕ) (t : loaded.Loaded.Loaded) (at line : ℕ) : Type 0 where
  pub left : read_rows 2 start (lines_from s from) ≡ read_rows line (table_at s ds rs t) (lines_from s at)
  pub kept : Kept s ds rs t
  pub within : at ≤ length s
  pub counts : line ≤ at + 2

pub progress_start : (s ds rs : List ℕ) (g : line.Row.Row) (from : ℕ) → length ds ≡ rows_size → length rs ≡ rows_size → RowInside s g → from ≤ length s
    → Progress s (bare_table (row_at s g)) from ds rs (record { gateway = g; to_path = 0; to_domain = 0 }) from 2
unfolding bare_table table_at rows_at rows_from
progress_start s ds rs g from d r i h =
    record {
      left = refl;
      kept =
          record { gateway = i; paths = sorted_none Domain s ds d; domains = sorted_none Path s rs r; most = omega arith };
      within = h;
      counts = omega arith;
    }

module _ {s : List ℕ} {start : Table} {from : ℕ} {ds rs : List ℕ} {t : loaded.Loaded.Loaded} {at line : ℕ} (p : Progress s start from ds rs t at line) where
  pub progress_end : length s ≤ at → Loading s (read_rows 2 start (lines_from s from)) (Ok t) ds rs
  unfolding read_rows load_answer
  progress_end h = record { answers = sym (p.left ∙ rw (lines_none s at h)); kept = p.kept }

  module _ (e : ℕ) (q : e ≡ at + run 10 (drop at s)) where
    pub progress_last : at < length s → length s ≤ e → read_rows 2 start (lines_from s from) ≡ malformed line
    progress_last l h = p.left ∙ rw (lines-last s at e q l h) (read_unfinished line (table_at s ds rs t) (drop at s) [])

    pub progress_bad : e < length s → bad_row (table_at s ds rs t) (line_at s at e) ≡ true → read_rows 2 start (lines_from s from) ≡ malformed line
    progress_bad h b = p.left ∙ rw (lines_next s at e q h) (read-bad line (table_at s ds rs t) (line_at s at e) (lines_from s (e + 1)) b)

    pub progress_step : {ds' rs' : List ℕ} {t' : loaded.Loaded.Loaded} → e < length s → Joined s (table_at s ds rs t) (line_at s at e) ds' rs' t'
        → Progress s start from ds' rs' t' (e + 1) (line + 1)
    unfolding line_at
    progress_step h j =
        record {
          left =
              p.left
              ∙ rw (lines_next s at e q h) (read-good line (table_at s ds rs t) (line_at s at e) (lines_from s (e + 1)) j.good)
              ∙ ap (λ (b : Table). read_rows (line + 1) b (lines_from s (e + 1))) (sym j.table);
          kept = j.kept;
          within = omega arith;
          counts = omega arith;
        }
