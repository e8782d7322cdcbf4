-- Laws of loading a list: an entry added to the rows before it, what a loop over the entries has left, and the whole list.
-- Assumes nothing.
use mathlib.Core.Path.{◌≡◌, refl, sym, ap, ap₂, ◌∙◌}
use mathlib.Core.Bool.{Bool, true, false, ◌&&◌, ◌||◌, not}
use mathlib.Core.List.{List, [], ◌∷◌, map}
use Prim.Native.Nat.{ℕ, zero, suc, ◌+◌, ◌-◌, ◌*◌, ◌≤◌, ◌<◌}
use native.Mathlib.Omega.{arith}
use lib.ListN.{length}
use Rattle.chars.specs.Parts.{split}
use Rattle.chars.proofs.Laws.Lists.{and_left, and_right, by_test, one_less}
use Rattle.rowlist.specs.Entries.{entries_from, entries_of, entry_at}
use Rattle.rowlist.specs.declared.RowEntry.{RowEntry}
use Rattle.table.specs.Table.{Table, Token}
use Rattle.table.specs.Lines.{Line, bad_gateway, bad_row, gateway_table, has_tag, is_gateway_line, is_row, longest_gateway_domain, longest_row_domain, malformed, most_rows, read_lines, read_rows, row_of}
use Rattle.table.specs.Rows.{RowInside, bare_table, row_at, rows_at, rows_from, rows_size, table_at}
use Rattle.table.specs.declared.line as line
use Rattle.table.specs.declared.load as loaded
use Rattle.std.specs.Prelude.{Option, Ok}
use Rattle.table.specs.declared.rows.Key.TheVariants.{Domain, Path}
use Rattle.table.proofs.Laws.Lines.{accepts, read-bad, read-good}
use Rattle.table_order.proofs.Laws.Insert.{sorted_none}
use Rattle.table_load.specs.Load.{Adding, Joined, Joining, Kept, Loading, load_answer}
use Rattle.table_load.proofs.Laws.Load.{adding, bad_neither, bad-unended}
use Rattle.rowlist_load.specs.Listed.{EntryFound, entry_line, is_entry, listed_from}

-- ---- an entry added

module _ (s : List ℕ) (e : RowEntry) where
  -- an entry of a kind has a line, and the line is a row with its tag
  pub entry_ended : (kind most : ℕ) → is_entry s e kind most ≡ true → (entry_line s e).ended ≡ true
  unfolding is_entry
  entry_ended kind most h =
      let fs : List Token = split 9 (entry_line s e).text in
      and_left (entry_line s e).ended (has_tag kind fs && is_row most (row_of fs)) h

  pub entry_accepts : (kind most : ℕ) → is_entry s e kind most ≡ true → accepts kind most (split 9 (entry_line s e).text) ≡ true
  unfolding is_entry
  entry_accepts kind most h =
      let fs : List Token = split 9 (entry_line s e).text in
      and_right (entry_line s e).ended (has_tag kind fs && is_row most (row_of fs)) h

  -- where it has a line and is none of the kind, the line is none either
  pub entry_refuses : (kind most : ℕ) → (entry_line s e).ended ≡ true → is_entry s e kind most ≡ false
      → accepts kind most (split 9 (entry_line s e).text) ≡ false
  unfolding is_entry
  entry_refuses kind most t h =
      let fs : List Token = split 9 (entry_line s e).text in
      sym (ap (λ (b : Bool). b && (has_tag kind fs && is_row most (row_of fs))) t) ∙ h

  module _ (ds rs : List ℕ) (t : loaded.Loaded.Loaded) (h : t.to_path + t.to_domain < most_rows) where
    pub entry_neither : is_entry s e 68 longest_row_domain ≡ false → is_entry s e 82 longest_row_domain ≡ false
        → bad_row (table_at s ds rs t) (entry_line s e) ≡ true
    entry_neither f g =
        by_test (entry_line s e).ended
        (λ i. bad_neither s ds rs t (entry_line s e) h i (entry_refuses 68 longest_row_domain i f) (entry_refuses 82 longest_row_domain i g))
        (λ i. bad-unended s ds rs t (entry_line s e) i)

    -- a row to a path, and one to a domain, which is asked for second
    pub entry_domain : {p : line.Row.Row} → EntryFound s e 68 longest_row_domain p → (r : Option loaded.Loaded.Loaded) (ds' rs' : List ℕ)
        → Joining s (table_at s ds rs t) Domain (row_at s p) r ds' rs' → Adding s (table_at s ds rs t) (entry_line s e) r ds' rs'
    entry_domain {p} f r ds' rs' j =
        adding s ds rs t (entry_line s e) h (entry_ended 68 longest_row_domain f.accepted) Domain p tt (entry_accepts 68 longest_row_domain f.accepted) f.row r ds' rs' j

    pub entry_path : {p : line.Row.Row} → is_entry s e 68 longest_row_domain ≡ false → EntryFound s e 82 longest_row_domain p
        → (r : Option loaded.Loaded.Loaded) (ds' rs' : List ℕ)
        → Joining s (table_at s ds rs t) Path (row_at s p) r ds' rs' → Adding s (table_at s ds rs t) (entry_line s e) r ds' rs'
    entry_path {p} n f r ds' rs' j =
        let i = entry_ended 82 longest_row_domain f.accepted in
        adding s ds rs t (entry_line s e) h i Path p (entry_refuses 68 longest_row_domain i n) (entry_accepts 82 longest_row_domain f.accepted) f.row r ds' rs' j

-- ---- the loop over the entries

pub entries-first : (ns : List ℕ) (k n : ℕ) → 1 ≤ n → entries_from ns k n ≡ entry_at ns k ∷ entries_from ns (k + 5) (n - 1)
unfolding entries_from
entries-first ns k zero h = absurd (omega arith)
entries-first ns k (suc n) h = ap (λ (m : ℕ). entry_at ns k ∷ entries_from ns (k + 5) m) (sym (one_less n))

-- the lines of the entries from number i on, of n
abbrev pub lines_left : List ℕ → List ℕ → ℕ → ℕ → List Line
lines_left s ns n i = map (entry_line s) (entries_from ns (i * 5) (n - i))

pub lines-first : (s ns : List ℕ) (n i : ℕ) → i < n → lines_left s ns n i ≡ entry_line s (entry_at ns (i * 5)) ∷ lines_left s ns n (i + 1)
lines-first s ns n i h =
    let k : i * 5 + 5 ≡ (i + 1) * 5 = omega arith in
    let m : n - i - 1 ≡ n - (i + 1) = omega arith in
    ap (map (entry_line s)) (entries-first ns (i * 5) (n - i) (omega arith))
    ∙ ap₂ (λ (x : ℕ) (y : ℕ). entry_line s (entry_at ns (i * 5)) ∷ map (entry_line s) (entries_from ns x y)) k m

pub lines_none : (s ns : List ℕ) (n i : ℕ) → n ≤ i → lines_left s ns n i ≡ []
unfolding entries_from
lines_none s ns n i h =
    let z : n - i ≡ 0 = omega arith in
    ap (λ (m : ℕ). map (entry_line s) (entries_from ns (i * 5) m)) z

-- How far a loop has come that reads the entries behind the gateway's: what is left, with the lists as they are, and the entry's number.
pub record Listing (s ns : List ℕ) (n : ℕ) (start : Table) (ds rs : List ℕ) (t : loaded.Loaded.Loaded) (i : ℕ) : Type 0 where
  pub left : read_rows 2 start (map (entry_line s) (entries_from ns 5 (n - 1))) ≡ read_rows (i + 1) (table_at s ds rs t) (lines_left s ns n i)
  pub kept : Kept s ds rs t
  pub within : i ≤ n

pub listing_start : (s ns : List ℕ) (n : ℕ) (ds rs : List ℕ) (g : line.Row.Row) → 1 ≤ n → length ds ≡ rows_size → length rs ≡ rows_size → RowInside s g
    → Listing s ns n (bare_table (row_at s g)) ds rs (record { gateway = g; to_path = 0; to_domain = 0 }) 1
unfolding bare_table table_at rows_at rows_from
listing_start s ns n ds rs g h d r i =
    record {
      left = refl;
      kept =
          record { gateway = i; paths = sorted_none Domain s ds d; domains = sorted_none Path s rs r; most = omega arith };
      within = h;
    }

module _ {s ns : List ℕ} {n : ℕ} {start : Table} {ds rs : List ℕ} {t : loaded.Loaded.Loaded} {i : ℕ} (p : Listing s ns n start ds rs t i) where
  pub listing_end : n ≤ i → Loading s (read_rows 2 start (map (entry_line s) (entries_from ns 5 (n - 1)))) (Ok t) ds rs
  unfolding read_rows load_answer
  listing_end h = record { answers = sym (p.left ∙ rw (lines_none s ns n i h)); kept = p.kept }

  -- e is entry i
  module _ (e : RowEntry) (q : e ≡ entry_at ns (i * 5)) (h : i < n) where
    next : read_rows 2 start (map (entry_line s) (entries_from ns 5 (n - 1)))
        ≡ read_rows (i + 1) (table_at s ds rs t) (entry_line s e ∷ lines_left s ns n (i + 1))
    next =
        p.left
        ∙ ap (read_rows (i + 1) (table_at s ds rs t))
        (lines-first s ns n i h ∙ ap (λ (f : RowEntry). entry_line s f ∷ lines_left s ns n (i + 1)) (sym q))

    pub listing_bad : bad_row (table_at s ds rs t) (entry_line s e) ≡ true
        → read_rows 2 start (map (entry_line s) (entries_from ns 5 (n - 1))) ≡ malformed (i + 1)
    listing_bad b = next ∙ read-bad (i + 1) (table_at s ds rs t) (entry_line s e) (lines_left s ns n (i + 1)) b

    pub listing_step : {ds' rs' : List ℕ} {t' : loaded.Loaded.Loaded} → Joined s (table_at s ds rs t) (entry_line s e) ds' rs' t'
        → Listing s ns n start ds' rs' t' (i + 1)
    listing_step j =
        record {
          left =
              next
              ∙ read-good (i + 1) (table_at s ds rs t) (entry_line s e) (lines_left s ns n (i + 1)) j.good
              ∙ ap (λ (b : Table). read_rows (i + 1 + 1) b (lines_left s ns n (i + 1))) (sym j.table);
          kept = j.kept;
          within = omega arith;
        }

-- ---- the whole list

pub listed_lines : (s : List ℕ) (es : List RowEntry) → listed_from s es ≡ read_lines (map (entry_line s) es)
unfolding listed_from
listed_lines s es = refl

not_both : (a b : Bool) → (not a || not b) ≡ not (a && b)
not_both true b = refl
not_both false b = refl

-- the gateway's line is bad where its entry is none of the gateway's kind
pub gateway_test : (s : List ℕ) (e : RowEntry) → bad_gateway (entry_line s e) ≡ not (is_entry s e 71 longest_gateway_domain)
unfolding bad_gateway is_gateway_line is_entry
gateway_test s e = not_both (entry_line s e).ended (is_gateway_line (split 9 (entry_line s e).text))

module _ (s ns : List ℕ) (n : ℕ) where
  pub listed_none : n ≡ 0 → listed_from s (entries_of ns n) ≡ malformed 1
  unfolding read_lines entries_from
  listed_none z = listed_lines s (entries_of ns n) ∙ ap (λ (m : ℕ). read_lines (map (entry_line s) (entries_from ns 0 m))) z

  -- e is the gateway's entry
  module _ (e : RowEntry) (q : e ≡ entry_at ns 0) (h : 1 ≤ n) where
    listed_first : listed_from s (entries_of ns n) ≡ read_lines (entry_line s e ∷ map (entry_line s) (entries_from ns 5 (n - 1)))
    listed_first =
        listed_lines s (entries_of ns n)
        ∙ ap (λ (es : List RowEntry). read_lines (map (entry_line s) es))
        (entries-first ns 0 n h ∙ ap (λ (f : RowEntry). f ∷ entries_from ns 5 (n - 1)) (sym q))

    pub listed_bad : is_entry s e 71 longest_gateway_domain ≡ false → listed_from s (entries_of ns n) ≡ malformed 1
    unfolding read_lines
    listed_bad b = listed_first ∙ rw (gateway_test s e, b)

    pub listed_rows : {p : line.Row.Row} → EntryFound s e 71 longest_gateway_domain p
        → listed_from s (entries_of ns n) ≡ read_rows 2 (bare_table (row_at s p)) (map (entry_line s) (entries_from ns 5 (n - 1)))
    unfolding read_lines gateway_table bare_table
    listed_rows f = listed_first ∙ rw (gateway_test s e, f.accepted, f.row)
