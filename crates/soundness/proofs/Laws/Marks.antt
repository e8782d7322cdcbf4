-- Laws of marking the numbers of tokens as the code does it: a token folded, the token at a place of a list, the rows that are left to
-- mark, the first place that is free, and the fresh number.
-- Assumes nothing.
use Rattle.std.proofs.Common.{cond, not, refl}
use Rattle.std.specs.List.{position, position_or_len}
use Rattle.std.specs.Option.{unwrap_or}
use Rattle.std.proofs.lemmas.List.Recursion.{is_position_or_len}
use Rattle.std.proofs.lemmas.List.Sums.{prefix_len-le-length}
use borrow.Author.Tests.{ltb-false}
use lib.Dec.{ltb}
use Rattle.chars.proofs.Laws.Lists.{by_test}
use mathlib.Core.Path.{◌≡◌, sym, ap, ap₂, ◌∙◌}
use mathlib.Core.Bool.{Bool, true, false}
use mathlib.Core.List.{List, [], ◌∷◌, map}
use Prim.Native.Nat.{ℕ, suc, ◌+◌, ◌-◌, ◌≤◌, ◌<◌}
use native.Mathlib.Nat.{sub-zero}
use native.Mathlib.Numerals.{add-one}
use native.Mathlib.Omega.{arith}
use lib.ListN.{length, get_or, set, take, drop, drop_of_length-le, length-map, replicate, get_or-map}
use lib.Seq.{drop-cons}
use Rattle.chars.specs.Case.{fold_case, fold_text}
use Rattle.chars.specs.Class.{between}
use Rattle.mailaddr.specs.Domain.{parts_of}
use Rattle.table.specs.Rows.{places_at, row_at, rows_at, rows_from, table_at}
use Rattle.table.specs.Table as table
use Rattle.table.specs.declared.line.Row.{Row as Places}
use Rattle.table.specs.declared.load.Loaded.{Loaded}
use Rattle.soundness.specs.Folded.{domain_row, fold_tokens, path_row, token_table}
use Rattle.soundness.specs.Labels.{first_free, fresh, label_count, marked, marks, label_number}
use Rattle.soundness.specs.Tokens.{Row, Tok}

-- ---- folded

pub fold_at : (s : List ℕ) (i : ℕ) → get_or (fold_text s) i 0 ≡ fold_case (get_or s i 0)
unfolding fold_text fold_case between
fold_at s i = get_or-map fold_case s i 0

-- ---- the token at a place

module _ (ts : List Tok) (t : Tok) (us : List Tok) (e : ts ≡ t ∷ us) (k : ℕ) where
  pub at_first : k ≡ 0 → get_or ts k [] ≡ t
  at_first h = rw (e, h)

  pub at_later : (k ≡ 0 → ⊥) → get_or ts k [] ≡ get_or us (k - 1) []
  at_later h = let z : k ≡ suc (k - 1) = omega arith in rw e (ap (λ (n : ℕ). get_or (t ∷ us) n []) z)

-- the number of a token that stands from a up to b in a text
pub number_at : (s : List ℕ) (a b n : ℕ) (ts : List Tok) (k : ℕ) → b ≡ a + n → take n (drop a s) ≡ get_or ts k []
    → label_number (fold_text (take (b - a) (drop a s))) ≡ label_number (get_or (fold_tokens ts) k [])
unfolding fold_text
number_at s a b n ts k e h =
    let z : b - a ≡ n = omega arith in
    ap (λ (m : ℕ). label_number (fold_text (take m (drop a s)))) z
    ∙ ap (λ (t : Tok). label_number (fold_text t)) h
    ∙ ap label_number (sym (get_or-map fold_text ts k []))

-- the number of the part at a place of a domain
pub part_number : (t d : List ℕ) (k : ℕ) → t ≡ get_or (parts_of d) k [] → label_number (fold_text t) ≡ label_number (get_or (fold_tokens (parts_of d)) k [])
unfolding fold_text
part_number t d k h = ap label_number (ap fold_text h ∙ sym (get_or-map fold_text (parts_of d) k []))

-- ---- the rows that are left to mark

module _ (f : table.Row → Row) (k : ℕ) (s ns : List ℕ) (n : ℕ) (ms : List Bool) where
  pub marks-all : marked k (map f (rows_at s ns n)) ms ≡ marked k (map f (rows_from s ns 0 (n - 0))) ms
  unfolding rows_at
  marks-all = rw (sub-zero n)

  pub marks-more : (i : ℕ) → i < n → marked k (map f (rows_from s ns i (n - i))) ms
      ≡ marked k (map f (rows_from s ns (i + 1) (n - (i + 1)))) (set ms (label_number (get_or (f (row_at s (places_at ns i))).key k [])) true)
  unfolding rows_from marked
  marks-more i h = let z : n - i ≡ suc (n - (i + 1)) = omega arith in rw (z, add-one i)

  pub marks-end : (i : ℕ) → n ≤ i → marked k (map f (rows_from s ns i (n - i))) ms ≡ ms
  unfolding rows_from marked
  marks-end i h = let z : n - i ≡ 0 = omega arith in rw z

-- ---- the first place that is free

first_position : (ms : List Bool) → first_free ms ≡ position_or_len not ms
unfolding first_free
first_position = is_position_or_len first_free not refl
    (λ m ms. elim m as (λ v. cond v (suc (first_free ms)) 0 ≡ cond (not v) 0 (1 + first_free ms)) [ true ↦ omega arith | false ↦ refl ])

-- the place of the first that is not marked, or the length where all are
pub free_place : (ms : List Bool) → unwrap_or (position not ms) (length ms) ≡ first_free ms
free_place ms =
    let n : ℕ = position_or_len not ms in
    by_test (ltb n (length ms))
    (λ e. rw e (sym (first_position ms)))
    (λ e.
    let l : length ms ≡ n = omega (arith, ltb-false n (length ms) e, prefix_len-le-length (λ m. not (not m)) ms) in
    rw e (l ∙ sym (first_position ms)))

-- ---- the fresh number

-- with all rows marked, the first free place is the row's fresh number
pub free-fresh : (s ds rs : List ℕ) (t : Loaded) (p : Places) (levels parts : ℕ) → levels ≡ length (row_at s p).path → parts ≡ length (parts_of (row_at s p).domain)
    → first_free (marked parts (map path_row (rows_at s ds t.to_path)) (marked levels (map domain_row (rows_at s rs t.to_domain)) (replicate label_count false)))
    ≡ fresh (token_table (table_at s ds rs t)) (domain_row (row_at s p))
unfolding fresh marks table_at
free-fresh s ds rs t p levels parts e f =
    let r = row_at s p in
    let D : List Row = map path_row (rows_at s ds t.to_path) in
    let R : List Row = map domain_row (rows_at s rs t.to_domain) in
    ap₂ (λ (m n : ℕ). first_free (marked n D (marked m R (replicate label_count false))))
    (e ∙ sym (length-map r.path fold_text))
    (f ∙ sym (length-map (parts_of r.domain) fold_text))
