-- How great the counts of a result can be, under a table whose bad line has a small number: that number, and the length of a text.
-- Assumes nothing.
use Rattle.std.proofs.Common.{Result, Ok, Err}
use mathlib.Core.Path.{◌≡◌, refl}
use mathlib.Core.List.{List, [], ◌∷◌}
use mathlib.Core.Option.{Option, none, some}
use Prim.Native.Nat.{ℕ, suc, ◌+◌, ◌≤◌}
use native.Mathlib.Omega.{arith}
use lib.Dec.{ltb}
use lib.ListN.{length}
use Rattle.chars.specs.Parts.{split}
use Rattle.chars.proofs.Laws.Lists.{by_test}
use Rattle.oraddr.specs.Canonical.{canonical_record}
use Rattle.oraddr.specs.View.{view}
use Rattle.oraddr.specs.declared.record.Record.{Record}
use Rattle.table.specs.Lines.{Line, TableOutcome, bad_gateway, bad_row, gateway_table, malformed, read_lines, read_rows, well_formed, with_row}
use Rattle.table.specs.Table.{Table}
use Rattle.mapping.specs.Carried.{carried_whole, carrying, longest_coded}
use Rattle.mapping.specs.Results.{malformed_address, malformed_record, mapped, placed, refused_address, refused_record}
use Rattle.mapping.specs.ToAddress.{address_of, placed_in, to_address, to_address_by}
use Rattle.mapping.specs.ToRecord.{record_by, to_record, to_record_by}
use Rattle.mapping.proofs.Laws.Short.{address-short}
use Rattle.table_load.specs.Load.{FormedBy}
use Rattle.mailaddr.specs.Answers.{shaping}
use Rattle.mailaddr.specs.Shape.{Address}
use Rattle.mailaddr.specs.declared.shape.AddressFault.{AddressFault}
use Rattle.mailaddr.specs.declared.shape.AddressFault.TheVariants.{NoShape, TooLong}
use Rattle.mailaddr.specs.Code.{coded}
use Rattle.gateway_pack.specs.Packed.{most_count}

-- ---- lines

-- the first bad line is one of so many
abbrev pub NumberedIn : ℕ → TableOutcome → Type 0
NumberedIn m (malformed n) = n ≤ m
NumberedIn m (well_formed t) = Unit {0}

pub numbered_more : (m k : ℕ) (l : TableOutcome) → m ≤ k → NumberedIn m l → NumberedIn k l
numbered_more m k (malformed n) h e = omega arith
numbered_more m k (well_formed t) h e = tt

rows-number : (n : ℕ) (t : Table) (ls : List Line) → NumberedIn (n + length ls) (read_rows n t ls)
unfolding read_rows
rows-number n t [] = tt
rows-number n t (l ∷ ls) =
    let next : Table = with_row t (split 9 l.text) in
    by_test (bad_row t l)
    (λ e. rw e (omega arith))
    (λ e. rw e (numbered_more (suc n + length ls) (n + suc (length ls)) (read_rows (suc n) next ls) (omega arith) (rows-number (suc n) next ls)))

pub lines-number : (ls : List Line) → NumberedIn (2 + length ls) (read_lines ls)
unfolding read_lines
lines-number [] = omega arith
lines-number (l ∷ ls) =
    let first : Table = gateway_table (split 9 l.text) in
    by_test (bad_gateway l)
    (λ e. rw e (omega arith))
    (λ e. rw e (numbered_more (2 + length ls) (2 + suc (length ls)) (read_rows 2 first ls) (omega arith) (rows-number 2 first ls)))

-- a number that is small enough to be packed
abbrev pub Counted : TableOutcome → Type 0
Counted l = NumberedIn most_count l

-- ---- of the results

-- of address to record
by_shape : (t : Table) (s : List ℕ) (x : Result Address AddressFault) → (record_by t s x).line ≡ 0
unfolding record_by refused_record carrying mapped
by_shape t s (Err TooLong) = refl
by_shape t s (Err NoShape) = refl
by_shape t s (Ok a) =
    by_test (carried_whole t a)
    (λ e. by_test (ltb longest_coded (length (coded s))) (λ g. rw (e, g)) (λ g. rw (e, g)))
    (λ e. rw e)

pub record_line_bound : (l : TableOutcome) (s : List ℕ) → Counted l → (to_record_by l s).line ≤ most_count
unfolding to_record_by malformed_record to_record
record_line_bound (malformed n) s h = h
record_line_bound (well_formed t) s h = rw (by_shape t s (shaping s)) (omega arith)

-- of record to address
pub placed-size : (s old : List ℕ) → (placed s old).size ≤ length s
unfolding placed refused_address
placed-size s old = by_test (ltb (length old) (length s)) (λ e. rw e (omega arith)) (λ e. rw e (omega arith))

pub placed-line : (s old : List ℕ) → (placed s old).line ≡ 0
unfolding placed refused_address
placed-line s old = by_test (ltb (length old) (length s)) (λ e. rw e) (λ e. rw e)

module _ (old : List ℕ) where
  by-text : (t : Table) (r : Record) (o : Option (List ℕ)) → ((s : List ℕ) → o ≡ some s → length s ≤ most_count) → ((placed_in old o).size ≤ most_count) × ((placed_in old o).line ≤ most_count)
  unfolding placed_in refused_address
  by-text t r none h = (omega arith, omega arith)
  by-text t r (some s) h = (omega (arith, placed-size s old, h s refl), omega (arith, placed-line s old))

  pub address_bound : (l : TableOutcome) (r : Record) → Counted l → FormedBy l → ((to_address_by l r old).size ≤ most_count) × ((to_address_by l r old).line ≤ most_count)
  unfolding to_address_by malformed_address to_address refused_address
  address_bound (malformed n) r h f = (omega arith, h)
  address_bound (well_formed t) r h f =
      by_test (canonical_record r)
      (λ c. rw c (by-text t r (address_of t (view r)) (λ s e. omega (arith, address-short t f r s c e))))
      (λ c. rw c (omega arith, omega arith))
