-- Laws of a domain that lies under another's: it is a tail of it, and where it does not nothing is asked of the pair; and the rows that the
-- check's loops go over.
-- Assumes nothing.
use mathlib.Core.Path.{◌≡◌, ap, sym, subst, ◌∙◌}
use mathlib.Core.Bool.{true, false}
use mathlib.Core.List.{List}
use Prim.Native.Nat.{ℕ, ◌-◌, ◌<◌}
use borrow.Author.Tests.{ltb-false, ltb-true}
use lib.Dec.{ltb}
use lib.ListN.{length, drop}
use Rattle.chars.proofs.Laws.Lists.{and_left, and_right, by_test}
use Rattle.mailaddr.specs.Domain.{is_domain, parts_of}
use Rattle.table.specs.Table.{Row, Table}
use Rattle.table.specs.Rows.{RowInside, places_at, row_at}
use Rattle.table.specs.declared.line as line
use Rattle.table_load.specs.Tables.{table_of}
use Rattle.table_load.specs.declared.tables as tables
use Rattle.table_lookup.specs.Lookup.{begins}
use Rattle.table_settle.specs.Settle.{left_parts}
use Rattle.table_settle.proofs.Laws.Settle.{left_drop}
use Rattle.soundness.specs.Check.{SecondBack}
use Rattle.soundness.proofs.Laws.Candidates.{second_none, second_short}
use Rattle.soundness.proofs.Laws.Judged.{domain-member, path-domain, path-member, row-length}
use Rattle.soundness_judge.specs.Judge.{RowOf, is_under}

pub under_tail : (d e : List ℕ) → is_under d e ≡ true → begins (parts_of d) (parts_of e) ≡ true
unfolding is_under
under_tail d e h = and_right (ltb (length d) (length e)) (begins (parts_of d) (parts_of e)) h

pub under_longer : (d e : List ℕ) → is_under d e ≡ true → length d < length e
unfolding is_under
under_longer d e h = ltb-true (length d) (length e) (and_left (ltb (length d) (length e)) (begins (parts_of d) (parts_of e)) h)

pub not-under : (t : Table) (r : Row) (d : List ℕ) → is_under r.domain d ≡ false → SecondBack t r d
unfolding is_under
not-under t r d h =
    by_test (ltb (length r.domain) (length d))
    (λ e. second_none t r d (rw e at h))
    (λ e. second_short t r d (ltb-false (length r.domain) (length d) e))

-- the parts of a domain in front of a row's that it lies under
pub parts-before : (s : List ℕ) (p : line.Row.Row) (d : List ℕ) → RowInside s p → is_under (row_at s p).domain d ≡ true
    → drop (length (parts_of (row_at s p).domain)) (parts_of d) ≡ left_parts d (length d - (p.domain_end - p.domain))
parts-before s p d i h =
    left_drop (row_at s p).domain d (under_tail (row_at s p).domain d h) ∙ ap (λ (n : ℕ). left_parts d (length d - n)) (row-length s p i)

-- a row that a loop comes to is one of the table's, and lies in its text
module _ (t : tables.Table.Table) (p : line.Row.Row) (i : ℕ) where
  pub row-of : i < t.loaded.to_domain → p ≡ places_at t.to_domain.now i → RowOf t p
  row-of l e =
      subst (RowOf t) (sym e)
      (record { inside = t.kept.domains.inside.each i l; member = domain-member t.text.now t.to_path.now t.to_domain.now t.loaded i l })

  pub target-domain : i < t.loaded.to_path → p ≡ places_at t.to_path.now i → is_domain (row_at t.text.now p).domain ≡ true
  target-domain l e =
      subst (λ (q : line.Row.Row). is_domain (row_at t.text.now q).domain ≡ true) (sym e)
      (path-domain (table_of t) t.formed (row_at t.text.now (places_at t.to_path.now i)) (path-member t.text.now t.to_path.now t.to_domain.now t.loaded i l))
