-- Laws of the four steps as the code takes them: what they come to by the domain, by what it settles, and by what was read.
-- Assumes nothing.
use mathlib.Core.Path.{◌≡◌, refl, sym, ap, ◌∙◌}
use mathlib.Core.Bool.{true, false}
use mathlib.Core.List.{List}
use Prim.Native.Nat.{ℕ}
use Rattle.chars.proofs.Laws.Lists.{by_test}
use Rattle.oraddr.specs.declared.record.Record.{Record}
use Rattle.std.specs.Prelude.{Ok, Err}
use Rattle.oraddr.specs.Canonical.{canonical_record}
use Rattle.ortext_read.specs.Answers.{fault_reading}
use Rattle.ortext_read.specs.Apply.{read, unread}
use Rattle.ortext_read.specs.declared.read.TextFault.{TextFault}
use Rattle.ortext_read.specs.declared.read.TextFault.TheVariants.{Again, Refused, Unread}
use Rattle.mailaddr.specs.Domain.{is_domain}
use Rattle.mailaddr.specs.Shape.{Address, is_readable, unquoted_local}
use Rattle.table.specs.Table.{Table}
use Rattle.table_settle.specs.Settle.{Settling, no_row, past_bound, past_units, settled, settlement_answer}
use Rattle.table_settle.specs.declared.settle.Unsettled.{Unsettled}
use Rattle.table_settle.specs.declared.settle.Unsettled.TheVariants.{NoRow, PastUnits, PastBound}
use Rattle.mapping.specs.Answers.{is_good, read_settled, read_well}
use Rattle.mapping.specs.Carried.{carrying, read_over, result_of, settled_under}
use Rattle.mapping.specs.Results.{mapped}
use Rattle.mapping.specs.ToRecord.{record_by, record_in}
use Rattle.mapping.proofs.Laws.Carried.{carried_is, good_result}

-- what was not read is no canonical record
pub fault-not_good : (f : TextFault) → is_good (fault_reading f) ≡ false
unfolding is_good fault_reading
fault-not_good Unread = refl
fault-not_good Refused = refl
fault-not_good Again = refl

module _ (t : Table) (a : Address) where
  -- the domain has another part
  pub well_other : is_domain a.domain ≡ false → read_well t a ≡ unread
  unfolding read_well
  well_other h = rw h

  module _ (d : is_domain a.domain ≡ true) where
    -- it settles nothing
    unsettled_unread : (st : Settling) → settled_under t a.domain ≡ st → read_over st (unquoted_local a) ≡ unread → read_well t a ≡ unread
    unfolding read_well result_of
    unsettled_unread st e u = by_test (is_readable (unquoted_local a)) (λ q. rw (d, q, e, u)) (λ q. rw (d, q))

    pub well_unsettled : (u : Unsettled) → settled_under t a.domain ≡ settlement_answer (Err u) → read_well t a ≡ unread
    unfolding read_over
    well_unsettled NoRow e = unsettled_unread no_row e refl
    well_unsettled PastUnits e = unsettled_unread past_units e refl
    well_unsettled PastBound e = unsettled_unread past_bound e refl

    -- it settles n levels
    pub well_settled : (n : ℕ) (r : Record) → settled_under t a.domain ≡ settled n r → read_well t a ≡ read_settled n r (unquoted_local a)
    unfolding read_well result_of read_settled read_over
    well_settled n r e = by_test (is_readable (unquoted_local a)) (λ q. rw (d, q, e)) (λ q. rw (d, q))

  -- what was read is a canonical record, which is the address's
  pub shaped-good : (s : List ℕ) (r : Record) → read r ≡ read_well t a → canonical_record r ≡ true → record_by t s (Ok a) ≡ mapped r
  unfolding record_by is_good record_in
  shaped-good s r e g =
      let h : is_good (read_well t a) ≡ true = ap is_good (sym e) ∙ g in
      rw (carried_is t a, h, good_result t a h, sym e)

  -- or the address is carried whole
  pub shaped-carried : (s : List ℕ) → is_good (read_well t a) ≡ false → record_by t s (Ok a) ≡ carrying t.gateway.path s
  unfolding record_by
  shaped-carried s g = rw (carried_is t a, g)
