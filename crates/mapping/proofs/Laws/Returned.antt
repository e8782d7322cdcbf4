-- A record that address to record returns is canonical, carried whole or not.
-- Assumes nothing.
use mathlib.Core.Path.{◌≡◌, refl}
use mathlib.Core.Bool.{true}
use mathlib.Core.List.{List}
use Prim.Native.Nat.{ℕ}
use native.Mathlib.Omega.{arith}
use borrow.Author.Tests.{ltb-false}
use lib.Dec.{ltb}
use lib.ListN.{length}
use Rattle.chars.proofs.Laws.Lists.{by_test}
use Rattle.oraddr.specs.Canonical.{canonical_record}
use Rattle.std.specs.Prelude.{Result, Ok, Err}
use Rattle.mailaddr.specs.Answers.{shaping}
use Rattle.mailaddr.specs.declared.shape.AddressFault.{AddressFault}
use Rattle.mailaddr.specs.declared.shape.AddressFault.TheVariants.{NoShape, TooLong}
use Rattle.mailaddr.specs.Code.{coded}
use Rattle.mailaddr.specs.Shape.{Address}
use Rattle.table.specs.Table.{Table}
use Rattle.table.specs.Formed.{Formed}
use Rattle.mapping.specs.Carried.{carried_whole, carrying, longest_coded}
use Rattle.mapping.specs.Results.{mapped, refused_record}
use Rattle.mapping.specs.ToRecord.{record_by, to_record}
use Rattle.mapping.proofs.Laws.CarriedBack.{carrier_canonical}
use Rattle.mapping.proofs.Laws.Whole.{returned_canonical}

module _ (t : Table) (f : Formed t) (s : List ℕ) where
  -- the address is carried whole
  carried-canonical : (a : Address) → shaping s ≡ Ok a → (carrying t.gateway.path s).number ≡ 0
      → canonical_record (carrying t.gateway.path s).record' ≡ true
  unfolding carrying mapped refused_record
  carried-canonical a h n =
      by_test (ltb longest_coded (length (coded s)))
      (λ e. absurd (omega (arith, rw e at n)))
      (λ e. rw e (carrier_canonical t f s a h (ltb-false longest_coded (length (coded s)) e)))

  by_shape : (x : Result Address AddressFault) → shaping s ≡ x → (to_record t s).number ≡ 0 → canonical_record (to_record t s).record' ≡ true
  unfolding to_record record_by refused_record
  by_shape (Err TooLong) h n = absurd (omega (arith, rw h at n))
  by_shape (Err NoShape) h n = absurd (omega (arith, rw h at n))
  by_shape (Ok a) h n =
      by_test (carried_whole t a)
      (λ e. rw (h, e) (carried-canonical a h (rw (h, e) at n)))
      (λ e. returned_canonical t s a h e)

  pub done-canonical : (to_record t s).number ≡ 0 → canonical_record (to_record t s).record' ≡ true
  done-canonical n = by_shape (shaping s) refl n
