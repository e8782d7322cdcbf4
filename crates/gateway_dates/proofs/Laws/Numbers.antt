-- The numbers of a date's refusals, for packing.
-- Assumes nothing.
use mathlib.Core.Path.{◌≡◌}
use Prim.Native.Nat.{ℕ, ◌<◌}
use native.Mathlib.Omega.{arith}
use Rattle.std.specs.Prelude.{Result, Ok, Err, IfErr}
use Rattle.dates.specs.Answers.{date_number}
use Rattle.dates.specs.declared.convert.DateFault.{DateFault}
use Rattle.dates.specs.declared.convert.DateFault.TheVariants as date-fault
use Rattle.gateway_pack.specs.Packed.{number_limit}

small : (e : DateFault) → date_number e < number_limit
small date-fault.NoDate = omega arith
small date-fault.ShortBuffer = omega arith

pub date_small : (d : Result ℕ DateFault) → IfErr d (λ e. (n : ℕ) → n ≡ date_number e → n < number_limit)
date_small (Ok n) = tt
date_small (Err e) = λ n h. omega (arith, small e)
