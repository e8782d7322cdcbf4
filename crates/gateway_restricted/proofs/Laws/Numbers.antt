-- The numbers of the restricted encoding's refusals, for packing.
-- Assumes nothing.
use mathlib.Core.Path.{◌≡◌}
use Prim.Native.Nat.{ℕ, ◌<◌}
use native.Mathlib.Omega.{arith}
use Rattle.std.specs.Prelude.{Result, Ok, Err, IfErr}
use Rattle.restricted.specs.Answers.{restricted_number}
use Rattle.restricted.specs.declared.convert.RestrictedFault.{RestrictedFault}
use Rattle.restricted.specs.declared.convert.RestrictedFault.TheVariants as restricted-fault
use Rattle.gateway_pack.specs.Packed.{number_limit}

small : (e : RestrictedFault) → restricted_number e < number_limit
small restricted-fault.ByteOver127 = omega arith
small restricted-fault.ShortBuffer = omega arith

pub restricted_small : (d : Result ℕ RestrictedFault) → IfErr d (λ e. (n : ℕ) → n ≡ restricted_number e → n < number_limit)
restricted_small (Ok n) = tt
restricted_small (Err e) = λ n h. omega (arith, small e)
