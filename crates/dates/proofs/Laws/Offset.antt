-- Signed minutes: what division and its remainder by 60 leave of an offset, sign aside, and that all of it fits 32 bits.
-- Assumes nothing.
use mathlib.Core.Path.{◌≡◌, refl, sym, ap, subst, ◌∙◌}
use mathlib.Core.Bool.{not}
use Prim.Native.Nat.{ℕ, zero, suc, ◌/◌, ◌%◌, ◌≤◌}
use native.Mathlib.Nat.{div-le_self, mod-le}
use native.Mathlib.Omega.{arith}
use borrow.Author.Tests.{le-ltb}
use lib.IntN.{ℤ, pos, negsuc, neg_ℤ, nat_abs, ◌-ℤ◌, +ℤ_idl}
use lib.Signed.{lt_z, non_neg, quot_z, rem_z}
use mir.Syntax.{w32}
use mir.Val.{SFits, of_z, to_z}
use mir.ValLaws.{to_z-of_z}
use Rattle.date_read.specs.Date.{most_offset}
use Rattle.date_read.proofs.Laws.Read.{fits as fits-type}

-- an offset fits, and so does any number no greater, sign aside
pub fits : (z : ℤ) → nat_abs z ≤ most_offset → SFits w32 z
fits z h = fits-type z (omega arith)

abs_neg : (n : ℕ) → nat_abs (neg_ℤ (pos n)) ≡ n
abs_neg zero = refl
abs_neg (suc n) = refl

pub quot_abs : (z : ℤ) → nat_abs (quot_z z (pos 60)) ≡ nat_abs z / 60
quot_abs (pos n) = refl
quot_abs (negsuc n) = abs_neg (suc n / 60)

pub rem_abs : (z : ℤ) → nat_abs (rem_z z (pos 60)) ≡ nat_abs z % 60
rem_abs (pos n) = refl
rem_abs (negsuc n) = abs_neg (suc n % 60)

pub quot_small : (z : ℤ) → nat_abs z ≤ most_offset → nat_abs (quot_z z (pos 60)) ≤ most_offset
quot_small z h = omega (arith, quot_abs z, div-le_self (nat_abs z) 60)

pub rem_small : (z : ℤ) → nat_abs z ≤ most_offset → nat_abs (rem_z z (pos 60)) ≤ most_offset
rem_small z h = omega (arith, rem_abs z, mod-le (nat_abs z) 60)

-- with the other sign it is as far from zero
pub minus_abs : (z : ℤ) → nat_abs (neg_ℤ z) ≡ nat_abs z
minus_abs (pos zero) = refl
minus_abs (pos (suc n)) = refl
minus_abs (negsuc n) = refl

-- a number is below zero, or it is not: the sign that is written
pub below : (z : ℤ) → non_neg z ≡ not (lt_z z (pos 0))
below (pos n) = ap not (sym (le-ltb n 0 (omega arith)))
below (negsuc n) = refl

-- ---- as the machine has them

pub plain : (z : ℤ) → nat_abs z ≤ most_offset → to_z w32 (of_z w32 z) ≡ z
plain z h = to_z-of_z w32 z (fits z h)

-- z taken from nothing is z with the other sign, and fits
pub taken : (z : ℤ) → nat_abs z ≤ most_offset → pos 0 -ℤ to_z w32 (of_z w32 z) ≡ neg_ℤ z
taken z h = ap (λ (v : ℤ). pos 0 -ℤ v) (plain z h) ∙ +ℤ_idl (neg_ℤ z)

pub taken_fits : (z : ℤ) → nat_abs z ≤ most_offset → SFits w32 (pos 0 -ℤ to_z w32 (of_z w32 z))
taken_fits z h = subst (SFits w32) (sym (taken z h)) (fits (neg_ℤ z) (omega (arith, minus_abs z)))

pub taken_plain : (z : ℤ) → nat_abs z ≤ most_offset → to_z w32 (of_z w32 (pos 0 -ℤ to_z w32 (of_z w32 z))) ≡ neg_ℤ z
taken_plain z h = to_z-of_z w32 (pos 0 -ℤ to_z w32 (of_z w32 z)) (taken_fits z h) ∙ taken z h

pub quot_fits : (z : ℤ) → nat_abs z ≤ most_offset → SFits w32 (quot_z (to_z w32 (of_z w32 z)) (pos 60))
quot_fits z h = subst (λ (v : ℤ). SFits w32 (quot_z v (pos 60))) (sym (plain z h)) (fits (quot_z z (pos 60)) (quot_small z h))

pub quot_plain : (z : ℤ) → nat_abs z ≤ most_offset → to_z w32 (of_z w32 (quot_z (to_z w32 (of_z w32 z)) (pos 60))) ≡ quot_z z (pos 60)
quot_plain z h = to_z-of_z w32 (quot_z (to_z w32 (of_z w32 z)) (pos 60)) (quot_fits z h) ∙ ap (λ (v : ℤ). quot_z v (pos 60)) (plain z h)

pub rem_plain : (z : ℤ) → nat_abs z ≤ most_offset → to_z w32 (of_z w32 (rem_z (to_z w32 (of_z w32 z)) (pos 60))) ≡ rem_z z (pos 60)
rem_plain z h =
    to_z-of_z w32 (rem_z (to_z w32 (of_z w32 z)) (pos 60))
    (subst (λ (v : ℤ). SFits w32 (rem_z v (pos 60))) (sym (plain z h)) (fits (rem_z z (pos 60)) (rem_small z h)))
    ∙ ap (λ (v : ℤ). rem_z v (pos 60)) (plain z h)
