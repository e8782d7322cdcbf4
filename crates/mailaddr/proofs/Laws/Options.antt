-- Laws of a number that is 0 where there is none, as the code answers it.
-- Assumes nothing.
use mathlib.Core.Path.{◌≡◌, refl, sym}
use native.Mathlib.Omega.{arith}
use Prim.Native.Nat.{ℕ, zero, suc}
use Rattle.mailaddr.specs.Answers.{unless_zero}
use Rattle.std.proofs.Common.{None, Some}
use Rattle.std.proofs.lemmas.Option.{none-some, same_Some}

pub unless-some : (n : ℕ) {m : ℕ} → Some m ≡ unless_zero n → (n ≡ m) × (m ≡ 0 → ⊥)
unless-some zero {m} e = absurd (none-some m (sym e))
unless-some (suc n) {m} e = let k : m ≡ suc n = same_Some m (suc n) e in (sym k, λ z. absurd (omega arith))

pub unless-none : (n : ℕ) → None ≡ unless_zero n → n ≡ 0
unless-none zero e = refl
unless-none (suc n) e = absurd (none-some (suc n) e)
