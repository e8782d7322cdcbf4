-- What is read off the one value that a function for C returns.
-- Assumes nothing.
use mathlib.Core.Path.{◌≡◌, sym, ap, ◌∙◌}
use mathlib.Core.Bool.{cond}
use mathlib.Core.List.{List}
use Prim.Native.Nat.{ℕ, ◌/◌, ◌%◌, ◌<◌}
use native.Mathlib.Nat.{add-mul-mod_self_left, mod-eq_of_lt}
use native.Mathlib.Omega.{arith}
use lib.Dec.{eqb}
use Rattle.std.specs.Prelude.{Result, Ok, Err}
use Rattle.chars.specs.Write.{TextResult}
use Rattle.gateway_pack.specs.Packed.{ExportedText, PackedResult, length_limit, number_limit, packed_count, packed_text}

pub number-back : (o : TextResult) → o.number < number_limit → packed_text o % number_limit ≡ o.number
number-back o h = add-mul-mod_self_left o.number number_limit (o.size % length_limit) ∙ mod-eq_of_lt h

pub size_back : (o : TextResult) → o.number < number_limit → o.size < length_limit → packed_text o / number_limit ≡ o.size
size_back o h k = omega (arith, mod-eq_of_lt k)

-- the same of a number with a length, or with 7 a line
pub count-number : (n l s : ℕ) → n < number_limit → packed_count n l s % number_limit ≡ n
unfolding packed_count
count-number n l s h = add-mul-mod_self_left n number_limit (cond (eqb n 7) l s) ∙ mod-eq_of_lt h

pub count-back : (n l s : ℕ) → n < number_limit → packed_count n l s / number_limit ≡ cond (eqb n 7) l s
unfolding packed_count
count-back n l s h = omega arith

-- a result as it was told, in one value
pub exported_text : (o t : TextResult) (r : ℕ) → t ≡ o → r ≡ packed_text t → ExportedText o r t.buffer
exported_text o t r e k = record { value = k ∙ ap packed_text e; buffer = ap (λ (x : TextResult). x.buffer) e }

-- what came of writing a text, in one value
pub exported_result : {E : Type 0} (number : E → ℕ) (told : Result ℕ E → List ℕ → TextResult) (o : TextResult) (d : Result ℕ E) (r : ℕ) (new : List ℕ)
    → ((n : ℕ) → told (Ok n) new ≡ record { number = 0; size = n; buffer = new })
    → ((e : E) → told (Err e) new ≡ record { number = number e; size = 0; buffer = new })
    → told d new ≡ o → PackedResult (λ e n. n ≡ number e) d r → ExportedText o r new
exported_result number told o (Ok n) r new f g e h = exported_text o (record { number = 0; size = n; buffer = new }) r (sym (f n) ∙ e) h
exported_result number told o (Err x) r new f g e h =
    exported_text o (record { number = number x; size = 0; buffer = new }) r (sym (g x) ∙ e) (rw h.1 at h.2)
