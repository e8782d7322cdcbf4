-- Numbers and bytes by the digits that spell them.
-- Assumes nothing.
use Rattle.std.specs.Prelude.{◌≡◌, cond, List, [], ◌∷◌, ℕ, ◌+◌, ◌*◌, ◌≤◌, get_or, length, take}
use Rattle.chars.specs.Lists.{bytes, member}
use Rattle.chars.specs.Parts.{run}
use Rattle.chars.specs.Write.{Wrote}

-- the digits of a base, in the order of their values
unfoldable pub decimals : List ℕ
unfolding bytes
decimals = bytes "0123456789"

unfoldable pub hexadecimals : List ℕ
unfolding bytes
hexadecimals = bytes "0123456789abcdef"

-- the value of a digit is how many stand before it; 0 for what is none
unfoldable pub value_in : List ℕ → ℕ → ℕ
unfolding member run
value_in digits b = cond (member b digits) (run b digits) 0

-- the number that digits spell behind those of n, the most significant one first; the base is how many digits there are
unfoldable pub number_in : List ℕ → ℕ → List ℕ → ℕ
number_in digits n [] = n
number_in digits n (b ∷ s) = number_in digits (n * length digits + value_in digits b) s

-- the value of a digit, which is at most that of the largest one
pub record ValueOf (digits : List ℕ) (largest b r : ℕ) : Type 0 where
  pub value : r ≡ value_in digits b
  pub small : r ≤ largest

-- the number of the four decimal digits at the front of a text, where one that is missing counts as 0
pub record FourDigits (s : List ℕ) (r : ℕ) : Type 0 where
  pub spelt : r ≡ number_in decimals 0 (get_or s 0 0 ∷ get_or s 1 0 ∷ get_or s 2 0 ∷ get_or s 3 0 ∷ [])
  pub small : r ≤ 9999

-- the byte that two hexadecimal digits spell
unfoldable pub hex_byte : ℕ → ℕ → ℕ
hex_byte a b = number_in hexadecimals 0 (a ∷ b ∷ [])

-- the bytes that a text spells, two digits each; one digit alone at the end spells none
unfoldable pub hex_bytes : List ℕ → List ℕ
hex_bytes [] = []
hex_bytes (a ∷ []) = []
hex_bytes (a ∷ b ∷ s) = hex_byte a b ∷ hex_bytes s

-- those bytes, as many as there is room for, at the front of a buffer
pub record Unhexed (old s : List ℕ) (r : ℕ) (new : List ℕ) : Type 0 where
  pub wrote : Wrote old 0 (take (length old) (hex_bytes s)) r new
  pub fits : r ≤ length old
