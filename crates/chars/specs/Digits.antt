-- Three decimal digits, by which a character's number is written (document 01's `(ddd)`, RFC 1137's `#ddd#`).
-- Assumes nothing.
use Rattle.std.specs.Prelude.{ℕ, ◌+◌, ◌-◌, ◌*◌, Bool, ◌&&◌, cond, List, leb, eqb, get_or, Option, Some, None}
use Rattle.chars.specs.Class.{highest_code, is_digit}

-- the value of a digit
unfoldable pub digit_value : ℕ → Option ℕ
unfolding is_digit
digit_value b = cond (is_digit b) (Some (b - 48)) None

-- the number that a text's first three bytes spell
unfoldable pub digits_number : List ℕ → ℕ
digits_number s = (get_or s 0 0 - 48) * 100 + (get_or s 1 0 - 48) * 10 + (get_or s 2 0 - 48)

-- the answer where no three digits stand: the number of no character
abbrev pub no_digits : ℕ
no_digits = 999

-- the number of the three digits that a text begins with
unfoldable pub three_digits : List ℕ → ℕ
unfolding is_digit digits_number
three_digits s = cond (is_digit (get_or s 0 0) && is_digit (get_or s 1 0) && is_digit (get_or s 2 0)) (digits_number s) no_digits

-- the character whose number those digits spell; none where no three stand there, or no character has their number
unfoldable pub spelt_character : List ℕ → Option ℕ
unfolding three_digits
spelt_character s = cond (leb (three_digits s) highest_code) (Some (three_digits s)) None

-- three digits, the number of a character, and the byte that closes the group
unfoldable pub is_number_group : ℕ → List ℕ → Bool
unfolding is_digit digits_number
is_number_group close s =
    is_digit (get_or s 0 0) && is_digit (get_or s 1 0) && is_digit (get_or s 2 0) && eqb (get_or s 3 0) close && leb (digits_number s) highest_code
