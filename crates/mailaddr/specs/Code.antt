-- Document 01, "carried whole" and "A carrier": the coding of a whole address as a DD value, and its decoding.
-- Assumes nothing.
use Rattle.std.specs.Prelude.{ℕ, zero, suc, ◌+◌, ◌/◌, ◌%◌, Bool, false, ◌&&◌, not, cond, List, [], ◌∷◌, ◌++◌, eqb, get_or}
use Rattle.std.proofs.Math.Option.{Option, none, some}
use Rattle.chars.specs.Lists.{bytes, onto}
use Rattle.chars.specs.Class.{is_printable}
use Rattle.chars.specs.Case.{fold_case}
use Rattle.chars.specs.Digits.{digits_number, is_number_group}

-- document 01: "`(a)` @, `(p)` %, `(b)` !, `(q)` quote, `(u)` _, `(l)` and `(r)` the parentheses": the letters, and beside each the
-- character that it stands for
abbrev pub group_letters : List ℕ
unfolding bytes
group_letters = bytes "apbqulr"

abbrev pub group_chars : List ℕ
unfolding bytes
group_chars = bytes "@%!\"_()"

-- the first place of a byte in a list; as many as there are where it is not there
unfoldable pub index_of : ℕ → List ℕ → ℕ
index_of b [] = zero
index_of b (x ∷ s) = cond (eqb b x) zero (suc (index_of b s))

-- the letter of a character that has one, 0 for any other
unfoldable pub letter_of : ℕ → ℕ
unfolding index_of
letter_of b = get_or group_letters (index_of b group_chars) 0

-- the character of a letter, "letters in a group in either case"; 0 for any other
unfoldable pub char_of : ℕ → ℕ
unfolding index_of fold_case
char_of l = get_or group_chars (index_of (fold_case l) group_letters) 0

-- "`(ddd)` in decimal"
unfoldable pub numbered : ℕ → List ℕ
numbered b = 40 ∷ (48 + b / 100) ∷ (48 + b / 10 % 10) ∷ (48 + b % 10) ∷ 41 ∷ []

-- the most bytes that a character is coded by
abbrev pub longest_coded_char : ℕ
longest_coded_char = 5

-- a character as it is coded: by its letter, as itself where the set has it, else by its number. A space is itself, but "the second
-- and later of a run of spaces is `(032)` (house rule)".
unfoldable pub coded_char : Bool → ℕ → List ℕ
unfolding letter_of numbered is_printable
coded_char afterSpace b =
    cond (not (eqb (letter_of b) 0))
    (40 ∷ letter_of b ∷ 41 ∷ [])
    (cond (is_printable b && not (afterSpace && eqb b 32)) (b ∷ []) (numbered b))

-- the rest of a text, and whether a space stands before it
unfoldable pub coded_from : Bool → List ℕ → List ℕ
unfolding coded_char
coded_from afterSpace [] = []
coded_from afterSpace (b ∷ s) = coded_char afterSpace b ++ coded_from (eqb b 32) s

-- the coded form of a whole text
unfoldable pub coded : List ℕ → List ℕ
unfolding coded_from
coded s = coded_from false s

-- texts from this length on are not coded, so that the lengths of what is coded can be counted
abbrev pub too_long_to_code : ℕ
too_long_to_code = 65536

-- ---- decoding

-- behind an opening parenthesis: a letter and a closing one
unfoldable pub is_letter_group : List ℕ → Bool
unfolding char_of
is_letter_group s = eqb (get_or s 1 0) 41 && not (eqb (char_of (get_or s 0 0)) 0)

-- the decoding of a text, its first k characters being passed over: a group is a letter's, or three digits and a closing parenthesis,
-- "numbers 000 to 127"; "a value with a parenthesis outside such groups does not decode"
unfoldable pub decoded_after : ℕ → List ℕ → Option (List ℕ)
unfolding onto is_letter_group char_of is_number_group digits_number
decoded_after zero [] = some []
decoded_after (suc k) [] = some []
decoded_after (suc k) (x ∷ s) = decoded_after k s
decoded_after zero (x ∷ s) =
    cond (eqb x 40)
    (cond (is_letter_group s) (onto (char_of (get_or s 0 0)) (decoded_after 2 s))
    (cond (is_number_group 41 s) (onto (digits_number s) (decoded_after 4 s)) none))
    (cond (eqb x 41) none (onto x (decoded_after 0 s)))

unfoldable pub decoded : List ℕ → Option (List ℕ)
unfolding decoded_after
decoded s = decoded_after 0 s
