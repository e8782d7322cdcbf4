-- Request 9: RFC 1137 (document 004), section 2. Which characters stand for themselves, the short forms, the coding of a character and of a
-- text, and the parsing of coded text, each from the grammar there, whose lines are quoted.
-- Assumes nothing.
use Rattle.std.specs.Prelude.{ℕ, zero, suc, ◌+◌, ◌/◌, ◌%◌, Bool, ◌&&◌, ◌||◌, not, cond, List, [], ◌∷◌, ◌++◌, eqb, leb, get_or}
use Prim.Native.String.{String}
use Rattle.std.proofs.Math.Option.{Option, none, some}
use Rattle.chars.specs.Lists.{bytes, member, onto}
use Rattle.chars.specs.Case.{fold_case}
use Rattle.chars.specs.Class.{is_special}
use Rattle.chars.specs.Class.{is_char}
use Rattle.chars.specs.Digits.{digits_number, is_number_group}

-- ---- characters

-- RFC 822's CTL: the ASCII control characters, 0 to 31, and DEL, 127
unfoldable pub is_control : ℕ → Bool
is_control b = leb b 31 || eqb b 127

-- "a-char = <any CHAR except specials (other than "@" and "."), SPACE, CTL, "_", and "#">"
unfoldable pub is_plain : ℕ → Bool
unfolding is_char is_control bytes member
is_plain b =
    is_char b
    && not (is_special b && not (eqb b 64) && not (eqb b 46))
    && not (eqb b 32)
    && not (is_control b)
    && not (eqb b 95)
    && not (eqb b 35)

-- ---- the short forms

-- a letter, and the character that it stands for
unfoldable pub short : String → ℕ × ℕ
unfolding bytes
short f = (get_or (bytes f) 0 0, get_or (bytes f) 1 0)

-- "a-encoded-char = .. / "#u#" ; (_) / "#l#" ; <(> / "#r#" ; <)> / "#m#" ; (,) / "#c#" ; (:) / "#b#" ; (\) / "#h#" ; (#) / "#e#" ; (=)
-- / "#s#" ; (/)". The last two are read alone: what they stand for is an a-char.
abbrev pub short_forms : List (ℕ × ℕ)
unfolding short
short_forms =
    short "u_" ∷ short "l(" ∷ short "r)" ∷ short "m," ∷ short "c:" ∷ short "b\\" ∷ short "h#" ∷ short "e=" ∷ short "s/" ∷ []

-- the letter beside a character, and the character beside a letter; 0, which is neither, where there is none
unfoldable pub letter_in : ℕ → List (ℕ × ℕ) → ℕ
letter_in b [] = 0
letter_in b (f ∷ fs) = cond (eqb b f.1) f.0 (letter_in b fs)

unfoldable pub char_in : ℕ → List (ℕ × ℕ) → ℕ
char_in l [] = 0
char_in l (f ∷ fs) = cond (eqb l f.0) f.1 (char_in l fs)

unfoldable pub letter_of : ℕ → ℕ
unfolding letter_in
letter_of b = letter_in b short_forms

-- letters in groups are read case aside, as everywhere (a choice: docs/DECISIONS.md)
unfoldable pub char_of : ℕ → ℕ
unfolding char_in fold_case
char_of l = char_in (fold_case l) short_forms

-- ---- coding

-- "/ "#" 3DIGIT "#"", "interpreted in decimal as the corresponding ASCII character"
unfoldable pub numbered : ℕ → List ℕ
numbered b = 35 ∷ (48 + b / 100) ∷ (48 + b / 10 % 10) ∷ (48 + b % 10) ∷ 35 ∷ []

-- the most bytes that a character is coded by
abbrev pub longest_coded_char : ℕ
longest_coded_char = 5

-- "all EBNF.a-char are used directly and all other CHAR are encoded as EBNF.a-encoded-char"; request 9: "Whatever must be coded takes its
-- short form if it has one". The short form of a space is the first of them: "a-encoded-char = "_" ; (space)".
unfoldable pub code_char : ℕ → List ℕ
unfolding is_plain letter_of numbered
code_char b =
    cond (is_plain b) (b ∷ [])
    (cond (eqb b 32) (95 ∷ [])
    (cond (not (eqb (letter_of b) 0)) (35 ∷ letter_of b ∷ 35 ∷ []) (numbered b)))

-- a text as it is coded
unfoldable pub coded : List ℕ → List ℕ
unfolding code_char
coded [] = []
coded (b ∷ s) = code_char b ++ coded s

-- ---- parsing

-- behind a "#": a letter of the short forms, and a "#"
unfoldable pub is_short_group : List ℕ → Bool
unfolding char_of
is_short_group s = not (eqb (char_of (get_or s 0 0)) 0) && eqb (get_or s 1 0) 35

-- "atom-encoded = *( a-char / a-encoded-char )": what a text stands for, its first k characters being passed over. A number
-- is three digits that "must have range 0-127", and a "#".
unfoldable pub parsed_after : ℕ → List ℕ → Option (List ℕ)
unfolding is_plain is_short_group char_of is_number_group digits_number onto
parsed_after zero [] = some []
parsed_after (suc k) [] = some []
parsed_after (suc k) (x ∷ s) = parsed_after k s
parsed_after zero (x ∷ s) =
    cond (is_plain x) (onto x (parsed_after 0 s))
    (cond (eqb x 95) (onto 32 (parsed_after 0 s))
    (cond (eqb x 35 && is_short_group s) (onto (char_of (get_or s 0 0)) (parsed_after 2 s))
    (cond (eqb x 35 && is_number_group 35 s) (onto (digits_number s) (parsed_after 4 s)) none)))

unfoldable pub parse : List ℕ → Option (List ℕ)
unfolding parsed_after
parse s = parsed_after 0 s

-- "if the address can be parsed as EBNF.encoded-atom reverse the previous mapping. If it cannot be so parsed, map the characters directly"
unfoldable pub or_as_it_stands : List ℕ → Option (List ℕ) → List ℕ
or_as_it_stands s none = s
or_as_it_stands s (some t) = t

unfoldable pub decoded : List ℕ → List ℕ
unfolding parse or_as_it_stands
decoded s = or_as_it_stands s (parse s)
