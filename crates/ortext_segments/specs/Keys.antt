-- The keys of record text: one table, which the reader and the writer share. The definitions take it as a parameter, since
-- another edition has other keys.
-- Assumes nothing.
use Rattle.std.specs.Prelude.{ℕ, suc, Bool, cond, List, [], ◌∷◌, length, ltb, Option, None, Some}
use Rattle.chars.specs.Lists.{bytes}
use Rattle.chars.specs.Class.{is_label_char}
use Rattle.chars.specs.Case.{same_text}
use Rattle.chars.specs.Parts.{is_part}

-- The numbers of keys: first the attributes that a record has once (`single_count`), by their numbers in the table of bounds; then these.
abbrev pub ou_key : ℕ
ou_key = 9

abbrev pub dd_key : ℕ
dd_key = 10

abbrev pub pn_key : ℕ
pn_key = 11

-- from this number on, a table's entries are short keys, each for the DD type that it spells
abbrev pub short_keys : ℕ
short_keys = 12

-- a table of keys: their spellings, in the order of the numbers above
abbrev pub Keys : Type 0
Keys = List (List ℕ)

-- document 01: "Keys, case aside: C, ADMD, PRMD, O, OU, S, G, I, GQ, PN, `DD.` and a type, and RFC-822, short for `DD.RFC-822`"; request 12: "key CN"
unfoldable pub keys : Keys
unfolding bytes
keys =
    bytes "C" ∷ bytes "ADMD" ∷ bytes "PRMD" ∷ bytes "O" ∷ bytes "CN" ∷ bytes "S" ∷ bytes "G" ∷ bytes "I" ∷ bytes "GQ"
    ∷ bytes "OU" ∷ bytes "DD" ∷ bytes "PN" ∷ bytes "RFC-822" ∷ []

abbrev pub key_count : ℕ
key_count = 13

-- the number of the first entry that a text spells case aside; as many as there are entries where there is none
unfoldable pub key_number : Keys → List ℕ → ℕ
unfolding same_text
key_number [] s = 0
key_number (k ∷ ks) s = cond (same_text k s) 0 (suc (key_number ks s))

-- the same where there is one
unfoldable pub key_of : Keys → List ℕ → Option ℕ
unfolding key_number
key_of ks s = cond (ltb (key_number ks s) (length ks)) (Some (key_number ks s)) None

-- "A key is one or more letters, digits or hyphens"
unfoldable pub is_key : List ℕ → Bool
unfolding is_part is_label_char
is_key s = is_part is_label_char s
