-- Document 01: "Other bounds stand in one table of constants". The attributes by number, the table, and each attribute's own rule.
-- Assumes nothing.
use Rattle.std.specs.Prelude.{ℕ, Bool, ◌&&◌, ◌||◌, cond, List, [], ◌∷◌, leb, eqb, length, get_or}
use Rattle.chars.specs.Class.{is_digit, is_letter}
use Rattle.chars.specs.Case.{equal_text}
use Rattle.chars.specs.Lists.{all}
use Rattle.chars.specs.Spaces.{is_text}

-- The entries of the table. The first `single_count` are the attributes that a record has once, and their numbers in it.
abbrev pub C : ℕ
C = 0

abbrev pub ADMD : ℕ
ADMD = 1

abbrev pub PRMD : ℕ
PRMD = 2

abbrev pub O : ℕ
O = 3

abbrev pub CN : ℕ
CN = 4

abbrev pub S : ℕ
S = 5

abbrev pub G : ℕ
G = 6

abbrev pub I : ℕ
I = 7

abbrev pub GQ : ℕ
GQ = 8

abbrev pub OU : ℕ
OU = 9

abbrev pub dd_type : ℕ
dd_type = 10

abbrev pub dd_value : ℕ
dd_value = 11

abbrev pub c_letters : ℕ
c_letters = 12

-- document 01: "C: two letters or three digits. ... ADMD 16, PRMD 16, O 64, OU 32, surname S 40, given name G 16, initials
-- I 5, generation GQ 3, domain defined (DD) type 8, value 128". Request 12, of the common name: "printable string, bound 64, key CN". The
-- entry of C is its three digits; its two letters stand last.
abbrev pub bounds : List ℕ
bounds = 3 ∷ 16 ∷ 16 ∷ 64 ∷ 64 ∷ 40 ∷ 16 ∷ 5 ∷ 3 ∷ 32 ∷ 8 ∷ 128 ∷ 2 ∷ []

-- how many entries it has, and how many of them are of the attributes that a record has once
abbrev pub entries : ℕ
entries = 13

abbrev pub single_count : ℕ
single_count = 9

abbrev pub bound_of : ℕ → ℕ
bound_of k = get_or bounds k 0

-- document 01: "There are up to four unit names ... and up to four DDs in order"
abbrev pub most : ℕ
most = 4

-- document 01: "The levels are C, ADMD, PRMD, O, OU1 to OU4": how many there are, and how many of them are attributes that a record has once
abbrev pub level_count : ℕ
level_count = 8

abbrev pub own_levels : ℕ
own_levels = 4

-- document 01: "non-empty, within its bound, made of printable string characters ..., with no leading, trailing or adjacent spaces"
unfoldable pub is_value : ℕ → List ℕ → Bool
unfolding is_text
is_value k s = leb (length s) (bound_of k) && is_text s

-- document 01: "two letters or three digits"
unfoldable pub is_country : List ℕ → Bool
unfolding all is_letter is_digit
is_country s =
    eqb (length s) (bound_of c_letters) && all is_letter s
    || eqb (length s) (bound_of C) && all is_digit s

-- document 01: "save that ADMD may be one space"
unfoldable pub is_space : List ℕ → Bool
unfolding equal_text
is_space s = equal_text s (32 ∷ [])

-- the own rule of the attribute with the number k, for a value that is present
unfoldable pub rule : ℕ → List ℕ → Bool
unfolding is_country is_value is_space
rule k s = cond (eqb k C) (is_country s) (is_value k s || eqb k ADMD && is_space s)
