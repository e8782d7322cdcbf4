-- The fresh tokens that the check's candidates are made of: numbers as labels, and the first number that no row uses.
-- Assumes nothing.
use Rattle.std.specs.Prelude.{ℕ, zero, suc, ◌+◌, ◌-◌, ◌*◌, ◌/◌, ◌%◌, Bool, true, false, cond, List, [], ◌∷◌, ◌++◌, length, get_or, set, replicate}
use Rattle.soundness.specs.Tokens.{Row, Table, Tok}

-- ---- numbers as labels

-- how many labels the check tries: two more than a table has rows
abbrev pub label_count : ℕ
label_count = 514

-- what a number of three digits is below
abbrev pub label_limit : ℕ
label_limit = 1000

-- three decimal digits: a domain part
unfoldable pub label : ℕ → Tok
label n = (48 + n / 100 % 10) ∷ (48 + n / 10 % 10) ∷ (48 + n % 10) ∷ []

-- the same with a `+` behind: no domain part
unfoldable pub odd_label : ℕ → Tok
unfolding label
odd_label n = label n ++ 43 ∷ []

-- the number that the first three bytes tell; a byte that is not there, or is below the digits, counts as the digit 0
unfoldable pub label_number : Tok → ℕ
label_number t = 100 * (get_or t 0 0 - 48) + 10 * (get_or t 1 0 - 48) + (get_or t 2 0 - 48)

-- ---- marks

-- the first place that is not marked; the place behind the last where there is none
unfoldable pub first_free : List Bool → ℕ
first_free [] = zero
first_free (m ∷ ms) = cond m (suc (first_free ms)) zero

-- how many places are marked
unfoldable pub count : List Bool → ℕ
count [] = zero
count (m ∷ ms) = cond m (suc (count ms)) (count ms)

-- with the number of the token that each row has at the place k of its key marked too, whatever stands before it
unfoldable pub marked : ℕ → List Row → List Bool → List Bool
unfolding label_number
marked k [] ms = ms
marked k (s ∷ rows) ms = marked k rows (set ms (label_number (get_or s.key k [])) true)

-- the numbers, of those tried, that stand behind a row's path in R rows and behind its domain in D rows
unfoldable pub marks : Table → Row → List Bool
unfolding marked
marks T r = marked (length r.val) T.D (marked (length r.key) T.R (replicate label_count false))

-- the first number that no row uses there
unfoldable pub fresh : Table → Row → ℕ
unfolding first_free marks
fresh T r = first_free (marks T r)
