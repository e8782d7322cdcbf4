-- The order in which the rows of a table stand: keys are lists of tokens, compared token by token, a token byte by byte, letter case aside;
-- what ends first is the smaller, so an omitted level, the empty token, comes before any other. One notion serves both directions. And the
-- flat form that the code compares by: a key spelled as a list of ranks.
-- Assumes nothing.
use Rattle.std.specs.Prelude.{Bool, true, false, not, cond, List, [], ◌∷◌, ◌++◌, map, reverse, ℕ, zero, suc, eqb, ltb}
use Rattle.chars.specs.Case.{fold_case, same_byte, same_text}
use Rattle.chars.specs.Parts.{split}
use Rattle.mailaddr.specs.Domain.{parts_of}
use Rattle.table.specs.Table.{Token}
use Rattle.table.specs.declared.rows.Key.{Key}
use Rattle.table.specs.declared.rows.Key.TheVariants.{Domain, Path}

-- ---- the order

-- the first list is not over the second: they are compared element by element, and what ends first is the smaller
unfoldable pub up_to : {A : Type 0} → (A → A → Bool) → (A → A → Bool) → List A → List A → Bool
up_to same less [] q = true
up_to same less (a ∷ p) [] = false
up_to same less (a ∷ p) (b ∷ q) = cond (same a b) (up_to same less p q) (less a b)

-- a token is below another, byte by byte
unfoldable pub less_byte : ℕ → ℕ → Bool
unfolding fold_case
less_byte a b = ltb (fold_case a) (fold_case b)

unfoldable pub less_token : Token → Token → Bool
unfolding up_to same_byte less_byte
less_token s t = not (up_to same_byte less_byte t s)

-- THE ORDER: the first key is not over the second
unfoldable pub key_up_to : List Token → List Token → Bool
unfolding up_to same_text less_token
key_up_to p q = up_to same_text less_token p q

-- the tokens that a key's text is ordered by: the parts of a domain from the right, each read from its end; the fields of a path
unfoldable pub key_tokens : Key → List ℕ → List Token
unfolding parts_of split
key_tokens Domain s = map reverse (parts_of s)
key_tokens Path s = split 9 s

-- ---- ranks

-- a byte's rank: the separator's is 0 and no other byte's; letter case aside
unfoldable pub rank : ℕ → ℕ → ℕ
unfolding fold_case
rank sep b = cond (eqb b sep) 0 (suc (fold_case b))

unfoldable pub spell : ℕ → List ℕ → List ℕ
unfolding rank
spell sep s = map (rank sep) s

-- what parts a key's tokens, and its text from the side that it is compared from
unfoldable pub separator : Key → ℕ
separator Domain = 46
separator Path = 9

unfoldable pub read_by : Key → List ℕ → List ℕ
read_by Domain s = reverse s
read_by Path s = s

-- a key's text as ranks
unfoldable pub spell_by : Key → List ℕ → List ℕ
unfolding spell separator read_by
spell_by k s = spell (separator k) (read_by k s)

-- ranks with a separator's rank behind them
unfoldable pub closed : List ℕ → List ℕ
closed s = s ++ 0 ∷ []

-- tokens as ranks, a 0 behind each
unfoldable pub flat : List Token → List ℕ
unfolding fold_case
flat [] = []
flat (t ∷ ts) = map (λ b. suc (fold_case b)) t ++ 0 ∷ flat ts

-- the order of lists of ranks, and how many ranks two have in common before they differ
abbrev pub under : List ℕ → List ℕ → Bool
under p q = up_to eqb ltb p q

unfoldable pub shared : List ℕ → List ℕ → ℕ
shared [] q = zero
shared (a ∷ p) [] = zero
shared (a ∷ p) (b ∷ q) = cond (eqb a b) (suc (shared p q)) zero
