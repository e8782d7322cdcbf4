-- Document 01, "Address to record" step 3 and "Record to address": personal names, read and written.
-- Assumes nothing.
use Rattle.std.specs.Prelude.{ℕ, ◌+◌, Bool, ◌&&◌, ◌||◌, not, cond, List, [], ◌∷◌, ◌++◌, leb, ltb, eqb, length, take, drop}
use Rattle.std.proofs.Math.Option.{Option, none, some}
use Rattle.chars.specs.Lists.{all, first, member, non_empty}
use Rattle.chars.specs.Class.{is_letter}
use Rattle.chars.specs.Parts.{run}

-- a personal name: what is absent is empty
pub record Name : Type 0 where
  pub given : List ℕ
  pub initials : List ℕ
  pub surname : List ℕ

-- "an optional given name (two or more characters, no dot) and dot"
unfoldable pub has_given : List ℕ → Bool
unfolding run
has_given s = leb 2 (run 46 s) && ltb (run 46 s) (length s)

unfoldable pub given_of : List ℕ → List ℕ
unfolding has_given run
given_of s = cond (has_given s) (take (run 46 s) s) []

unfoldable pub after_given : List ℕ → List ℕ
unfolding has_given run
after_given s = cond (has_given s) (drop (run 46 s + 1) s) s

-- "then single letters each with a dot": the letters in front, as far as they go, and what is left behind them
unfoldable pub initials_of : List ℕ → List ℕ
unfolding is_letter
initials_of [] = []
initials_of (x ∷ []) = []
initials_of (x ∷ y ∷ s) = cond (is_letter x && eqb y 46) (x ∷ initials_of s) []

unfoldable pub after_initials : List ℕ → List ℕ
unfolding is_letter
after_initials [] = []
after_initials (x ∷ []) = x ∷ []
after_initials (x ∷ y ∷ s) = cond (is_letter x && eqb y 46) (after_initials s) (x ∷ y ∷ s)

-- "then a non-empty surname. The front is read as far as it goes and never shortened to leave a surname."
unfoldable pub read_name : List ℕ → Option Name
unfolding given_of after_given initials_of after_initials non_empty
read_name s =
    cond (non_empty (after_initials (after_given s)))
    (some (record { given = given_of s; initials = initials_of (after_given s); surname = after_initials (after_given s) }))
    none

-- each letter with a dot
unfoldable pub dotted : List ℕ → List ℕ
dotted [] = []
dotted (x ∷ s) = x ∷ 46 ∷ dotted s

-- a given name, if there is one, and its dot
unfoldable pub given_text : List ℕ → List ℕ
unfolding non_empty
given_text g = cond (non_empty g) (g ++ (46 ∷ [])) []

-- the short form of a name
unfoldable pub name_text : Name → List ℕ
unfolding dotted given_text
name_text n = given_text n.given ++ dotted n.initials ++ n.surname

-- "a dot in the surname is not in its first two characters and G or I is present (001)"
unfoldable pub dot_allowed : Name → Bool
unfolding member non_empty
dot_allowed n =
    not (member 46 n.surname)
    || not (member 46 (take 2 n.surname)) && (non_empty n.given || non_empty n.initials)

-- "given name has no dot and two characters or more", where it is present
unfoldable pub given_short : List ℕ → Bool
unfolding non_empty member
given_short g = not (non_empty g) || leb 2 (length g) && not (member 46 g)

-- "the short form is written when: no GQ; initials are letters; given name has no dot and two characters or more; a dot in the
-- surname ...; and, house rule, the text does not begin with `/`". The tests hold for what is present.
unfoldable pub is_short : Name → List ℕ → Bool
unfolding non_empty all is_letter given_short dot_allowed first name_text
is_short n gq =
    non_empty n.surname
    && not (non_empty gq)
    && all is_letter n.initials
    && given_short n.given
    && dot_allowed n
    && not (eqb (first (name_text n)) 47)
