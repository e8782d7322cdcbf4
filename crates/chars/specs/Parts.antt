-- A text as parts between separators: split, join, the place of a part, and texts whose parts are all of a class.
-- Assumes nothing.
use Rattle.std.specs.Prelude.{◌≡◌, ℕ, zero, suc, ◌+◌, Bool, false, ◌&&◌, ◌||◌, cond, List, [], ◌∷◌, ◌++◌, eqb, take, drop}
use Rattle.std.specs.Borrow.{Bor}
use Rattle.chars.specs.Lists.{all, first, non_empty}
use Rattle.chars.specs.Class.{is_atom_char}

-- one more byte in front of the first part
unfoldable pub before : ℕ → List (List ℕ) → List (List ℕ)
before x [] = (x ∷ []) ∷ []
before x (p ∷ ps) = (x ∷ p) ∷ ps

-- the parts between the separators, one more than there are separators: of no text, one empty part
unfoldable pub split : ℕ → List ℕ → List (List ℕ)
unfolding before
split sep [] = [] ∷ []
split sep (x ∷ s) = cond (eqb x sep) ([] ∷ split sep s) (before x (split sep s))

-- parts with the separator between each two
unfoldable pub join : ℕ → List (List ℕ) → List ℕ
join sep [] = []
join sep (p ∷ []) = p
join sep (p ∷ q ∷ ps) = p ++ sep ∷ join sep (q ∷ ps)

-- how many bytes stand before the first separator
unfoldable pub run : ℕ → List ℕ → ℕ
run sep [] = zero
run sep (x ∷ s) = cond (eqb x sep) zero (suc (run sep s))

-- where a part stands in its text
pub record Place : Type 0 where
  pub start : ℕ
  pub size : ℕ

-- what stands at a place of a text
unfoldable pub at : List ℕ → Place → List ℕ
at s p = take p.size (drop p.start s)

-- the part of a lent text at a place: its bytes, and that it stands there in the text and is no copy
pub record Part (s : Bor (List ℕ)) (p : Place) (part : Bor (List ℕ)) : Type 0 where
  pub holds : part.now ≡ at s.now p
  pub within : part.ref_ptr.0 ≡ s.ref_ptr.0
  pub stands : part.ref_ptr.1 ≡ p.start + s.ref_ptr.1

-- a part that is not empty and all of the class p
unfoldable pub is_part : (ℕ → Bool) → List ℕ → Bool
unfolding all non_empty
is_part p s = non_empty s && all p s

-- parts of the class p, none empty, joined by single separators
unfoldable pub is_parted : ℕ → (ℕ → Bool) → List ℕ → Bool
unfolding all split is_part
is_parted sep p s = all (is_part p) (split sep s)

-- two separators stand side by side
unfoldable pub side_by_side : ℕ → List ℕ → Bool
unfolding first
side_by_side sep [] = false
side_by_side sep (x ∷ s) = eqb x sep && eqb (first s) sep || side_by_side sep s

-- document 01: "atoms joined by single dots"
unfoldable pub is_atoms : List ℕ → Bool
unfolding is_parted is_atom_char
is_atoms s = is_parted 46 is_atom_char s
