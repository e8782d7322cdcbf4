-- Document 01: "Given two domains, the tail they share by whole parts, case aside, is shown inside the first".
-- Assumes nothing.
use Rattle.std.specs.Prelude.{◌≡◌, ℕ, zero, suc, ◌-◌, cond, List, [], ◌∷◌, length, take}
use Rattle.std.specs.Borrow.{Bor}
use Rattle.chars.specs.Case.{same_text}
use Rattle.chars.specs.Parts.{Part, Place}
use Rattle.mailaddr.specs.Domain.{domain_of, parts_of}

-- how many parts two lists share from their starts on, case aside
unfoldable pub shared : List (List ℕ) → List (List ℕ) → ℕ
unfolding same_text
shared [] qs = zero
shared (p ∷ ps) [] = zero
shared (p ∷ ps) (q ∷ qs) = cond (same_text p q) (suc (shared ps qs)) zero

-- "Any two byte strings are taken and parted at dots": the parts of the first that both have on the right
unfoldable pub shared_tail : List ℕ → List ℕ → List ℕ
unfolding shared parts_of domain_of
shared_tail a b = domain_of (take (shared (parts_of a) (parts_of b)) (parts_of a))

-- where it stands in the first: at its end, so that "with nothing shared, the empty end of the first is shown"
abbrev pub tail_place : List ℕ → List ℕ → Place
tail_place a b = record { start = length a - length (shared_tail a b); size = length (shared_tail a b) }

-- the tail, and that it is shown "inside the first": the part of it at that place, and no copy
pub record TailShown (a : Bor (List ℕ)) (b : List ℕ) (part : Bor (List ℕ)) : Type 0 where
  pub tail : part.now ≡ shared_tail a.now b
  pub place : Part a (tail_place a.now b) part
