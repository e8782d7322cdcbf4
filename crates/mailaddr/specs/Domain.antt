-- Document 01, "Address to record" step 1: a domain as its parts from the right.
-- Assumes nothing.
use Rattle.std.specs.Prelude.{ℕ, Bool, List, ◌∷◌, ◌++◌, reverse}
use Rattle.chars.specs.Lists.{all}
use Rattle.chars.specs.Domain.{is_domain_part}
use Rattle.chars.specs.Parts.{join, split}

-- the parts of a domain, the rightmost first
unfoldable pub parts_of : List ℕ → List (List ℕ)
unfolding split
parts_of d = reverse (split 46 d)

-- a domain of parts, the rightmost first
unfoldable pub domain_of : List (List ℕ) → List ℕ
unfolding join
domain_of ps = join 46 (reverse ps)

-- document 01: "A domain is parts joined by dots, each ... a domain part"
unfoldable pub is_domain : List ℕ → Bool
unfolding all is_domain_part split
is_domain d = all is_domain_part (split 46 d)

-- a part in front of a domain
unfoldable pub in_front : List ℕ → List ℕ → List ℕ
in_front p d = p ++ 46 ∷ d
