-- Document 01: a "domain part".
-- Assumes nothing.
use Rattle.std.specs.Prelude.{ℕ, Bool, ◌&&◌, not, List, leb, eqb, length}
use Rattle.chars.specs.Lists.{all, first, last}
use Rattle.chars.specs.Class.{is_label_char}

-- the most bytes that a domain part has
abbrev pub longest_part : ℕ
longest_part = 63

-- document 01: "domain part": "1 to 63 letters, digits and inner hyphens"
unfoldable pub is_domain_part : List ℕ → Bool
unfolding all first last is_label_char
is_domain_part s = leb 1 (length s) && leb (length s) longest_part && all is_label_char s && not (eqb (first s) 45) && not (eqb (last s) 45)
