-- Request 2: "9 for nesting past eight outside quoted strings anywhere in the line (quotes open only outside comments, a backslash takes the next
-- byte in either, a stray `)` counts nothing)". It is counted over the raw line: comments that never close count, a quote that never closes
-- hides the rest, and a backslash outside both takes nothing.
-- Assumes nothing.
use Rattle.std.specs.Prelude.{ℕ, zero, suc, ◌-◌, max, Bool, true, false, not, cond, List, [], ◌∷◌, eqb, ltb}
use Rattle.lexical.specs.Comment.{deepest_comment}
use Rattle.lexical.specs.declared.nesting.Nest.{Nest}

-- in a quoted string or not, how many comments are open, and how many bytes a backslash takes
abbrev pub nest : Bool → ℕ → ℕ → Nest
nest q d k = record { quote = q; depth = d; skip = k }

-- behind a byte in a quoted string: "a backslash takes the next byte"
unfoldable pub nest_quoted : ℕ → ℕ → Nest
nest_quoted b d = cond (eqb b 92) (nest true d 1) (nest (not (eqb b 34)) d 0)

-- behind one outside comments: "quotes open only outside comments .., a stray `)` counts nothing"
unfoldable pub nest_outside : ℕ → Nest
nest_outside b = cond (eqb b 40) (nest false 1 0) (nest (eqb b 34) 0 0)

-- behind one in comments, d more than one being open
unfoldable pub nest_comment : ℕ → ℕ → Nest
nest_comment b d =
    cond (eqb b 92) (nest false (suc d) 1)
    (cond (eqb b 40) (nest false (suc (suc d)) 0)
    (cond (eqb b 41) (nest false d 0) (nest false (suc d) 0)))

unfoldable pub nest_of : ℕ → Bool → ℕ → Nest
unfolding nest_quoted nest_outside nest_comment
nest_of b true d = nest_quoted b d
nest_of b false zero = nest_outside b
nest_of b false (suc d) = nest_comment b d

-- behind a byte, of which the one before may have taken it
unfoldable pub nest_behind : ℕ → Nest → Nest
unfolding nest_of
nest_behind b n = cond (ltb 0 n.skip) (nest n.quote n.depth (n.skip - 1)) (nest_of b n.quote n.depth)

-- the most comments that are open at once, `skip` bytes being passed first
unfoldable pub deepest : ℕ → Bool → ℕ → List ℕ → ℕ
unfolding nest_of
deepest skip q d [] = d
deepest (suc skip) q d (x ∷ s) = deepest skip q d s
deepest zero q d (x ∷ s) = max d (deepest (nest_of x q d).skip (nest_of x q d).quote (nest_of x q d).depth s)

-- refusal 9
unfoldable pub nests_too_deep : List ℕ → Bool
unfolding deepest
nests_too_deep s = ltb deepest_comment (deepest zero false zero s)
