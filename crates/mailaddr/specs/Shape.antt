-- Document 01, "Address to record": the accepted shape of an Internet address, unquoting, and quoting.
-- Assumes nothing.
use Rattle.std.specs.Prelude.{ℕ, ◌+◌, ◌-◌, Bool, true, false, ◌&&◌, ◌||◌, cond, List, [], ◌∷◌, ◌++◌, Option, Some, None, eqb, length, get_or, take, drop}
use Rattle.std.proofs.Math.Option as math
use Rattle.chars.specs.Lists.{all, first, non_empty}
use Rattle.chars.specs.Class.{between, is_quotable}
use Rattle.chars.specs.Parts.{is_atoms, run}
use Rattle.chars.specs.Spaces.{well_spaced}

-- request 12, refusal 2: "an address over 2,304 bytes"
abbrev pub longest_address : ℕ
longest_address = 2304

-- An address of the accepted shape: "a local part, `@`, a domain".
pub record Address : Type 0 where
  pub local : List ℕ
  pub is_quoted : Bool
  pub domain : List ℕ

-- what a quoted string is made of: "bytes 32 to 126"
unfoldable pub is_text : ℕ → Bool
unfolding between
is_text b = between 32 126 b

-- how many bytes of a quoted string stand behind its opening quote, the closing one included: "a backslash takes the next". None
-- where it does not close, or has another byte.
unfoldable pub more : ℕ → Option ℕ → Option ℕ
more n None = None
more n (Some k) = Some (n + k)

unfoldable pub closing : List ℕ → Option ℕ
unfolding more is_text
closing [] = None
closing (x ∷ []) = cond (eqb x 34) (Some 1) None
closing (x ∷ y ∷ s) =
    cond (eqb x 34) (Some 1)
    (cond (eqb x 92) (cond (is_text y) (more 2 (closing s)) None)
    (cond (is_text x) (more 1 (closing (y ∷ s))) None))

-- the address whose local part is the first n bytes: an `@` and a domain, "atoms joined by dots", follow
unfoldable pub with_local : Bool → ℕ → List ℕ → math.Option Address
unfolding is_atoms
with_local q n s =
    cond (eqb (get_or s n 0) 64 && is_atoms (drop (n + 1) s))
    (math.some (record { local = take n s; is_quoted = q; domain = drop (n + 1) s }))
    math.none

-- "one quoted string"
unfoldable pub quoted_shape : List ℕ → Option ℕ → math.Option Address
unfolding with_local
quoted_shape s None = math.none
quoted_shape s (Some n) = with_local true (n + 1) s

-- "RFC 822 atoms joined by single dots", which have no `@`
unfoldable pub plain_shape : List ℕ → math.Option Address
unfolding with_local is_atoms run
plain_shape s = cond (is_atoms (take (run 64 s) s)) (with_local false (run 64 s) s) math.none

-- document 01: "Accepted shape"
unfoldable pub shape_of : List ℕ → math.Option Address
unfolding quoted_shape plain_shape closing first
shape_of s = cond (eqb (first s) 34) (quoted_shape s (closing (drop 1 s))) (plain_shape s)

-- ---- unquoting

-- what stands between the quotes, each backslash gone
unfoldable pub unescaped : List ℕ → List ℕ
unescaped [] = []
unescaped (x ∷ []) = x ∷ []
unescaped (x ∷ y ∷ s) = cond (eqb x 92) (y ∷ unescaped s) (x ∷ unescaped (y ∷ s))

-- the text without its first and its last byte
unfoldable pub inner : List ℕ → List ℕ
inner s = take (length s - 2) (drop 1 s)

-- document 01: "Unquote the local part."
unfoldable pub unquoted_local : Address → List ℕ
unfolding unescaped inner
unquoted_local a = cond a.is_quoted (unescaped (inner a.local)) a.local

-- The local part can be read: it is not empty, has no leading, trailing or adjacent spaces, and no character outside "the
-- printable string set and `$`".
unfoldable pub is_readable : List ℕ → Bool
unfolding non_empty well_spaced all is_quotable
is_readable s = non_empty s && well_spaced s && all is_quotable s

-- ---- quoting

-- a backslash before each quote and backslash
unfoldable pub escaped : List ℕ → List ℕ
escaped [] = []
escaped (x ∷ s) = cond (eqb x 34 || eqb x 92) (92 ∷ x ∷ escaped s) (x ∷ escaped s)

-- document 01: "It is quoted when it isn't atoms joined by dots."
unfoldable pub quoted_local : List ℕ → List ℕ
unfolding escaped is_atoms
quoted_local s = cond (is_atoms s) s (34 ∷ escaped s ++ (34 ∷ []))

-- an address of a local part's text and a domain
unfoldable pub address_text : List ℕ → List ℕ → List ℕ
unfolding quoted_local
address_text s d = quoted_local s ++ 64 ∷ d
