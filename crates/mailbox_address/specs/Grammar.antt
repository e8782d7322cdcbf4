-- RFC 822, section 6.1, production by production, over the tokens of a line (without domain literals). White space and comments are gone from these.
-- Assumes nothing.
use Rattle.std.specs.Prelude.{ℕ, ◌-◌, Bool, true, false, ◌||◌, not, cond, List, [], ◌∷◌, map, eqb}
use Rattle.std.proofs.Math.Option.{Option, none, some}
use Rattle.chars.specs.Parts.{Place, join}
use Rattle.lexical.specs.Tokens.{Token, Word, bad, special, word}

-- ---- local-part = word *("." word); domain = sub-domain *("." sub-domain); sub-domain = domain-ref; domain-ref = atom

-- words that a test allows, single dots between them, and the tokens behind
pub record Dotted : Type 0 where
  pub words : List Word
  pub rest : List Token

unfoldable pub before : Word → Option Dotted → Option Dotted
before w none = none
before w (some d) = some (record { words = w ∷ d.words; rest = d.rest })

-- where the first word is allowed: it alone
unfoldable pub alone : Bool → Word → List Token → Option Dotted
alone b w ts = cond b (some (record { words = w ∷ []; rest = ts })) none

unfoldable pub dotted : (Word → Bool) → List Token → Option Dotted
unfolding before alone
dotted ok [] = none
dotted ok (special c ∷ ts) = none
dotted ok (bad ∷ ts) = none
dotted ok (word w ∷ []) = alone (ok w) w []
dotted ok (word w ∷ word v ∷ ts) = alone (ok w) w (word v ∷ ts)
dotted ok (word w ∷ bad ∷ ts) = alone (ok w) w (bad ∷ ts)
dotted ok (word w ∷ special c ∷ ts) =
    cond (eqb c 46) (cond (ok w) (before w (dotted ok ts)) none) (alone (ok w) w (special c ∷ ts))

-- a word, which a quoted string is too, where it may be one; or an atom alone
unfoldable pub allowed : Bool → Word → Bool
allowed quotable w = quotable || not w.is_quoted

unfoldable pub local_part : List Token → Option Dotted
unfolding dotted allowed
local_part ts = dotted (allowed true) ts

unfoldable pub domain : List Token → Option Dotted
unfolding dotted allowed
domain ts = dotted (allowed false) ts

-- the text that words joined by dots mean
unfoldable pub meaning_of : List Word → List ℕ
unfolding join
meaning_of ws = join 46 (map (λ (w : Word). w.meaning) ws)

unfoldable pub any_quoted : List Word → Bool
any_quoted [] = false
any_quoted (w ∷ ws) = w.is_quoted || any_quoted ws

-- ---- addr-spec = local-part "@" domain

pub record AddrSpec : Type 0 where
  pub local : List Word
  pub domain' : List Word
  pub rest : List Token

-- the tokens behind this special, which must be the first
unfoldable pub behind : ℕ → List Token → Option (List Token)
behind b [] = none
behind b (word w ∷ ts) = none
behind b (bad ∷ ts) = none
behind b (special c ∷ ts) = cond (eqb c b) (some ts) none

unfoldable pub with_domain : List Word → Option Dotted → Option AddrSpec
with_domain ws none = none
with_domain ws (some d) = some (record { local = ws; domain' = d.words; rest = d.rest })

unfoldable pub at_domain : List Word → Option (List Token) → Option AddrSpec
unfolding with_domain domain
at_domain ws none = none
at_domain ws (some ts) = with_domain ws (domain ts)

unfoldable pub with_local : Option Dotted → Option AddrSpec
unfolding at_domain behind
with_local none = none
with_local (some d) = at_domain d.words (behind 64 d.rest)

unfoldable pub addr_spec : List Token → Option AddrSpec
unfolding with_local local_part
addr_spec ts = with_local (local_part ts)

-- ---- route = 1#("@" domain) ":"; section 2.7: elements of a list with commas between, where null elements may stand that do not count

-- in a route: where an element of the list may begin (one has been there or not), where a sub-domain must stand, or behind one
pub data InRoute : Type 0 where
  element : Bool → InRoute
  sub_domain : InRoute
  behind_sub_domain : InRoute

-- the tokens behind the route's colon
unfoldable pub route : InRoute → List Token → Option (List Token)
route p [] = none
route p (bad ∷ ts) = none
route (element seen) (word w ∷ ts) = none
route (element seen) (special c ∷ ts) =
    cond (eqb c 44) (route (element seen) ts)
    (cond (eqb c 64) (route sub_domain ts)
    (cond (eqb c 58) (cond seen (some ts) none) none))
route sub_domain (special c ∷ ts) = none
route sub_domain (word w ∷ ts) = cond w.is_quoted none (route behind_sub_domain ts)
route behind_sub_domain (word w ∷ ts) = none
route behind_sub_domain (special c ∷ ts) =
    cond (eqb c 46) (route sub_domain ts)
    (cond (eqb c 44) (route (element true) ts)
    (cond (eqb c 58) (some ts) none))

-- [route]: an addr-spec begins with a word, and a route does not
unfoldable pub optional_route : List Token → Option (List Token)
unfolding route
optional_route [] = none
optional_route (bad ∷ ts) = none
optional_route (word w ∷ ts) = some (word w ∷ ts)
optional_route (special c ∷ ts) = route (element false) (special c ∷ ts)

-- ---- route-addr = "<" [route] addr-spec ">"

unfoldable pub going_on : AddrSpec → Option (List Token) → Option AddrSpec
going_on a none = none
going_on a (some ts) = some (record { local = a.local; domain' = a.domain'; rest = ts })

unfoldable pub closed_by : Option AddrSpec → Option AddrSpec
unfolding behind going_on
closed_by none = none
closed_by (some a) = going_on a (behind 62 a.rest)

unfoldable pub addr_spec_in : Option (List Token) → Option AddrSpec
unfolding addr_spec
addr_spec_in none = none
addr_spec_in (some ts) = addr_spec ts

unfoldable pub route_in : Option (List Token) → Option (List Token)
unfolding optional_route
route_in none = none
route_in (some ts) = optional_route ts

unfoldable pub route_addr : List Token → Option AddrSpec
unfolding behind route_in addr_spec_in closed_by
route_addr ts = closed_by (addr_spec_in (route_in (behind 60 ts)))

-- ---- phrase = 1*word

-- where the last word ends, one that ends at e being read, and the tokens behind
pub record Phrase : Type 0 where
  pub end : ℕ
  pub rest : List Token

unfoldable pub phrase_from : ℕ → List Token → Phrase
phrase_from e [] = record { end = e; rest = [] }
phrase_from e (special c ∷ ts) = record { end = e; rest = special c ∷ ts }
phrase_from e (bad ∷ ts) = record { end = e; rest = bad ∷ ts }
phrase_from e (word w ∷ ts) = phrase_from w.end ts

-- ---- mailbox = addr-spec / phrase route-addr

-- "shows where the phrase stands in the lent line, first word to last", or size 0 at the line's start
pub record Mailbox : Type 0 where
  pub local : List Word
  pub domain' : List Word
  pub phrase : Place

-- the whole line is one mailbox: nothing is left
unfoldable pub ended : ℕ → ℕ → AddrSpec → List Token → Option Mailbox
ended start size a [] = some (record { local = a.local; domain' = a.domain'; phrase = record { start = start; size = size } })
ended start size a (t ∷ ts) = none

unfoldable pub whole : ℕ → ℕ → Option AddrSpec → Option Mailbox
unfolding ended
whole start size none = none
whole start size (some a) = ended start size a a.rest

unfoldable pub named : List Token → Option Mailbox
unfolding whole route_addr phrase_from
named [] = none
named (special c ∷ ts) = none
named (bad ∷ ts) = none
named (word w ∷ ts) = whole w.start ((phrase_from w.end ts).end - w.start) (route_addr (phrase_from w.end ts).rest)

unfoldable pub or_else : Option Mailbox → Option Mailbox → Option Mailbox
or_else none m = m
or_else (some m) n = some m

unfoldable pub mailbox : List Token → Option Mailbox
unfolding or_else whole addr_spec named
mailbox ts = or_else (whole 0 0 (addr_spec ts)) (named ts)
