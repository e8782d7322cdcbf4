-- A route is what its production says, route = 1#("@" domain) ":": behind an `@` stands a domain, and behind that a comma and more of the list, or
-- the colon.
-- Assumes nothing.
use mathlib.Core.Path.{◌≡◌, refl, sym, ◌∙◌}
use mathlib.Core.Bool.{Bool, true, false, cond}
use mathlib.Core.List.{List, [], ◌∷◌}
use mathlib.Core.Option.{Option, none, some}
use lib.Dec.{eqb}
use Rattle.chars.proofs.Laws.Lists.{by_test}
use Rattle.lexical.specs.Tokens.{Token, Word, bad, special, word}
use Rattle.mailbox_address.specs.Grammar.{Dotted, allowed, alone, before, domain, dotted, element, route, sub_domain}

-- behind a domain: "," and further elements, or ":"
unfoldable pub behind_hop : List Token → Option (List Token)
unfolding route
behind_hop [] = none
behind_hop (word w ∷ ts) = none
behind_hop (bad ∷ ts) = none
behind_hop (special c ∷ ts) = cond (eqb c 44) (route (element true) ts) (cond (eqb c 58) (some ts) none)

unfoldable pub hop : Option Dotted → Option (List Token)
unfolding behind_hop
hop none = none
hop (some d) = behind_hop d.rest

hop_before : (w : Word) (o : Option Dotted) → hop (before w o) ≡ hop o
unfolding hop before
hop_before w none = refl
hop_before w (some d) = refl

-- where a sub-domain must stand, the rest of the route begins with a domain
sub-domain : (ts : List Token) → route sub_domain ts ≡ hop (dotted (allowed false) ts)
unfolding route dotted allowed alone hop behind_hop
sub-domain [] = refl
sub-domain (special c ∷ ts) = refl
sub-domain (bad ∷ ts) = refl
sub-domain (word w ∷ []) = by_test w.is_quoted (λ e. rw e) (λ e. rw e)
sub-domain (word w ∷ word v ∷ ts) = by_test w.is_quoted (λ e. rw e) (λ e. rw e)
sub-domain (word w ∷ bad ∷ ts) = by_test w.is_quoted (λ e. rw e) (λ e. rw e)
sub-domain (word w ∷ special c ∷ ts) =
    by_test w.is_quoted
    (λ e. by_test (eqb c 46) (λ f. rw (e, f)) (λ f. rw (e, f)))
    (λ e. by_test (eqb c 46) (λ f. rw (e, f) (sub-domain ts ∙ sym (hop_before (record { start = w.start; end = w.end; is_quoted = false; meaning = w.meaning }) (dotted (allowed false) ts)))) (λ f. rw (e, f)))

-- an element of the list: "@" domain
pub route_hop : (seen : Bool) (ts : List Token) → route (element seen) (special 64 ∷ ts) ≡ hop (domain ts)
unfolding route domain
route_hop seen ts = sub-domain ts

-- a null element, which does not count
pub route_null : (seen : Bool) (ts : List Token) → route (element seen) (special 44 ∷ ts) ≡ route (element seen) ts
unfolding route
route_null seen ts = refl

-- the end of the list, of which one element at least has been there
pub route-end : (seen : Bool) (ts : List Token) → route (element seen) (special 58 ∷ ts) ≡ cond seen (some ts) none
unfolding route
route-end seen ts = refl
