-- Laws of a route: one lexeme at a time.
-- Assumes nothing.
use mathlib.Core.Path.{◌≡◌, refl, sym}
use mathlib.Core.Bool.{Bool, true, false}
use mathlib.Core.List.{List, ◌∷◌}
use mathlib.Core.Option.{some}
use Rattle.std.proofs.Common.{Some}
use Rattle.std.proofs.lemmas.Option.{none-some}
use Prim.Native.Nat.{ℕ, ◌<◌}
use borrow.Author.Tests.{eqb-true}
use lib.Dec.{eqb}
use Rattle.chars.proofs.Laws.Lists.{by_test, true_not_false}
use Rattle.lexical.specs.Answers.{Stands, Whole, atom_word, quoted_word, tokens_by, tokens_of}
use Rattle.lexical.specs.Tokens.{Token, special, tokens_at}
use Rattle.mailbox_address.specs.Answers.{behind_step, element_step, is_over, is_word_kind, route_by, route_on, route_step}
use Rattle.mailbox_address.specs.Grammar.{behind_sub_domain, element, optional_route, route}
use Rattle.mailbox_address.specs.declared.route.RouteState.{RouteState}
use Rattle.mailbox_address.specs.declared.route.RouteState.TheVariants.{Behind, Element, Over, Start, SubDomain}
use Rattle.lexical.specs.declared.token.Kind.{Kind}
use Rattle.lexical.specs.declared.token.Kind.TheVariants.{Atom, Bad, End, Quoted, Special}
use Rattle.lexical.specs.declared.token.Lexeme.{Lexeme}

-- where an element may begin: the special says how the route goes on
from-element : (seen : Bool) (c : ℕ) (ts : List Token) → route (element seen) (special c ∷ ts) ≡ route_on (element_step c seen) ts
unfolding route route_by route_on
from-element true c ts =
    by_test (eqb c 64)
    (λ e. rw (eqb-true c 64 e))
    (λ e. by_test (eqb c 44) (λ f. rw (e, f)) (λ f. by_test (eqb c 58) (λ g. rw (e, f, g)) (λ g. rw (e, f, g))))
from-element false c ts =
    by_test (eqb c 64)
    (λ e. rw (eqb-true c 64 e))
    (λ e. by_test (eqb c 44) (λ f. rw (e, f)) (λ f. by_test (eqb c 58) (λ g. rw (e, f, g)) (λ g. rw (e, f, g))))

from-behind : (c : ℕ) (ts : List Token) → route behind_sub_domain (special c ∷ ts) ≡ route_on (behind_step c) ts
unfolding route route_by route_on
from-behind c ts =
    by_test (eqb c 46) (λ e. rw e)
    (λ e. by_test (eqb c 44) (λ f. rw (e, f)) (λ f. by_test (eqb c 58) (λ g. rw (e, f, g)) (λ g. rw (e, f, g))))

-- one lexeme of a route that goes on
by_step : (p : RouteState) (s : List ℕ) (k : Kind) (a e : ℕ) → is_over p ≡ false → route_by p (tokens_by s k a e) ≡ route_on (route_step p k) (tokens_at s e)
unfolding route_by route_on route tokens_by atom_word quoted_word
by_step Start s Atom a e h = refl
by_step Start s Quoted a e h = refl
by_step Start s (Special c) a e h = from-element false c (tokens_at s e)
by_step Start s End a e h = refl
by_step Start s Bad a e h = refl
by_step Element s Atom a e h = refl
by_step Element s Quoted a e h = refl
by_step Element s (Special c) a e h = from-element true c (tokens_at s e)
by_step Element s End a e h = refl
by_step Element s Bad a e h = refl
by_step SubDomain s Atom a e h = refl
by_step SubDomain s Quoted a e h = refl
by_step SubDomain s (Special c) a e h = refl
by_step SubDomain s End a e h = refl
by_step SubDomain s Bad a e h = refl
by_step Behind s Atom a e h = refl
by_step Behind s Quoted a e h = refl
by_step Behind s (Special c) a e h = from-behind c (tokens_at s e)
by_step Behind s End a e h = refl
by_step Behind s Bad a e h = refl
by_step Over s k a e h = true_not_false true refl h

pub route_steps : (p : RouteState) (s : List ℕ) (t : Lexeme) → is_over p ≡ false
    → route_by p (tokens_of s t) ≡ route_on (route_step p t.kind) (tokens_at s t.end)
unfolding tokens_of
route_steps p s t h = by_step p s t.kind t.start t.end h

pub over_some : (p : RouteState) (ts : List Token) → is_over p ≡ true → route_by p ts ≡ some ts
unfolding route_by
over_some Start ts h = true_not_false true refl (sym h)
over_some Element ts h = true_not_false true refl (sym h)
over_some SubDomain ts h = true_not_false true refl (sym h)
over_some Behind ts h = true_not_false true refl (sym h)
over_some Over ts h = refl

-- a lexeme over which a route goes on is not empty
ahead-by : (p q : RouteState) (s : List ℕ) (k : Kind) (a e : ℕ) → Some q ≡ route_step p k → Whole s k a e → a < e
ahead-by p q s Atom a e h w = w
ahead-by p q s Quoted a e h w = absurd (none-some q (sym h))
ahead-by p q s (Special c) a e h w = w
ahead-by p q s End a e h w = absurd (none-some q (sym h))
ahead-by p q s Bad a e h w = absurd (none-some q (sym h))

pub route-ahead : (p q : RouteState) (s : List ℕ) (t : Lexeme) → Some q ≡ route_step p t.kind → Stands s t → t.start < t.end
route-ahead p q s t h w = ahead-by p q s t.kind t.start t.end h w.whole

-- an optional route: none before a word
optional_by : (s : List ℕ) (k : Kind) (a e : ℕ) → is_word_kind k ≡ false → optional_route (tokens_by s k a e) ≡ route (element false) (tokens_by s k a e)
unfolding optional_route tokens_by route
optional_by s Atom a e h = true_not_false true refl h
optional_by s Quoted a e h = true_not_false true refl h
optional_by s (Special c) a e h = refl
optional_by s End a e h = refl
optional_by s Bad a e h = refl

pub optional_route_is : (s : List ℕ) (t : Lexeme) → is_word_kind t.kind ≡ false → optional_route (tokens_of s t) ≡ route (element false) (tokens_of s t)
unfolding tokens_of
optional_route_is s t h = optional_by s t.kind t.start t.end h

optional_none : (s : List ℕ) (k : Kind) (a e : ℕ) → is_word_kind k ≡ true → optional_route (tokens_by s k a e) ≡ some (tokens_by s k a e)
unfolding optional_route tokens_by
optional_none s Atom a e h = refl
optional_none s Quoted a e h = refl
optional_none s (Special c) a e h = true_not_false true refl (sym h)
optional_none s End a e h = true_not_false true refl (sym h)
optional_none s Bad a e h = true_not_false true refl (sym h)

pub no_route : (s : List ℕ) (t : Lexeme) → is_word_kind t.kind ≡ true → optional_route (tokens_of s t) ≡ some (tokens_of s t)
unfolding tokens_of
no_route s t h = optional_none s t.kind t.start t.end h
