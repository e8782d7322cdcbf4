-- What the answers of the code that reads an address stand for.
-- Assumes nothing.
use Rattle.std.specs.Prelude.{◌≡◌, ℕ, ◌+◌, ◌-◌, ◌≤◌, Bool, true, false, ◌||◌, cond, List, [], ◌++◌, Option, None, Some, Result, Ok, Err, IfOk, MatchResult, eqb, take, drop}
use Rattle.std.proofs.Math.Option as math
use Rattle.lexical.specs.Answers.{Stands, tokens_of}
use Rattle.lexical.specs.Quoted.{meaning_in, quoted}
use Rattle.lexical.specs.Tokens.{Token}
use Rattle.lexical.specs.declared.token.Kind.{Kind}
use Rattle.lexical.specs.declared.token.Kind.TheVariants.{Atom, Bad, End, Quoted, Special}
use Rattle.lexical.specs.declared.token.Lexeme.{Lexeme}
use Rattle.mailbox_address.specs.Grammar.{AddrSpec, Dotted, any_quoted, behind_sub_domain, element, meaning_of, route, sub_domain}
use Rattle.mailbox_address.specs.declared.read.DottedRead.{DottedRead}
use Rattle.mailbox_address.specs.declared.read.SpecRead.{SpecRead}
use Rattle.mailbox_address.specs.declared.route.RouteState.{RouteState}
use Rattle.mailbox_address.specs.declared.route.RouteState.TheVariants.{Behind, Element, Over, Start, SubDomain}

-- ---- kinds of lexemes

abbrev pub is_word_kind : Kind → Bool
is_word_kind Atom = true
is_word_kind Quoted = true
is_word_kind (Special c) = false
is_word_kind End = false
is_word_kind Bad = false

abbrev pub is_quoted_kind : Kind → Bool
is_quoted_kind Atom = false
is_quoted_kind Quoted = true
is_quoted_kind (Special c) = false
is_quoted_kind End = false
is_quoted_kind Bad = false

abbrev pub is_allowed_kind : Kind → Bool → Bool
is_allowed_kind Atom q = true
is_allowed_kind Quoted q = q
is_allowed_kind (Special c) q = false
is_allowed_kind End q = false
is_allowed_kind Bad q = false

abbrev pub is_special_kind : Kind → ℕ → Bool
is_special_kind Atom b = false
is_special_kind Quoted b = false
is_special_kind (Special c) b = eqb c b
is_special_kind End b = false
is_special_kind Bad b = false

abbrev pub is_end_kind : Kind → Bool
is_end_kind Atom = false
is_end_kind Quoted = false
is_end_kind (Special c) = false
is_end_kind End = true
is_end_kind Bad = false

-- the text that a lexeme means
unfoldable pub meaning_by : List ℕ → Kind → ℕ → ℕ → List ℕ
unfolding meaning_in quoted
meaning_by s Atom a e = take (e - a) (drop a s)
meaning_by s Quoted a e = meaning_in (quoted 0 false (drop (a + 1) s))
meaning_by s (Special c) a e = []
meaning_by s End a e = []
meaning_by s Bad a e = []

unfoldable pub meaning_at : List ℕ → Lexeme → List ℕ
unfolding meaning_by
meaning_at s t = meaning_by s t.kind t.start t.end

-- ---- words joined by dots

-- their text behind what is there already, whether one of them or of those is quoted, and the tokens behind
pub record DottedText : Type 0 where
  pub text : List ℕ
  pub is_quoted : Bool
  pub rest : List Token

unfoldable pub after : List ℕ → Bool → math.Option Dotted → math.Option DottedText
unfolding meaning_of any_quoted
after sofar q math.none = math.none
after sofar q (math.some d) = math.some (record { text = sofar ++ meaning_of d.words; is_quoted = q || any_quoted d.words; rest = d.rest })

unfoldable pub told_dotted : List ℕ → Result DottedRead Lexeme → List ℕ → math.Option DottedText
unfolding tokens_of
told_dotted s (Err t) new = math.none
told_dotted s (Ok r) new = math.some (record { text = take r.size new; is_quoted = r.quoted; rest = tokens_of s r.next })

-- the token behind them stands in the line, and where there are none, that where reading stopped
pub record ReadsDotted (s : List ℕ) (o : math.Option DottedText) (r : Result DottedRead Lexeme) (new : List ℕ) : Type 0 where
  pub told : told_dotted s r new ≡ o
  pub stands : MatchResult r (λ d. Stands s d.next) (Stands s)
  pub low : IfOk r (λ d. d.size ≤ d.next.start)

-- ---- an addr-spec

pub record SpecText : Type 0 where
  pub local : List ℕ
  pub is_quoted : Bool
  pub domain : List ℕ
  pub rest : List Token

unfoldable pub spec_text : math.Option AddrSpec → math.Option SpecText
unfolding meaning_of any_quoted
spec_text math.none = math.none
spec_text (math.some a) = math.some (record { local = meaning_of a.local; is_quoted = any_quoted a.local; domain = meaning_of a.domain'; rest = a.rest })

-- a local part's text with the domain behind it
unfoldable pub domain_text : List ℕ → Bool → math.Option Dotted → math.Option SpecText
unfolding meaning_of
domain_text x q math.none = math.none
domain_text x q (math.some d) = math.some (record { local = x; is_quoted = q; domain = meaning_of d.words; rest = d.rest })

unfoldable pub told_spec : List ℕ → Result SpecRead Lexeme → List ℕ → math.Option SpecText
unfolding tokens_of
told_spec s (Err t) new = math.none
told_spec s (Ok r) new =
    math.some (record { local = take r.local new; is_quoted = r.quoted; domain = drop r.local (take r.size new); rest = tokens_of s r.next })

-- the token behind it stands in the line, and where there is none, that where reading stopped
pub record ReadsSpec (s : List ℕ) (o : math.Option SpecText) (r : Result SpecRead Lexeme) (new : List ℕ) : Type 0 where
  pub told : told_spec s r new ≡ o
  pub stands : MatchResult r (λ a. Stands s a.next) (Stands s)
  pub low : IfOk r (λ a. a.size ≤ a.next.start)
  pub parted : IfOk r (λ a. a.local ≤ a.size)

-- ---- a route

unfoldable pub route_by : RouteState → List Token → math.Option (List Token)
unfolding route
route_by Start ts = route (element false) ts
route_by Element ts = route (element true) ts
route_by SubDomain ts = route sub_domain ts
route_by Behind ts = route behind_sub_domain ts
route_by Over ts = math.some ts

-- the same where it may go on no further
unfoldable pub route_on : Option RouteState → List Token → math.Option (List Token)
unfolding route_by
route_on None ts = math.none
route_on (Some p) ts = route_by p ts

abbrev pub is_over : RouteState → Bool
is_over Start = false
is_over Element = false
is_over SubDomain = false
is_over Behind = false
is_over Over = true

abbrev pub element_step : ℕ → Bool → Option RouteState
element_step b seen =
    cond (eqb b 64) (Some SubDomain) (cond (eqb b 44) (Some (cond seen Element Start)) (cond (eqb b 58) (cond seen (Some Over) None) None))

abbrev pub behind_step : ℕ → Option RouteState
behind_step b = cond (eqb b 46) (Some SubDomain) (cond (eqb b 44) (Some Element) (cond (eqb b 58) (Some Over) None))

abbrev pub special_step : RouteState → ℕ → Option RouteState
special_step Start b = element_step b false
special_step Element b = element_step b true
special_step SubDomain b = None
special_step Behind b = behind_step b
special_step Over b = None

abbrev pub atom_step : RouteState → Option RouteState
atom_step Start = None
atom_step Element = None
atom_step SubDomain = Some Behind
atom_step Behind = None
atom_step Over = None

abbrev pub route_step : RouteState → Kind → Option RouteState
route_step p Atom = atom_step p
route_step p Quoted = None
route_step p (Special b) = special_step p b
route_step p End = None
route_step p Bad = None

unfoldable pub told_route : List ℕ → Result Lexeme Lexeme → math.Option (List Token)
unfolding tokens_of
told_route s (Err t) = math.none
told_route s (Ok t) = math.some (tokens_of s t)

-- the token behind it stands in the line, and where there is none, that where reading stopped
pub record ReadsRoute (s : List ℕ) (o : math.Option (List Token)) (r : Result Lexeme Lexeme) : Type 0 where
  pub told : told_route s r ≡ o
  pub stands : MatchResult r (Stands s) (Stands s)
