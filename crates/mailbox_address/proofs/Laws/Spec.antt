-- Laws of an addr-spec and a route-addr, over the texts that the code has of them.
-- Assumes nothing.
use mathlib.Core.Path.{◌≡◌, refl, sym, ap, ◌∙◌}
use mathlib.Core.Bool.{Bool, true, false}
use mathlib.Core.List.{List, [], ◌++◌}
use mathlib.Core.Option.{Option, none, some}
use Rattle.std.proofs.Common.{Ok, Err}
use Prim.Native.Nat.{ℕ, ◌≤◌}
use borrow.Author.Tests.{eq-eqb}
use native.Mathlib.Omega.{arith}
use lib.Dec.{eqb}
use lib.ListN.{length, take, drop, length-append, length-take}
use lib.Seq.{drop-append_seam, take-append_seam, take-take}
use Rattle.lexical.specs.Answers.{Stands, tokens_by, tokens_of}
use Rattle.lexical.specs.Tokens.{Token, Word, tokens_at}
use Rattle.mailbox_address.specs.Answers.{DottedText, ReadsSpec, SpecText, after, domain_text, is_special_kind, spec_text, told_dotted, told_route, told_spec}
use Rattle.mailbox_address.specs.Grammar.{AddrSpec, Dotted, addr_spec, addr_spec_in, allowed, any_quoted, at_domain, behind, closed_by, domain, dotted, going_on, local_part, meaning_of, optional_route, route_addr, route_in, with_domain, with_local}
use Rattle.mailbox_address.specs.declared.read.DottedRead.{DottedRead}
use Rattle.mailbox_address.specs.declared.read.SpecRead.{SpecRead}
use Rattle.lexical.specs.declared.token.Kind.{Kind}
use Rattle.lexical.specs.declared.token.Kind.TheVariants.{Atom, Bad, End, Quoted, Special}
use Rattle.lexical.specs.declared.token.Lexeme.{Lexeme}
use Rattle.mailbox_address.proofs.Laws.Lexeme.{special-tokens}

-- ---- behind a special

behind-by : (s : List ℕ) (k : Kind) (a e b : ℕ) → is_special_kind k b ≡ false → behind b (tokens_by s k a e) ≡ none
unfolding behind tokens_by
behind-by s Atom a e b h = refl
behind-by s Quoted a e b h = refl
behind-by s (Special c) a e b h = rw h
behind-by s End a e b h = refl
behind-by s Bad a e b h = refl

pub behind_other : (s : List ℕ) (t : Lexeme) (b : ℕ) → is_special_kind t.kind b ≡ false → behind b (tokens_of s t) ≡ none
unfolding tokens_of
behind_other s t b h = behind-by s t.kind t.start t.end b h

same_byte_lem : (b : ℕ) → eqb b b ≡ true
same_byte_lem b = eq-eqb b b refl

pub behind_it : (s : List ℕ) (t : Lexeme) (b : ℕ) → is_special_kind t.kind b ≡ true → behind b (tokens_of s t) ≡ some (tokens_at s t.end)
unfolding behind
behind_it s t b h = ap (behind b) (special-tokens s t b h) ∙ rw (same_byte_lem b)

-- ---- the local part and the domain of an addr-spec

-- a local part's text, and what stands behind its `@`
abbrev pub domain_at : List ℕ → Bool → Option (List Token) → Option SpecText
domain_at x q none = none
domain_at x q (some ts) = domain_text x q (domain ts)

abbrev pub from_local : Option DottedText → Option SpecText
from_local none = none
from_local (some t) = domain_at t.text t.is_quoted (behind 64 t.rest)

with_domain_lem : (ws : List Word) (o : Option Dotted) → spec_text (with_domain ws o) ≡ domain_text (meaning_of ws) (any_quoted ws) o
unfolding spec_text with_domain domain_text
with_domain_lem ws none = refl
with_domain_lem ws (some d) = refl

at-domain : (ws : List Word) (o : Option (List Token)) → spec_text (at_domain ws o) ≡ domain_at (meaning_of ws) (any_quoted ws) o
unfolding spec_text at_domain
at-domain ws none = refl
at-domain ws (some ts) = with_domain_lem ws (domain ts)

with_local_lem : (o : Option Dotted) → spec_text (with_local o) ≡ from_local (after [] false o)
unfolding spec_text with_local after
with_local_lem none = refl
with_local_lem (some d) = at-domain d.words (behind 64 d.rest)

pub addr_spec_is : (ts : List Token) → spec_text (addr_spec ts) ≡ from_local (after [] false (dotted (allowed true) ts))
unfolding addr_spec local_part
addr_spec_is ts = with_local_lem (dotted (allowed true) ts)

-- a domain's text behind a local part's
abbrev pub parted : List ℕ → Bool → Option DottedText → Option SpecText
parted x q none = none
parted x q (some t) = some (record { local = x; is_quoted = q; domain = drop (length x) t.text; rest = t.rest })

pub domain-parted : (x : List ℕ) (q b : Bool) (o : Option Dotted) → domain_text x q o ≡ parted x q (after x b o)
unfolding after domain_text
domain-parted x q b none = refl
domain-parted x q b (some d) = rw (drop-append_seam x (meaning_of d.words))

-- ---- what the code read

-- an addr-spec that does not stand there, and the token where reading stopped
pub unread : {s new : List ℕ} {t : Lexeme} {o : Option SpecText} → o ≡ none → Stands s t → ReadsSpec s o (Err t) new
unfolding told_spec
unread h w = record { told = sym h; stands = w; low = tt; parted = tt }

-- the text of words that were read
unfoldable text_in : Option DottedText → List ℕ
text_in none = []
text_in (some t) = t.text

-- a text whose front is x: as much of the buffer is x
front_is : (x m new : List ℕ) (n : ℕ) → take n new ≡ x ++ m → (take (length x) new ≡ x) × (length x ≤ n)
front_is x m new n h =
    let l : length x ≤ n = omega (arith, ap length h, length-append x m, length-take n new) in
    (sym (take-take (length x) n new l) ∙ ap (take (length x)) h ∙ take-append_seam x m, l)

text_of : (x : List ℕ) (o : Option Dotted) (t : DottedText) → some t ≡ after x false o → (m : List ℕ) × (t.text ≡ x ++ m)
unfolding after text_in
text_of x none t h = absurd cc
text_of x (some d) t h = (meaning_of d.words, ap text_in h)

pub spec_none : (s new : List ℕ) (t : Lexeme) (ts : List Token) → told_dotted s (Err t) new ≡ after [] false (dotted (allowed true) ts)
    → spec_text (addr_spec ts) ≡ none
unfolding told_dotted
spec_none s new t ts h = addr_spec_is ts ∙ ap from_local (sym h)

module _ (s new : List ℕ) (l : DottedRead) (ts : List Token) (h : told_dotted s (Ok l) new ≡ after [] false (dotted (allowed true) ts)) where
  pub spec_other : is_special_kind l.next.kind 64 ≡ false → spec_text (addr_spec ts) ≡ none
  unfolding told_dotted
  spec_other g = addr_spec_is ts ∙ ap from_local (sym h) ∙ rw (behind_other s l.next 64 g)

  pub spec_at : is_special_kind l.next.kind 64 ≡ true → spec_text (addr_spec ts) ≡ domain_text (take l.size new) l.quoted (domain (tokens_at s l.next.end))
  unfolding told_dotted
  spec_at g = addr_spec_is ts ∙ ap from_local (sym h) ∙ rw (behind_it s l.next 64 g)

pub domain-unread : (s new x : List ℕ) (q : Bool) (t : Lexeme) (ts : List Token) → told_dotted s (Err t) new ≡ after x false (dotted (allowed false) ts)
    → domain_text x q (domain ts) ≡ none
unfolding domain told_dotted
domain-unread s new x q t ts h = domain-parted x q false (dotted (allowed false) ts) ∙ ap (parted x q) (sym h)

module _ (s new x : List ℕ) (q : Bool) (d : DottedRead) (ts : List Token) (h : told_dotted s (Ok d) new ≡ after x false (dotted (allowed false) ts)) where
  read-text : (m : List ℕ) × (take d.size new ≡ x ++ m)
  unfolding told_dotted
  read-text = text_of x (dotted (allowed false) ts) (record { text = take d.size new; is_quoted = d.quoted; rest = tokens_of s d.next }) h

  pub domain-read : (n : ℕ) → length x ≡ n
      → (told_spec s (Ok (record { local = n; size = d.size; quoted = q; next = d.next })) new ≡ domain_text x q (domain ts)) × (n ≤ d.size)
  unfolding domain told_spec told_dotted
  domain-read n e =
      let p = front_is x read-text.0 new d.size read-text.1 in (
        sym (domain-parted x q false (dotted (allowed false) ts) ∙ ap (parted x q) (sym h) ∙ rw (e, sym (rw e at p.0))),
        omega (arith, p.1),
      )

-- ---- route-addr

abbrev pub going_text : SpecText → Option (List Token) → Option SpecText
going_text t none = none
going_text t (some ts) = some (record { local = t.local; is_quoted = t.is_quoted; domain = t.domain; rest = ts })

abbrev pub close_text : Option SpecText → Option SpecText
close_text none = none
close_text (some t) = going_text t (behind 62 t.rest)

going_text_lem : (a : AddrSpec) (o : Option (List Token)) → spec_text (going_on a o) ≡ going_text (record { local = meaning_of a.local; is_quoted = any_quoted a.local; domain = meaning_of a.domain'; rest = a.rest }) o
unfolding spec_text going_on
going_text_lem a none = refl
going_text_lem a (some ts) = refl

pub closed-text : (o : Option AddrSpec) → spec_text (closed_by o) ≡ close_text (spec_text o)
unfolding spec_text closed_by
closed-text none = refl
closed-text (some a) = going_text_lem a (behind 62 a.rest)

pub close_none : (s new : List ℕ) (t : Lexeme) (o : Option AddrSpec) → told_spec s (Err t) new ≡ spec_text o → spec_text (closed_by o) ≡ none
unfolding told_spec
close_none s new t o h = closed-text o ∙ ap close_text (sym h)

module _ (s new : List ℕ) (a : SpecRead) (o : Option AddrSpec) (h : told_spec s (Ok a) new ≡ spec_text o) where
  pub close_other : is_special_kind a.next.kind 62 ≡ false → spec_text (closed_by o) ≡ none
  unfolding told_spec
  close_other g = closed-text o ∙ ap close_text (sym h) ∙ rw (behind_other s a.next 62 g)

  pub close_it : is_special_kind a.next.kind 62 ≡ true → (u : Lexeme) → tokens_at s a.next.end ≡ tokens_of s u
      → told_spec s (Ok (record { local = a.local; size = a.size; quoted = a.quoted; next = u })) new ≡ spec_text (closed_by o)
  unfolding told_spec
  close_it g u l = sym (closed-text o ∙ ap close_text (sym h) ∙ rw (behind_it s a.next 62 g, l))

-- a route-addr: its `<`, its route and its address
pub route_addr-none : (s : List ℕ) (t : Lexeme) → is_special_kind t.kind 60 ≡ false → spec_text (route_addr (tokens_of s t)) ≡ none
unfolding route_addr route_in addr_spec_in closed_by spec_text
route_addr-none s t h = rw (behind_other s t 60 h)

module _ (s : List ℕ) (t u : Lexeme) (h : is_special_kind t.kind 60 ≡ true) (l : tokens_at s t.end ≡ tokens_of s u) where
  route_addr_is : route_addr (tokens_of s t) ≡ closed_by (addr_spec_in (optional_route (tokens_of s u)))
  unfolding route_addr route_in
  route_addr_is = rw (behind_it s t 60 h, l)

  pub route-unread : (r : Lexeme) → told_route s (Err r) ≡ optional_route (tokens_of s u) → spec_text (route_addr (tokens_of s t)) ≡ none
  unfolding told_route addr_spec_in closed_by spec_text
  route-unread r e = rw (route_addr_is, sym e)

  pub route-read : (r : Lexeme) → told_route s (Ok r) ≡ optional_route (tokens_of s u)
      → spec_text (route_addr (tokens_of s t)) ≡ spec_text (closed_by (addr_spec (tokens_of s r)))
  unfolding told_route addr_spec_in
  route-read r e = rw (route_addr_is, sym e)
