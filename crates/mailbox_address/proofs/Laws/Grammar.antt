-- Laws of the grammar: what a mailbox has, its words and its phrase, comes from the tokens that are read.
-- Assumes nothing.
use mathlib.Core.Path.{◌≡◌, refl, sym, ap}
use mathlib.Core.Bool.{Bool, true, false, not, cond}
use mathlib.Core.List.{List, [], ◌∷◌}
use mathlib.Core.Option.{Option, none, some}
use Prim.Native.Nat.{ℕ, suc, ◌+◌, ◌-◌, ◌≤◌}
use native.Mathlib.Omega.{arith}
use borrow.Author.Tests.{eqb-true, not-true}
use lib.Dec.{eqb}
use Rattle.chars.specs.Lists.{all, non_empty}
use Rattle.chars.proofs.Laws.Lists.{and_both, and_left, and_right, by_test}
use Rattle.chars.proofs.Laws.Options.{none-some, some_same}
use Rattle.lexical.specs.Tokens.{Token, Word, bad, special, word}
use Rattle.mailbox_address.specs.Grammar.{AddrSpec, Dotted, InRoute, Mailbox, addr_spec, addr_spec_in, allowed, alone, any_quoted, at_domain, before, behind, behind_sub_domain, closed_by, domain, dotted, element, ended, going_on, local_part, mailbox, named, optional_route, or_else, phrase_from, route, route_addr, route_in, sub_domain, whole, with_domain, with_local}
use Rattle.lexical.proofs.Laws.Line.{TokensIn, WordIn, WordsIn, token_bytes, tokens-tail, tokens-word, word_bytes}
use Rattle.mailbox_address.proofs.Laws.Words.{EachMeans, dotted_bytes}

-- ---- words joined by dots

-- they are words of the line that the test allows, at least one, and with what is left take no more bytes than the tokens, a
-- last dot aside
pub record DottedIn (n k : ℕ) (ok : Word → Bool) (d : Dotted) : Type 0 where
  pub some_words : non_empty d.words ≡ true
  pub each : EachMeans d.words
  pub fit : all ok d.words ≡ true
  pub rest-words : WordsIn n d.rest
  pub size : dotted_bytes d.words + token_bytes d.rest ≤ suc k

module _ (n : ℕ) (ok : Word → Bool) where
  alone_in : {k : ℕ} (b : Bool) (w : Word) (ts : List Token) (d : Dotted) → ok w ≡ b → alone b w ts ≡ some d
      → WordIn n w → WordsIn n ts → word_bytes w + token_bytes ts ≤ k → DottedIn n k ok d
  unfolding alone EachMeans dotted_bytes all non_empty
  alone_in true w ts d e h i r l =
      rw (sym (some_same h)) (record { some_words = refl; each = (i.means, tt); fit = and_both e refl; rest-words = r; size = omega arith })
  alone_in false w ts d e h i r l = none-some h

  before_in : {k : ℕ} (w : Word) (o : Option Dotted) (d : Dotted) → ok w ≡ true → before w o ≡ some d
      → WordIn n w → ((r : Dotted) → o ≡ some r → DottedIn n k ok r) → DottedIn n (word_bytes w + suc k) ok d
  unfolding before EachMeans dotted_bytes all non_empty
  before_in w none d e h i f = none-some h
  before_in w (some r) d e h i f =
      let g = f r refl in
      rw (sym (some_same h)) (record { some_words = refl; each = (i.means, g.each); fit = and_both e g.fit; rest-words = g.rest-words; size = omega (arith, g.size) })

  dotted_in : (ts : List Token) (d : Dotted) → dotted ok ts ≡ some d → WordsIn n ts → DottedIn n (token_bytes ts) ok d
  unfolding dotted WordsIn token_bytes
  dotted_in [] d h t = none-some h
  dotted_in (special c ∷ ts) d h t = none-some h
  dotted_in (bad ∷ ts) d h t = none-some h
  dotted_in (word w ∷ []) d h t = alone_in (ok w) w [] d refl h t.0 t.1 (omega arith)
  dotted_in (word w ∷ word v ∷ ts) d h t = alone_in (ok w) w (word v ∷ ts) d refl h t.0 t.1 (omega arith)
  dotted_in (word w ∷ bad ∷ ts) d h t = alone_in (ok w) w (bad ∷ ts) d refl h t.0 t.1 (omega arith)
  dotted_in (word w ∷ special c ∷ ts) d h t =
      by_test (eqb c 46)
      (λ e. by_test (ok w)
      (λ f. before_in w (dotted ok ts) d f (rw (e, f) at h) t.0 (λ r q. dotted_in ts r q t.1))
      (λ f. none-some (rw (e, f) at h)))
      (λ e. alone_in (ok w) w (special c ∷ ts) d refl (rw e at h) t.0 t.1 (omega arith))

-- ---- an addr-spec

-- the words of an address that takes at most k bytes
pub record AddressWords (k : ℕ) (l d : List Word) : Type 0 where
  pub local-some : non_empty l ≡ true
  pub local_means : EachMeans l
  pub domain-some : non_empty d ≡ true
  pub domain_means : EachMeans d
  pub domain-atoms : any_quoted d ≡ false
  pub size : dotted_bytes l + dotted_bytes d ≤ suc k

none-quoted : (ws : List Word) → all (allowed false) ws ≡ true → any_quoted ws ≡ false
unfolding all allowed any_quoted
none-quoted [] h = refl
none-quoted (w ∷ ws) h =
    rw (not-true w.is_quoted (and_left (not w.is_quoted) (all (allowed false) ws) h))
    (none-quoted ws (and_right (not w.is_quoted) (all (allowed false) ws) h))

behind-some : (b : ℕ) (ts us : List Token) → behind b ts ≡ some us → ts ≡ special b ∷ us
unfolding behind
behind-some b [] us h = none-some h
behind-some b (word w ∷ ts) us h = none-some h
behind-some b (bad ∷ ts) us h = none-some h
behind-some b (special c ∷ ts) us h =
    by_test (eqb c b)
    (λ e. rw (eqb-true c b e, some_same (rw e at h)))
    (λ e. none-some (rw e at h))

module _ (n k : ℕ) where
  domain-words : (us : List Token) (o : Option Dotted) (d : Dotted) (a : AddrSpec) → with_domain d.words o ≡ some a → domain us ≡ o
      → d.rest ≡ special 64 ∷ us → DottedIn n k (allowed true) d → AddressWords k a.local a.domain'
  unfolding with_domain domain WordsIn token_bytes
  domain-words us none d a h q r g = none-some h
  domain-words us (some e) d a h q r g =
      let i = dotted_in n (allowed false) us e q (rw r at g.rest-words) in
      let b : token_bytes d.rest ≡ suc (token_bytes us) = ap token_bytes r in
      rw (sym (some_same h))
      (record {
        local-some = g.some_words;
        local_means = g.each;
        domain-some = i.some_words;
        domain_means = i.each;
        domain-atoms = none-quoted e.words i.fit;
        size = omega (arith, g.size, i.size);
      })

  at_words : (o : Option (List Token)) (d : Dotted) (a : AddrSpec) → at_domain d.words o ≡ some a → behind 64 d.rest ≡ o
      → DottedIn n k (allowed true) d → AddressWords k a.local a.domain'
  unfolding at_domain
  at_words none d a h e g = none-some h
  at_words (some us) d a h e g = domain-words us (domain us) d a h refl (behind-some 64 d.rest us e) g

  local-words : (o : Option Dotted) (a : AddrSpec) → with_local o ≡ some a → ((d : Dotted) → o ≡ some d → DottedIn n k (allowed true) d)
      → AddressWords k a.local a.domain'
  unfolding with_local
  local-words none a h f = none-some h
  local-words (some d) a h f = at_words (behind 64 d.rest) d a h refl (f d refl)

  wider : {j : ℕ} {ok : Word → Bool} {d : Dotted} → j ≤ k → DottedIn n j ok d → DottedIn n k ok d
  wider l h = record { some_words = h.some_words; each = h.each; fit = h.fit; rest-words = h.rest-words; size = omega (arith, h.size) }

  addr_words : (ts : List Token) (a : AddrSpec) → addr_spec ts ≡ some a → TokensIn n k ts → AddressWords k a.local a.domain'
  unfolding addr_spec local_part
  addr_words ts a h t =
      local-words (local_part ts) a h
      (λ d e. wider {j = token_bytes ts} t.size (dotted_in n (allowed true) ts d e t.words))

-- ---- what stands before an addr-spec

-- one of two
either : {X A : Type 0} {a : A} (t : Bool) {o p : Option A} → cond t o p ≡ some a → (o ≡ some a → X) → (p ≡ some a → X) → X
either true h f g = f h
either false h f g = g h

module _ (n k : ℕ) where
  behind_in : (b : ℕ) (ts us : List Token) → behind b ts ≡ some us → TokensIn n k ts → TokensIn n k us
  behind_in b ts us h t = tokens-tail (special b) us (rw (behind-some b ts us h) at t)

  route_in_lem : (p : InRoute) (ts us : List Token) → route p ts ≡ some us → TokensIn n k ts → TokensIn n k us
  unfolding route
  route_in_lem p [] us h t = none-some h
  route_in_lem p (bad ∷ ts) us h t = none-some h
  route_in_lem (element seen) (word w ∷ ts) us h t = none-some h
  route_in_lem (element seen) (special c ∷ ts) us h t =
      let r = tokens-tail (special c) ts t in
      either (eqb c 44) h (λ g. route_in_lem (element seen) ts us g r)
      (λ h. either (eqb c 64) h (λ g. route_in_lem sub_domain ts us g r)
      (λ h. either (eqb c 58) h (λ h. either seen h (λ g. rw (some_same g) at r) none-some) none-some))
  route_in_lem sub_domain (special c ∷ ts) us h t = none-some h
  route_in_lem sub_domain (word w ∷ ts) us h t =
      either w.is_quoted h none-some (λ g. route_in_lem behind_sub_domain ts us g (tokens-tail (word w) ts t))
  route_in_lem behind_sub_domain (word w ∷ ts) us h t = none-some h
  route_in_lem behind_sub_domain (special c ∷ ts) us h t =
      let r = tokens-tail (special c) ts t in
      either (eqb c 46) h (λ g. route_in_lem sub_domain ts us g r)
      (λ h. either (eqb c 44) h (λ g. route_in_lem (element true) ts us g r)
      (λ h. either (eqb c 58) h (λ g. rw (some_same g) at r) none-some))

  optional_in : (ts us : List Token) → optional_route ts ≡ some us → TokensIn n k ts → TokensIn n k us
  unfolding optional_route
  optional_in [] us h t = none-some h
  optional_in (bad ∷ ts) us h t = none-some h
  optional_in (word w ∷ ts) us h t = rw (some_same h) at t
  optional_in (special c ∷ ts) us h t = route_in_lem (element false) (special c ∷ ts) us h t

  -- ---- a route-addr

  route-words : (o : Option (List Token)) (us : List Token) → route_in o ≡ some us → ((ts : List Token) → o ≡ some ts → TokensIn n k ts) → TokensIn n k us
  unfolding route_in
  route-words none us h f = none-some h
  route-words (some ts) us h f = optional_in ts us h (f ts refl)

  spec_words : (o : Option (List Token)) (a : AddrSpec) → addr_spec_in o ≡ some a → ((ts : List Token) → o ≡ some ts → TokensIn n k ts)
      → AddressWords k a.local a.domain'
  unfolding addr_spec_in
  spec_words none a h f = none-some h
  spec_words (some ts) a h f = addr_words n k ts a h (f ts refl)

  going_words : (o : Option (List Token)) (b a : AddrSpec) → going_on b o ≡ some a → AddressWords k b.local b.domain' → AddressWords k a.local a.domain'
  unfolding going_on
  going_words none b a h g = none-some h
  going_words (some ts) b a h g = rw (sym (some_same h)) g

  closed-words : (o : Option AddrSpec) (a : AddrSpec) → closed_by o ≡ some a → ((b : AddrSpec) → o ≡ some b → AddressWords k b.local b.domain')
      → AddressWords k a.local a.domain'
  unfolding closed_by
  closed-words none a h f = none-some h
  closed-words (some b) a h f = going_words (behind 62 b.rest) b a h (f b refl)

  angle_words : (ts : List Token) (a : AddrSpec) → route_addr ts ≡ some a → TokensIn n k ts → AddressWords k a.local a.domain'
  unfolding route_addr
  angle_words ts a h t =
      closed-words (addr_spec_in (route_in (behind 60 ts))) a h
      (λ b e. spec_words (route_in (behind 60 ts)) b e
      (λ us f. route-words (behind 60 ts) us f
      (λ vs g. behind_in 60 ts vs g t)))

  -- ---- a phrase

  phrase_in : (e : ℕ) (ts : List Token) → e ≤ n → TokensIn n k ts → ((phrase_from e ts).end ≤ n) × TokensIn n k (phrase_from e ts).rest
  unfolding phrase_from
  phrase_in e [] h t = (h, t)
  phrase_in e (special c ∷ ts) h t = (h, t)
  phrase_in e (bad ∷ ts) h t = (h, t)
  phrase_in e (word w ∷ ts) h t = phrase_in w.end ts (tokens-word t).ends (tokens-tail (word w) ts t)

-- ---- a mailbox

-- its address takes at most k bytes, and its phrase stands in a line of n
pub record MailboxIn (n k : ℕ) (m : Mailbox) : Type 0 where
  pub address : AddressWords k m.local m.domain'
  pub phrase : m.phrase.start + m.phrase.size ≤ n

or_else_lem : {X : Type 0} {m : Mailbox} (o p : Option Mailbox) → or_else o p ≡ some m → (o ≡ some m → X) → (p ≡ some m → X) → X
unfolding or_else
or_else_lem none p h f g = g h
or_else_lem (some l) p h f g = f h

module _ (n k : ℕ) where
  ended_in : (start size : ℕ) (a : AddrSpec) (ts : List Token) (m : Mailbox) → ended start size a ts ≡ some m → start + size ≤ n
      → AddressWords k a.local a.domain' → MailboxIn n k m
  unfolding ended
  ended_in start size a [] m h l g = rw (sym (some_same h)) (record { address = g; phrase = l })
  ended_in start size a (t ∷ ts) m h l g = none-some h

  whole_in : (start size : ℕ) (o : Option AddrSpec) (m : Mailbox) → whole start size o ≡ some m → start + size ≤ n
      → ((a : AddrSpec) → o ≡ some a → AddressWords k a.local a.domain') → MailboxIn n k m
  unfolding whole
  whole_in start size none m h l f = none-some h
  whole_in start size (some a) m h l f = ended_in start size a a.rest m h l (f a refl)

  named_in : (ts : List Token) (m : Mailbox) → named ts ≡ some m → TokensIn n k ts → MailboxIn n k m
  unfolding named
  named_in [] m h t = none-some h
  named_in (special c ∷ ts) m h t = none-some h
  named_in (bad ∷ ts) m h t = none-some h
  named_in (word w ∷ ts) m h t =
      let i = tokens-word t in
      let p = phrase_in n k w.end ts i.ends (tokens-tail (word w) ts t) in
      whole_in w.start ((phrase_from w.end ts).end - w.start) (route_addr (phrase_from w.end ts).rest) m h
      (omega (arith, i.starts, p.0))
      (λ a e. angle_words n k (phrase_from w.end ts).rest a e p.1)

  pub mailbox_in : (ts : List Token) (m : Mailbox) → mailbox ts ≡ some m → TokensIn n k ts → MailboxIn n k m
  unfolding mailbox
  mailbox_in ts m h t =
      or_else_lem (whole 0 0 (addr_spec ts)) (named ts) h
      (λ e. whole_in 0 0 (addr_spec ts) m e (omega arith) (λ a f. addr_words n k ts a f t))
      (λ e. named_in ts m e t)
