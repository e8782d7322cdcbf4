-- Laws by which the readers of a phrase and of a whole mailbox answer.
-- Assumes nothing.
use mathlib.Core.Path.{◌≡◌, refl, sym, ap, ◌∙◌}
use mathlib.Core.Bool.{true, false, ◌||◌, cond}
use mathlib.Core.List.{List, [], ◌∷◌}
use mathlib.Core.Option.{Option, none, some}
use Rattle.std.proofs.Common.{Option as Opt, None, Some, Result, Ok, Err}
use Rattle.std.specs.Result.{result_ok}
use Rattle.std.proofs.lemmas.Option.{none-some}
use Prim.Native.Nat.{ℕ}
use borrow.Author.Tests.{eqb-true}
use native.Mathlib.Omega.{arith}
use lib.Dec.{eqb}
use lib.ListN.{take, drop}
use Rattle.chars.proofs.Laws.Lists.{by_test, neither, or_cases, true_not_false}
use Rattle.lexical.specs.Answers.{tokens_by, tokens_of}
use Rattle.lexical.specs.Tokens.{Token, Word, tokens_at, word}
use Rattle.mailbox.specs.Answers.{ReadsMailbox, named_by, told_mailbox, whole_read}
use Rattle.mailbox_address.proofs.Laws.Spec.{behind_other}
use Rattle.mailbox_address.specs.Answers.{ReadsSpec, SpecText, is_end_kind, is_special_kind, is_word_kind, spec_text, told_spec}
use Rattle.mailbox_address.specs.Grammar.{AddrSpec, Mailbox, addr_spec, addr_spec_in, allowed, any_quoted, at_domain, closed_by, dotted, ended, local_part, mailbox, meaning_of, named, or_else, phrase_from, route_addr, route_in, whole, with_local}
use Rattle.mailbox.specs.Mailbox.{Bare, bare_of}
use Rattle.mailbox.specs.declared.phrase.MailboxRead.{MailboxRead}
use Rattle.mailbox_address.specs.declared.read.SpecRead.{SpecRead}
use Rattle.lexical.specs.declared.token.Kind.{Kind}
use Rattle.lexical.specs.declared.token.Kind.TheVariants.{Atom, Bad, End, Quoted, Special}
use Rattle.lexical.specs.declared.token.Lexeme.{Lexeme}
use Rattle.mailbox_address.proofs.Laws.Dotted.{dotted-alone}
use Rattle.mailbox_address.proofs.Laws.Lexeme.{word-tokens, word_at}

-- ---- the whole line

abbrev pub ended_text : ℕ → ℕ → SpecText → List Token → Option Bare
ended_text start size t [] = some (record { local = t.local; is_quoted = t.is_quoted; domain = t.domain; phrase = record { start = start; size = size } })
ended_text start size t (x ∷ ts) = none

abbrev pub whole_text : ℕ → ℕ → Option SpecText → Option Bare
whole_text start size none = none
whole_text start size (some t) = ended_text start size t t.rest

ended-text : (start size : ℕ) (a : AddrSpec) (ts : List Token)
    → bare_of (ended start size a ts) ≡ ended_text start size (record { local = meaning_of a.local; is_quoted = any_quoted a.local; domain = meaning_of a.domain'; rest = a.rest }) ts
unfolding bare_of ended
ended-text start size a [] = refl
ended-text start size a (x ∷ ts) = refl

whole-text : (start size : ℕ) (o : Option AddrSpec) → bare_of (whole start size o) ≡ whole_text start size (spec_text o)
unfolding bare_of whole spec_text
whole-text start size none = refl
whole-text start size (some a) = ended-text start size a a.rest

end_by : (start size : ℕ) (x : SpecText) (s : List ℕ) (k : Kind) (a e : ℕ)
    → ended_text start size x (tokens_by s k a e)
    ≡ cond (is_end_kind k) (some (record { local = x.local; is_quoted = x.is_quoted; domain = x.domain; phrase = record { start = start; size = size } })) none
unfolding tokens_by
end_by start size x s Atom a e = refl
end_by start size x s Quoted a e = refl
end_by start size x s (Special c) a e = refl
end_by start size x s End a e = refl
end_by start size x s Bad a e = refl

-- an answer that is an address, from what is left of it without the token of a refusal
address-is : (y : Result SpecRead Lexeme) (a : SpecRead) → Some a ≡ result_ok y → y ≡ Ok a
address-is (Ok b) a e = cc
address-is (Err t) a e = absurd (none-some a (sym e))

-- the address that was read, by what stands behind it
pub mailbox-reads : (s new : List ℕ) (y : Result SpecRead Lexeme) (a : SpecRead) (start size : ℕ) (o : Option AddrSpec) (r : Opt MailboxRead)
    → ReadsSpec s (spec_text o) y new → Some a ≡ result_ok y → r ≡ whole_read a start size → ReadsMailbox s (bare_of (whole start size o)) r new
unfolding told_mailbox told_spec tokens_of
mailbox-reads s new y a start size o r g f e =
    let h : ReadsSpec s (spec_text o) (Ok a) new = rw (address-is y a f) at g in
    let x : SpecText = record { local = take a.local new; is_quoted = a.quoted; domain = drop a.local (take a.size new); rest = tokens_of s a.next } in
    let t = whole-text start size o ∙ ap (whole_text start size) (sym h.told) ∙ end_by start size x s a.next.kind a.next.start a.next.end in
    by_test (is_end_kind a.next.kind)
    (λ k. let q : r ≡ Some (record { local = a.local; size = a.size; quoted = a.quoted; phrase = record { start = start; size = size } }) = e ∙ rw k in
    rw q (record { told = sym (t ∙ rw k); sizes = (h.parted, omega (arith, h.low, h.stands.ordered, h.stands.high)) }))
    (λ k. let q : r ≡ None = e ∙ rw k in
    rw q (record { told = sym (t ∙ rw k); sizes = tt }))

-- none was read
pub mailbox-unread : (s new : List ℕ) (y : Result SpecRead Lexeme) (start size : ℕ) (o : Option AddrSpec) → told_spec s y new ≡ spec_text o
    → None ≡ result_ok y → ReadsMailbox s (bare_of (whole start size o)) None new
unfolding told_mailbox told_spec
mailbox-unread s new (Ok a) start size o h f = absurd (none-some a f)
mailbox-unread s new (Err t) start size o h f = record { told = sym (whole-text start size o ∙ ap (whole_text start size) (sym h)); sizes = tt }

-- ---- the phrase

phrase-by : (n : ℕ) (s : List ℕ) (k : Kind) (a e : ℕ) → is_word_kind k ≡ false
    → phrase_from n (tokens_by s k a e) ≡ record { end = n; rest = tokens_by s k a e }
unfolding phrase_from tokens_by
phrase-by n s Atom a e h = true_not_false true refl h
phrase-by n s Quoted a e h = true_not_false true refl h
phrase-by n s (Special c) a e h = refl
phrase-by n s End a e h = refl
phrase-by n s Bad a e h = refl

pub phrase_over : (n : ℕ) (s : List ℕ) (t : Lexeme) → is_word_kind t.kind ≡ false → phrase_from n (tokens_of s t) ≡ record { end = n; rest = tokens_of s t }
unfolding tokens_of
phrase_over n s t h = phrase-by n s t.kind t.start t.end h

pub phrase-word : (n : ℕ) (s : List ℕ) (t : Lexeme) → is_word_kind t.kind ≡ true → phrase_from n (tokens_of s t) ≡ phrase_from t.end (tokens_at s t.end)
unfolding phrase_from
phrase-word n s t h = ap (phrase_from n) (word-tokens s t h)

-- ---- which of the two a mailbox is

-- a special behind the first word that goes on with an addr-spec does not open a route-addr
special-word : (k : Kind) (b : ℕ) → is_special_kind k b ≡ true → is_word_kind k ≡ false
special-word Atom b h = sym h
special-word Quoted b h = sym h
special-word (Special c) b h = refl
special-word End b h = refl
special-word Bad b h = refl

special_other : (k : Kind) (b c : ℕ) → is_special_kind k b ≡ true → eqb b c ≡ false → is_special_kind k c ≡ false
special_other Atom b c h f = refl
special_other Quoted b c h f = refl
special_other (Special d) b c h f = rw (eqb-true d b h) f
special_other End b c h f = refl
special_other Bad b c h f = refl

not_opened : (s : List ℕ) (u : Lexeme) (start end b : ℕ) → is_special_kind u.kind b ≡ true → eqb b 60 ≡ false → named_by start (phrase_from end (tokens_of s u)) ≡ none
unfolding named_by route_addr route_in addr_spec_in closed_by whole
not_opened s u start end b h f =
    rw (phrase_over end s u (special-word u.kind b h), behind_other s u 60 (special_other u.kind b 60 h f))

named-by : (s : List ℕ) (w : Word) (u : Lexeme) → named (word w ∷ tokens_of s u) ≡ named_by w.start (phrase_from w.end (tokens_of s u))
unfolding named named_by
named-by s w u = refl

or-none : (o : Option Mailbox) → or_else o none ≡ o
unfolding or_else
or-none none = refl
or-none (some m) = refl

module _ (s : List ℕ) (t u : Lexeme) (h : is_word_kind t.kind ≡ true) (l : tokens_at s t.end ≡ tokens_of s u) where
  pub two-tokens : tokens_of s t ≡ word (word_at s t) ∷ tokens_of s u
  two-tokens = word-tokens s t h ∙ ap (λ (ts : List Token). word (word_at s t) ∷ ts) l

  pub mailbox-bare : (is_special_kind u.kind 46 || is_special_kind u.kind 64) ≡ true → mailbox (tokens_of s t) ≡ whole 0 0 (addr_spec (tokens_of s t))
  unfolding mailbox
  mailbox-bare g =
      ap (or_else (whole 0 0 (addr_spec (tokens_of s t))))
      (ap named two-tokens ∙ named-by s (word_at s t) u
      ∙ or_cases (is_special_kind u.kind 46) (is_special_kind u.kind 64) g
      (λ e. not_opened s u t.start t.end 46 e refl)
      (λ e. not_opened s u t.start t.end 64 e refl))
      ∙ or-none (whole 0 0 (addr_spec (tokens_of s t)))

  no_addr_spec : is_special_kind u.kind 46 ≡ false → is_special_kind u.kind 64 ≡ false → addr_spec (tokens_of s t) ≡ none
  unfolding addr_spec local_part with_local at_domain allowed
  no_addr_spec f g =
      rw (two-tokens, dotted-alone (allowed true) (word_at s t) s u refl f, behind_other s u 64 g)

  pub mailbox-named : (is_special_kind u.kind 46 || is_special_kind u.kind 64) ≡ false
      → mailbox (tokens_of s t) ≡ named_by t.start (phrase_from t.end (tokens_of s u))
  unfolding mailbox whole or_else
  mailbox-named g =
      let n = no_addr_spec (neither (is_special_kind u.kind 46) (is_special_kind u.kind 64) g).0 (neither (is_special_kind u.kind 46) (is_special_kind u.kind 64) g).1 in
      rw n (ap named two-tokens ∙ named-by s (word_at s t) u)

-- a first token that is no word
no_word_by : (s : List ℕ) (k : Kind) (a e : ℕ) → is_word_kind k ≡ false → mailbox (tokens_by s k a e) ≡ none
unfolding mailbox addr_spec local_part dotted with_local whole named or_else tokens_by
no_word_by s Atom a e h = true_not_false true refl h
no_word_by s Quoted a e h = true_not_false true refl h
no_word_by s (Special c) a e h = refl
no_word_by s End a e h = refl
no_word_by s Bad a e h = refl

pub mailbox-none : (s : List ℕ) (t : Lexeme) → is_word_kind t.kind ≡ false → mailbox (tokens_of s t) ≡ none
unfolding tokens_of
mailbox-none s t h = no_word_by s t.kind t.start t.end h
