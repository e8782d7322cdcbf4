-- What is written of a mailbox that was read: it has document 01's accepted shape, means what the words mean that were read,
-- and is no longer than the line; and the phrase stands in the line.
-- Assumes nothing.
use mathlib.Core.Path.{◌≡◌, refl, sym}
use mathlib.Core.Bool.{Bool, true, false, cond}
use mathlib.Core.List.{List, [], ◌∷◌}
use mathlib.Core.Option.{Option, none, some}
use Prim.Native.Nat.{ℕ, ◌+◌, ◌≤◌}
use native.Mathlib.Omega.{arith}
use lib.ListN.{length, length-append}
use Rattle.chars.specs.Lists.{all}
use Rattle.chars.specs.Parts.{is_atoms}
use Rattle.mailaddr.specs.Shape.{escaped, is_text, shape_of, unquoted_local}
use Rattle.chars.proofs.Laws.Options.{none-some, some_same}
use Rattle.mailaddr.proofs.Laws.Closing.{escaped_longer}
use Rattle.mailaddr.proofs.Laws.Shape.{IsLocal, quoted-text, shape_one, unquoted-text}
use Rattle.lexical.specs.Tokens.{tokens_at}
use Rattle.mailbox_address.specs.Grammar.{Mailbox, any_quoted, mailbox, meaning_of}
use Rattle.mailbox.specs.Mailbox.{Bare, bare_in, bare_of, bare_text, local_text}
use Rattle.lexical.proofs.Laws.Line.{line-tokens}
use Rattle.mailbox_address.proofs.Laws.Words.{words-atoms, words-bytes, words-text}
use Rattle.mailbox_address.proofs.Laws.Grammar.{MailboxIn, mailbox_in}

-- what a line of n bytes reads as
record BareIn (n : ℕ) (b : Bare) : Type 0 where
  pub local : IsLocal b.is_quoted (local_text b.is_quoted b.local)
  pub domain : is_atoms b.domain ≡ true
  pub size : length (bare_text b) ≤ n
  pub phrase : b.phrase.start + b.phrase.size ≤ n

-- a text that is quoted where it has to be
local-written : (q : Bool) (l : List ℕ) → all is_text l ≡ true → (q ≡ false → is_atoms l ≡ true) → IsLocal q (local_text q l)
unfolding IsLocal local_text
local-written true l h f = quoted-text l h
local-written false l h f = f refl

local-meaning : (q : Bool) (l d : List ℕ) → unquoted_local (record { local = local_text q l; is_quoted = q; domain = d }) ≡ l
unfolding unquoted_local local_text
local-meaning true l d = unquoted-text l
local-meaning false l d = refl

local-bytes : (q : Bool) (l : List ℕ) → length (local_text q l) ≤ length (escaped l) + cond q 2 0
unfolding local_text
local-bytes true l = omega (arith, length-append (escaped l) (34 ∷ []))
local-bytes false l = omega (arith, escaped_longer l)

bare_of_lem : (n : ℕ) (o : Option Mailbox) (b : Bare) → bare_of o ≡ some b → ((m : Mailbox) → o ≡ some m → MailboxIn n n m) → BareIn n b
unfolding bare_of bare_text
bare_of_lem n none b h f = none-some h
bare_of_lem n (some m) b h f =
    let i = f m refl in
    let a = i.address in
    let l = meaning_of m.local in
    let q = any_quoted m.local in
    let d = meaning_of m.domain' in
    rw (sym (some_same h))
    (record {
      local = local-written q l (words-text m.local a.local_means) (words-atoms m.local a.local-some a.local_means);
      domain = words-atoms m.domain' a.domain-some a.domain_means a.domain-atoms;
      size = omega (
        arith,
        length-append (local_text q l) (64 ∷ d),
        local-bytes q l,
        words-bytes m.local a.local-some,
        escaped_longer d,
        words-bytes m.domain' a.domain-some,
        a.size,
      );
      phrase = i.phrase;
    })

module _ (s : List ℕ) (b : Bare) (h : bare_in s ≡ some b) where
  bare_in_lem : BareIn (length s) b
  unfolding bare_in
  bare_in_lem =
      bare_of_lem (length s) (mailbox (tokens_at s 0)) b h
      (λ m e. mailbox_in (length s) (length s) (tokens_at s 0) m e (line-tokens s))

  -- what is written has the accepted shape
  pub written-shape : shape_of (bare_text b) ≡ some (record { local = local_text b.is_quoted b.local; is_quoted = b.is_quoted; domain = b.domain })
  unfolding bare_text
  written-shape = shape_one b.is_quoted (local_text b.is_quoted b.local) b.domain bare_in_lem.local bare_in_lem.domain

  -- and unquotes to the meaning of the words that were read
  pub written-meaning : unquoted_local (record { local = local_text b.is_quoted b.local; is_quoted = b.is_quoted; domain = b.domain }) ≡ b.local
  written-meaning = local-meaning b.is_quoted b.local b.domain

  -- it is never longer than the line
  pub written-length : length (bare_text b) ≤ length s
  written-length = bare_in_lem.size

  -- the phrase stands inside the line
  pub phrase-inside : b.phrase.start + b.phrase.size ≤ length s
  phrase-inside = bare_in_lem.phrase
