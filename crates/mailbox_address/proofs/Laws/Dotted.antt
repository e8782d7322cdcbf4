-- Laws of words joined by dots: one word at a time, by lexemes, with the text of what was read so far.
-- Assumes nothing.
use mathlib.Core.Path.{◌≡◌, refl, sym, ap, ◌∙◌}
use mathlib.Core.Bool.{Bool, true, false, ◌||◌, not, or_assoc, or-false}
use mathlib.Core.List.{List, [], ◌∷◌, ◌++◌, append_assoc}
use mathlib.Core.Option.{Option, none, some}
use Prim.Native.Nat.{ℕ, ◌+◌, ◌≤◌, ◌<◌}
use lib.Dec.{eqb}
use native.Mathlib.Numerals.{add-one}
use lib.ListN.{length, set, take}
use lib.Seq.{take-suc-set}
use Rattle.chars.specs.Write.{Wrote}
use Rattle.chars.proofs.Laws.Write.{wrote-take}
use Rattle.chars.specs.Parts.{join}
use Rattle.chars.proofs.Laws.Lists.{by_test, true_not_false}
use Rattle.lexical.specs.Answers.{atom_word, quoted_word, tokens_by, tokens_of}
use Rattle.lexical.specs.Tokens.{Token, Word, bad, special, tokens_at, word}
use Rattle.mailbox_address.specs.Answers.{after, is_allowed_kind, is_quoted_kind, is_special_kind, meaning_at}
use Rattle.mailbox_address.specs.Grammar.{Dotted, allowed, alone, any_quoted, before, dotted, meaning_of}
use Rattle.lexical.specs.declared.token.Kind.{Kind}
use Rattle.lexical.specs.declared.token.Kind.TheVariants.{Atom, Bad, End, Quoted, Special}
use Rattle.lexical.specs.declared.token.Lexeme.{Lexeme}
use Rattle.mailbox_address.proofs.Laws.Lexeme.{allowed-word, special-tokens, word-tokens, word_at}

-- ---- on tokens

pub dotted-not : (ok : Word → Bool) (w : Word) (ts : List Token) → ok w ≡ false → dotted ok (word w ∷ ts) ≡ none
unfolding dotted alone
dotted-not ok w [] h = rw h
dotted-not ok w (word v ∷ ts) h = rw h
dotted-not ok w (bad ∷ ts) h = rw h
dotted-not ok w (special c ∷ ts) h = by_test (eqb c 46) (λ e. rw (e, h)) (λ e. rw (e, h))

pub dotted_dot : (ok : Word → Bool) (w : Word) (ts : List Token) → ok w ≡ true → dotted ok (word w ∷ special 46 ∷ ts) ≡ before w (dotted ok ts)
unfolding dotted
dotted_dot ok w ts h = rw h

-- what is there already, a word and a dot, with what follows
after-some : (sofar : List ℕ) (q : Bool) (w v : Word) (vs : List Word) (ts : List Token)
    → after sofar q (before w (some (record { words = v ∷ vs; rest = ts }))) ≡ after (sofar ++ (w.meaning ++ 46 ∷ [])) (q || w.is_quoted) (some (record { words = v ∷ vs; rest = ts }))
unfolding after before meaning_of any_quoted join
after-some sofar q w v vs ts =
    let m : List ℕ = meaning_of (v ∷ vs) in
    rw (append_assoc sofar (w.meaning ++ 46 ∷ []) m, append_assoc w.meaning (46 ∷ []) m, or_assoc q w.is_quoted (any_quoted (v ∷ vs)))

none_after : (sofar : List ℕ) (q : Bool) (w : Word) → after sofar q (before w none) ≡ after (sofar ++ (w.meaning ++ 46 ∷ [])) (q || w.is_quoted) none
unfolding after before
none_after sofar q w = refl

after_two : (sofar : List ℕ) (q : Bool) (w v : Word) (o : Option Dotted)
    → after sofar q (before w (before v o)) ≡ after (sofar ++ (w.meaning ++ 46 ∷ [])) (q || w.is_quoted) (before v o)
unfolding before
after_two sofar q w v none = none_after sofar q w
after_two sofar q w v (some d) = after-some sofar q w v d.words d.rest

pub after-before : (ok : Word → Bool) (sofar : List ℕ) (q : Bool) (w : Word) (ts : List Token)
    → after sofar q (before w (dotted ok ts)) ≡ after (sofar ++ (w.meaning ++ 46 ∷ [])) (q || w.is_quoted) (dotted ok ts)
unfolding dotted alone
after-before ok sofar q w [] = none_after sofar q w
after-before ok sofar q w (special c ∷ ts) = none_after sofar q w
after-before ok sofar q w (bad ∷ ts) = none_after sofar q w
after-before ok sofar q w (word v ∷ []) = by_test (ok v) (λ e. rw e (after-some sofar q w v [] [])) (λ e. rw e (none_after sofar q w))
after-before ok sofar q w (word v ∷ word u ∷ ts) = by_test (ok v) (λ e. rw e (after-some sofar q w v [] (word u ∷ ts))) (λ e. rw e (none_after sofar q w))
after-before ok sofar q w (word v ∷ bad ∷ ts) = by_test (ok v) (λ e. rw e (after-some sofar q w v [] (bad ∷ ts))) (λ e. rw e (none_after sofar q w))
after-before ok sofar q w (word v ∷ special c ∷ ts) =
    by_test (ok v)
    (λ e. by_test (eqb c 46)
    (λ f. rw (f, e) (after_two sofar q w v (dotted ok ts)))
    (λ f. rw (f, e) (after-some sofar q w v [] (special c ∷ ts))))
    (λ e. by_test (eqb c 46) (λ f. rw (f, e) (none_after sofar q w)) (λ f. rw (f, e) (none_after sofar q w)))

-- ---- on lexemes

-- no word that may stand
stops-by : (s : List ℕ) (k : Kind) (a e : ℕ) (q : Bool) → is_allowed_kind k q ≡ false → dotted (allowed q) (tokens_by s k a e) ≡ none
unfolding tokens_by atom_word quoted_word dotted allowed
stops-by s Atom a e q h = true_not_false true refl h
stops-by s Quoted a e q h = dotted-not (allowed q) (quoted_word s a e) (tokens_at s e) (rw h)
stops-by s (Special c) a e q h = refl
stops-by s End a e q h = refl
stops-by s Bad a e q h = refl

pub dotted-none : (s : List ℕ) (t : Lexeme) (q : Bool) → is_allowed_kind t.kind q ≡ false → dotted (allowed q) (tokens_of s t) ≡ none
unfolding tokens_of
dotted-none s t q h = stops-by s t.kind t.start t.end q h

-- a word that may stand is allowed
may_by : (k : Kind) (q : Bool) → is_allowed_kind k q ≡ true → (q || not (is_quoted_kind k)) ≡ true
may_by Atom true h = refl
may_by Atom false h = refl
may_by Quoted q h = rw h
may_by (Special c) q h = true_not_false true refl (sym h)
may_by End q h = true_not_false true refl (sym h)
may_by Bad q h = true_not_false true refl (sym h)

may : (s : List ℕ) (t : Lexeme) (q : Bool) → is_allowed_kind t.kind q ≡ true → allowed q (word_at s t) ≡ true
unfolding allowed
may s t q h = may_by t.kind q h

-- one word, with no dot behind it
alone-by : (ok : Word → Bool) (w : Word) (s : List ℕ) (k : Kind) (a e : ℕ) → ok w ≡ true → is_special_kind k 46 ≡ false
    → dotted ok (word w ∷ tokens_by s k a e) ≡ some (record { words = w ∷ []; rest = tokens_by s k a e })
unfolding dotted alone tokens_by atom_word quoted_word
alone-by ok w s Atom a e h f = rw h
alone-by ok w s Quoted a e h f = rw h
alone-by ok w s (Special c) a e h f = rw (f, h)
alone-by ok w s End a e h f = rw h
alone-by ok w s Bad a e h f = rw h

pub dotted-alone : (ok : Word → Bool) (w : Word) (s : List ℕ) (u : Lexeme) → ok w ≡ true → is_special_kind u.kind 46 ≡ false
    → dotted ok (word w ∷ tokens_of s u) ≡ some (record { words = w ∷ []; rest = tokens_of s u })
unfolding tokens_of
dotted-alone ok w s u h f = alone-by ok w s u.kind u.start u.end h f

module _ (s : List ℕ) (t u : Lexeme) (quotable : Bool) (h : is_allowed_kind t.kind quotable ≡ true) (l : tokens_at s t.end ≡ tokens_of s u) where
  tokens : tokens_of s t ≡ word (word_at s t) ∷ tokens_of s u
  tokens = word-tokens s t (allowed-word t.kind quotable h) ∙ ap (λ (ts : List Token). word (word_at s t) ∷ ts) l

  -- the last word
  pub after_last : (sofar : List ℕ) (q : Bool) → is_special_kind u.kind 46 ≡ false
      → after sofar q (dotted (allowed quotable) (tokens_of s t))
      ≡ some (record { text = sofar ++ meaning_at s t; is_quoted = q || is_quoted_kind t.kind; rest = tokens_of s u })
  unfolding after meaning_of any_quoted join
  after_last sofar q f =
      ap (after sofar q) (ap (dotted (allowed quotable)) tokens ∙ dotted-alone (allowed quotable) (word_at s t) s u (may s t quotable h) f)
      ∙ rw (or-false (is_quoted_kind t.kind))

  -- a word and a dot
  pub after_dot : (sofar : List ℕ) (q : Bool) → is_special_kind u.kind 46 ≡ true
      → after sofar q (dotted (allowed quotable) (tokens_of s t))
      ≡ after (sofar ++ (meaning_at s t ++ 46 ∷ [])) (q || is_quoted_kind t.kind) (dotted (allowed quotable) (tokens_at s u.end))
  after_dot sofar q f =
      ap (after sofar q)
      (ap (dotted (allowed quotable)) (tokens ∙ ap (λ (ts : List Token). word (word_at s t) ∷ ts) (special-tokens s u 46 f))
      ∙ dotted_dot (allowed quotable) (word_at s t) (tokens_at s u.end) (may s t quotable h))
      ∙ after-before (allowed quotable) sofar q (word_at s t) (tokens_at s u.end)

-- ---- in the buffer

-- a word and a dot behind what was written so far
pub text_grown : {old new m : List ℕ} {at n : ℕ} → Wrote old at m n new → at + length m ≤ length old → n < length new
    → take (n + 1) (set new n 46) ≡ take at old ++ (m ++ 46 ∷ [])
text_grown {old} {new} {m} {at} {n} w h l =
    ap (λ (k : ℕ). take k (set new n 46)) (add-one n)
    ∙ take-suc-set new n 46 l
    ∙ ap (λ (t : List ℕ). t ++ 46 ∷ []) (wrote-take w h)
    ∙ append_assoc (take at old) m (46 ∷ [])
