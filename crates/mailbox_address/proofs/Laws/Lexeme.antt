-- Laws of lexemes: the tokens that begin with one, by its kind, and how long the text of one is.
-- Assumes nothing.
use mathlib.Core.Path.{◌≡◌, refl, sym}
use mathlib.Core.Bool.{Bool, true, false}
use mathlib.Core.List.{List, [], ◌∷◌}
use Prim.Native.Nat.{ℕ, ◌+◌, ◌-◌, ◌≤◌, ◌<◌}
use native.Mathlib.Omega.{arith}
use borrow.Author.Tests.{eqb-true}
use lib.ListN.{length, drop, length-take}
use Rattle.chars.proofs.Laws.Lists.{true_not_false}
use Rattle.lexical.proofs.Laws.Quoted.{meaning-within}
use Rattle.lexical.specs.Answers.{Stands, Whole, atom_word, quoted_word, tokens_by, tokens_of}
use Rattle.lexical.specs.Tokens.{Word, special, tokens_at, word}
use Rattle.mailbox_address.specs.Answers.{is_allowed_kind, is_quoted_kind, is_special_kind, is_word_kind, meaning_at, meaning_by}
use Rattle.lexical.specs.declared.token.Kind.{Kind}
use Rattle.lexical.specs.declared.token.Kind.TheVariants.{Atom, Bad, End, Quoted, Special}
use Rattle.lexical.specs.declared.token.Lexeme.{Lexeme}

-- the word of a lexeme
abbrev pub word_at : List ℕ → Lexeme → Word
word_at s t = record { start = t.start; end = t.end; is_quoted = is_quoted_kind t.kind; meaning = meaning_at s t }

word-by : (s : List ℕ) (k : Kind) (a e : ℕ) → is_word_kind k ≡ true
    → tokens_by s k a e ≡ word (record { start = a; end = e; is_quoted = is_quoted_kind k; meaning = meaning_by s k a e }) ∷ tokens_at s e
unfolding tokens_by atom_word quoted_word meaning_by
word-by s Atom a e h = refl
word-by s Quoted a e h = refl
word-by s (Special c) a e h = true_not_false true refl (sym h)
word-by s End a e h = true_not_false true refl (sym h)
word-by s Bad a e h = true_not_false true refl (sym h)

pub word-tokens : (s : List ℕ) (t : Lexeme) → is_word_kind t.kind ≡ true → tokens_of s t ≡ word (word_at s t) ∷ tokens_at s t.end
unfolding tokens_of meaning_at
word-tokens s t h = word-by s t.kind t.start t.end h

special-by : (s : List ℕ) (k : Kind) (a e b : ℕ) → is_special_kind k b ≡ true → tokens_by s k a e ≡ special b ∷ tokens_at s e
unfolding tokens_by
special-by s Atom a e b h = true_not_false true refl (sym h)
special-by s Quoted a e b h = true_not_false true refl (sym h)
special-by s (Special c) a e b h = rw (eqb-true c b h)
special-by s End a e b h = true_not_false true refl (sym h)
special-by s Bad a e b h = true_not_false true refl (sym h)

pub special-tokens : (s : List ℕ) (t : Lexeme) (b : ℕ) → is_special_kind t.kind b ≡ true → tokens_of s t ≡ special b ∷ tokens_at s t.end
unfolding tokens_of
special-tokens s t b h = special-by s t.kind t.start t.end b h

-- one that may stand is a word, and is allowed
pub allowed-word : (k : Kind) (q : Bool) → is_allowed_kind k q ≡ true → is_word_kind k ≡ true
allowed-word Atom q h = refl
allowed-word Quoted q h = refl
allowed-word (Special c) q h = h
allowed-word End q h = h
allowed-word Bad q h = h

-- no text but a word's
no-meaning_by : (s : List ℕ) (k : Kind) (a e : ℕ) → (k ≡ Atom → ⊥) → (k ≡ Quoted → ⊥) → meaning_by s k a e ≡ []
unfolding meaning_by
no-meaning_by s Atom a e h g = absurd (h refl)
no-meaning_by s Quoted a e h g = absurd (g refl)
no-meaning_by s (Special c) a e h g = refl
no-meaning_by s End a e h g = refl
no-meaning_by s Bad a e h g = refl

pub no_meaning : (s : List ℕ) (t : Lexeme) → (t.kind ≡ Atom → ⊥) → (t.kind ≡ Quoted → ⊥) → meaning_at s t ≡ []
unfolding meaning_at
no_meaning s t h g = no-meaning_by s t.kind t.start t.end h g

-- a text's length
by_length : (s : List ℕ) (k : Kind) (a e : ℕ) → Whole s k a e → a ≤ e → length (meaning_by s k a e) ≤ e - a
unfolding meaning_by
by_length s Atom a e w h = omega (arith, length-take (e - a) (drop a s))
by_length s Quoted a e w h = omega (arith, w.ends, meaning-within 0 false (drop (a + 1) s))
by_length s (Special c) a e w h = omega arith
by_length s End a e w h = omega arith
by_length s Bad a e w h = omega arith

pub meaning-length : (s : List ℕ) (t : Lexeme) → Stands s t → length (meaning_at s t) ≤ t.end - t.start
unfolding meaning_at
meaning-length s t w = by_length s t.kind t.start t.end w.whole w.ordered

-- a word, and a special, is not empty
word_step : (s : List ℕ) (k : Kind) (a e : ℕ) → is_word_kind k ≡ true → Whole s k a e → a < e
word_step s Atom a e h w = w
word_step s Quoted a e h w = omega (arith, w.ends)
word_step s (Special c) a e h w = true_not_false true refl (sym h)
word_step s End a e h w = true_not_false true refl (sym h)
word_step s Bad a e h w = true_not_false true refl (sym h)

pub word-ahead : (s : List ℕ) (t : Lexeme) → is_word_kind t.kind ≡ true → Stands s t → t.start < t.end
word-ahead s t h w = word_step s t.kind t.start t.end h w.whole

special_step_lem : (s : List ℕ) (k : Kind) (a e b : ℕ) → is_special_kind k b ≡ true → Whole s k a e → a < e
special_step_lem s Atom a e b h w = true_not_false true refl (sym h)
special_step_lem s Quoted a e b h w = true_not_false true refl (sym h)
special_step_lem s (Special c) a e b h w = w
special_step_lem s End a e b h w = true_not_false true refl (sym h)
special_step_lem s Bad a e b h w = true_not_false true refl (sym h)

pub special-ahead : (s : List ℕ) (t : Lexeme) (b : ℕ) → is_special_kind t.kind b ≡ true → Stands s t → t.start < t.end
special-ahead s t b h w = special_step_lem s t.kind t.start t.end b h w.whole
