-- What the answers of the code stand for.
-- Assumes nothing.
use Rattle.std.specs.Prelude.{◌≡◌, ℕ, ◌+◌, ◌-◌, ◌≤◌, ◌<◌, true, false, List, [], ◌∷◌, length, take, drop, Option, None, Some}
use Rattle.lexical.specs.Quoted.{Quoted, meaning_in, quoted, size_in}
use Rattle.lexical.specs.Tokens.{Token, Word, bad, gap, special, tokens_at, word}
use Rattle.lexical.specs.declared.token.Kind.{Kind}
use Rattle.lexical.specs.declared.token.Kind.TheVariants.{Atom, Bad, End, Quoted as QuotedKind, Special}
use Rattle.lexical.specs.declared.token.Lexeme.{Lexeme}

-- where a quoted string ends that opened before a place
unfoldable pub quoted_end : ℕ → Option Quoted → Option ℕ
quoted_end from None = None
quoted_end from (Some q) = Some (from + q.size)

-- the place behind white space and comments: the tokens from there on are the same, and neither stands there
pub record Behind (s : List ℕ) (from r : ℕ) : Type 0 where
  pub low : from ≤ r
  pub high : r ≤ length s
  pub same : tokens_at s from ≡ tokens_at s r
  pub stops : gap (drop r s) ≡ 0

-- the word of a line from a to behind e
unfoldable pub atom_word : List ℕ → ℕ → ℕ → Word
atom_word s a e = record { start = a; end = e; is_quoted = false; meaning = take (e - a) (drop a s) }

unfoldable pub quoted_word : List ℕ → ℕ → ℕ → Word
unfolding meaning_in quoted
quoted_word s a e = record { start = a; end = e; is_quoted = true; meaning = meaning_in (quoted 0 false (drop (a + 1) s)) }

-- the tokens from a lexeme on
unfoldable pub tokens_by : List ℕ → Kind → ℕ → ℕ → List Token
unfolding atom_word quoted_word tokens_at
tokens_by s Atom a e = word (atom_word s a e) ∷ tokens_at s e
tokens_by s QuotedKind a e = word (quoted_word s a e) ∷ tokens_at s e
tokens_by s (Special b) a e = special b ∷ tokens_at s e
tokens_by s End a e = []
tokens_by s Bad a e = bad ∷ []

unfoldable pub tokens_of : List ℕ → Lexeme → List Token
unfolding tokens_by
tokens_of s t = tokens_by s t.kind t.start t.end

abbrev pub lexeme : Kind → ℕ → ℕ → Lexeme
lexeme k a e = record { kind = k; start = a; end = e }

-- what a lexeme of a kind has
pub record Closed (s : List ℕ) (a e : ℕ) : Type 0 where
  pub closes : 0 < size_in (quoted 0 false (drop (a + 1) s))
  pub ends : e ≡ a + 1 + size_in (quoted 0 false (drop (a + 1) s))

abbrev pub Whole : List ℕ → Kind → ℕ → ℕ → Type 0
Whole s Atom a e = a < e
Whole s QuotedKind a e = Closed s a e
Whole s (Special b) a e = a < e
Whole s End a e = a ≤ e
Whole s Bad a e = a ≤ e

-- a lexeme that stands in the line
pub record Stands (s : List ℕ) (t : Lexeme) : Type 0 where
  pub ordered : t.start ≤ t.end
  pub high : t.end ≤ length s
  pub whole : Whole s t.kind t.start t.end

-- the first lexeme from a place on
pub record Lexed (s : List ℕ) (i : ℕ) (t : Lexeme) : Type 0 where
  pub tokens : tokens_at s i ≡ tokens_of s t
  pub low : i ≤ t.start
  pub stands : Stands s t
