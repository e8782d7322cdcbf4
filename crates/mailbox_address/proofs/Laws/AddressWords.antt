-- Laws of words joined by dots: atoms that are joined by dots read as the words that they are, each where it stands.
-- Assumes nothing.
use mathlib.Core.Path.{◌≡◌, refl, sym}
use mathlib.Core.Bool.{Bool, true, false, not, or-true}
use mathlib.Core.List.{List, [], ◌∷◌, ◌++◌, map, append_assoc}
use mathlib.Core.Option.{some}
use Prim.Native.Nat.{ℕ, suc, ◌+◌}
use native.Mathlib.Omega.{arith}
use borrow.Author.Tests.{not-true}
use lib.Dec.{eqb}
use lib.ListN.{length, length-append}
use Rattle.chars.specs.Class.{is_atom_char}
use Rattle.chars.specs.Lists.{all, first, non_empty}
use Rattle.chars.specs.Parts.{is_atoms, is_part, is_parted, join, split}
use Rattle.chars.proofs.Laws.Lists.{and_left, and_right, true_not_false}
use Rattle.chars.proofs.Laws.Parts.{join-split, split-some}
use Rattle.mailbox_address.specs.Grammar.{allowed, alone, any_quoted, before, dotted, meaning_of}
use Rattle.lexical.specs.Tokens.{Token, Word, bad, special, tokens_from, word}
use Rattle.lexical.proofs.Laws.AddressTokens.{atom_word, dot_no_atom, tokens_atom, tokens_dot}

-- ---- one word

-- no dot is the first token
unfoldable pub no_dot : List Token → Bool
no_dot [] = true
no_dot (word w ∷ ts) = true
no_dot (bad ∷ ts) = true
no_dot (special c ∷ ts) = not (eqb c 46)

pub dotted-last : (ok : Word → Bool) (w : Word) (ts : List Token) → ok w ≡ true → no_dot ts ≡ true
    → dotted ok (word w ∷ ts) ≡ some (record { words = w ∷ []; rest = ts })
unfolding dotted alone no_dot
dotted-last ok w [] h k = rw h
dotted-last ok w (word v ∷ ts) h k = rw h
dotted-last ok w (bad ∷ ts) h k = rw h
dotted-last ok w (special c ∷ ts) h k = rw (not-true (eqb c 46) k, h)

dotted-more : (ok : Word → Bool) (w : Word) (ts : List Token) → ok w ≡ true → dotted ok (word w ∷ special 46 ∷ ts) ≡ before w (dotted ok ts)
unfolding dotted
dotted-more ok w ts h = rw h

-- ---- atoms that are joined by dots

-- the words that atoms are, joined by dots from place i of a line on
unfoldable pub atom_words : ℕ → List (List ℕ) → List Word
atom_words i [] = []
atom_words i (p ∷ ps) = atom_word i p ∷ atom_words (suc (i + length p)) ps

words-meaning : (i : ℕ) (ps : List (List ℕ)) → map (λ (w : Word). w.meaning) (atom_words i ps) ≡ ps
unfolding atom_words
words-meaning i [] = refl
words-meaning i (p ∷ ps) = rw (words-meaning (suc (i + length p)) ps)

pub words-unquoted : (i : ℕ) (ps : List (List ℕ)) → any_quoted (atom_words i ps) ≡ false
unfolding atom_words any_quoted
words-unquoted i [] = refl
words-unquoted i (p ∷ ps) = words-unquoted (suc (i + length p)) ps

pub words-split : (i : ℕ) (s : List ℕ) → meaning_of (atom_words i (split 46 s)) ≡ s
unfolding meaning_of
words-split i s = rw (words-meaning i (split 46 s)) (join-split 46 s)

atom_allowed : (q : Bool) (i : ℕ) (p : List ℕ) → allowed q (atom_word i p) ≡ true
unfolding allowed
atom_allowed q i p = or-true q

-- a part of atom characters is an atom
tokens-part : (i : ℕ) (p r : List ℕ) → is_part is_atom_char p ≡ true → is_atom_char (first r) ≡ false
    → tokens_from i 0 (p ++ r) ≡ word (atom_word i p) ∷ tokens_from (i + length p) 0 r
unfolding is_part non_empty
tokens-part i [] r h k = true_not_false true refl (sym h)
tokens-part i (x ∷ p) r h k = tokens_atom i x p r h k

parts-read : (q : Bool) (i : ℕ) (p : List ℕ) (ps : List (List ℕ)) (r : List ℕ) → all (is_part is_atom_char) (p ∷ ps) ≡ true → is_atom_char (first r) ≡ false
    → no_dot (tokens_from (i + length (join 46 (p ∷ ps))) 0 r) ≡ true
    → dotted (allowed q) (tokens_from i 0 (join 46 (p ∷ ps) ++ r)) ≡ some (record { words = atom_words i (p ∷ ps); rest = tokens_from (i + length (join 46 (p ∷ ps))) 0 r })
unfolding join all atom_words before
parts-read q i p [] r h k d =
    rw (tokens-part i p r (and_left (is_part is_atom_char p) true h) k)
    (dotted-last (allowed q) (atom_word i p) (tokens_from (i + length p) 0 r) (atom_allowed q i p) d)
parts-read q i p (p' ∷ ps) r h k d =
    let e : i + length (p ++ 46 ∷ join 46 (p' ∷ ps)) ≡ suc (i + length p) + length (join 46 (p' ∷ ps)) =
    omega (arith, length-append p (46 ∷ join 46 (p' ∷ ps))) in
    let n = parts-read q (suc (i + length p)) p' ps r (and_right (is_part is_atom_char p) (all (is_part is_atom_char) (p' ∷ ps)) h) k (rw e at d) in
    rw (
      append_assoc p (46 ∷ join 46 (p' ∷ ps)) r,
      tokens-part i p (46 ∷ join 46 (p' ∷ ps) ++ r) (and_left (is_part is_atom_char p) (all (is_part is_atom_char) (p' ∷ ps)) h) (dot_no_atom (join 46 (p' ∷ ps) ++ r)),
      tokens_dot (i + length p) (join 46 (p' ∷ ps) ++ r),
      dotted-more (allowed q) (atom_word i p) (tokens_from (suc (i + length p)) 0 (join 46 (p' ∷ ps) ++ r)) (atom_allowed q i p),
      n,
      e,
    )

-- what stands behind them begins with neither an atom character nor, as a token, with a dot
pub dotted-atoms : (q : Bool) (i : ℕ) (s r : List ℕ) → is_atoms s ≡ true → is_atom_char (first r) ≡ false → no_dot (tokens_from (i + length s) 0 r) ≡ true
    → dotted (allowed q) (tokens_from i 0 (s ++ r)) ≡ some (record { words = atom_words i (split 46 s); rest = tokens_from (i + length s) 0 r })
unfolding is_atoms is_parted non_empty
dotted-atoms q i s r h k d = by_parts (split 46 s) (split-some 46 s) h (join-split 46 s)
  where
    by_parts : (ps : List (List ℕ)) → non_empty ps ≡ true → all (is_part is_atom_char) ps ≡ true → join 46 ps ≡ s
        → dotted (allowed q) (tokens_from i 0 (s ++ r)) ≡ some (record { words = atom_words i ps; rest = tokens_from (i + length s) 0 r })
    by_parts [] n a e = true_not_false true refl (sym n)
    by_parts (p ∷ ps) n a e = rw e at (parts-read q i p ps r a k (rw (← e) at d))
