-- Laws of a line's tokens: where its words stand, what they may mean, and that all tokens together, when they are written
-- again, take no more bytes than the line has.
-- Assumes nothing.
use mathlib.Core.Path.{◌≡◌, refl}
use mathlib.Core.Bool.{Bool, true, false, not, ◌||◌, cond}
use mathlib.Core.List.{List, [], ◌∷◌}
use Prim.Native.Nat.{ℕ, zero, suc, ◌+◌, ◌-◌, ◌≤◌, ◌<◌}
use native.Mathlib.Omega.{arith}
use borrow.Author.Tests.{eqb-true, ltb-true}
use lib.Dec.{eqb, ltb}
use lib.ListN.{length, take}
use lib.Seq.{length-take-le}
use Rattle.chars.specs.Class.{between, is_atom_char}
use Rattle.chars.specs.Lists.{all, bytes, member, non_empty}
use Rattle.chars.specs.Parts.{is_part}
use Rattle.chars.proofs.Laws.Lists.{all_weaken, and_both, by_test, true_not_false}
use Rattle.mailaddr.specs.Shape.{escaped, is_text}
use Rattle.mailaddr.proofs.Laws.Closing.{escaped-plain}
use Rattle.lexical.specs.Quoted.{meaning_in, quoted, size_in}
use Rattle.lexical.specs.Tokens.{Token, Word, atom_run, bad, gap, is_mailbox_special, special, tokens_at, tokens_from, word}
use Rattle.lexical.proofs.Laws.Tokens.{atom_within}
use Rattle.lexical.proofs.Laws.QuotedText.{quoted-closes}

-- what a word may mean: a quoted string a text of bytes 32 to 126, an atom its characters
unfoldable pub Means : Bool → List ℕ → Type 0
Means true l = all is_text l ≡ true
Means false l = is_part is_atom_char l ≡ true

-- a word of a line of n bytes
pub record WordIn (n : ℕ) (w : Word) : Type 0 where
  pub starts : w.start ≤ n
  pub ends : w.end ≤ n
  pub means : Means w.is_quoted w.meaning

unfoldable pub WordsIn : ℕ → List Token → Type 0
WordsIn n [] = Unit
WordsIn n (word w ∷ ts) = WordIn n w × WordsIn n ts
WordsIn n (special c ∷ ts) = WordsIn n ts
WordsIn n (bad ∷ ts) = WordsIn n ts

-- the bytes that a word takes when it is written again, and those that tokens take
unfoldable pub word_bytes : Word → ℕ
word_bytes w = length (escaped w.meaning) + cond w.is_quoted 2 0

unfoldable pub token_bytes : List Token → ℕ
unfolding word_bytes
token_bytes [] = 0
token_bytes (word w ∷ ts) = word_bytes w + token_bytes ts
token_bytes (special c ∷ ts) = suc (token_bytes ts)
token_bytes (bad ∷ ts) = token_bytes ts

-- tokens of a line of n bytes, of at most k bytes of it
pub record TokensIn (n k : ℕ) (ts : List Token) : Type 0 where
  pub words : WordsIn n ts
  pub size : token_bytes ts ≤ k

looser : {n j k : ℕ} {ts : List Token} → j ≤ k → TokensIn n j ts → TokensIn n k ts
looser h t = record { words = t.words; size = omega arith }

-- without the first
pub tokens-tail : {n k : ℕ} (t : Token) (ts : List Token) → TokensIn n k (t ∷ ts) → TokensIn n k ts
unfolding WordsIn token_bytes
tokens-tail (word w) ts h = record { words = h.words.1; size = omega (arith, h.size) }
tokens-tail (special c) ts h = record { words = h.words; size = omega (arith, h.size) }
tokens-tail bad ts h = record { words = h.words; size = h.size }

-- the first, where it is a word
pub tokens-word : {n k : ℕ} {w : Word} {ts : List Token} → TokensIn n k (word w ∷ ts) → WordIn n w
unfolding WordsIn
tokens-word h = h.words.0

-- ---- an atom

run-atoms : (s : List ℕ) → all is_atom_char (take (atom_run s) s) ≡ true
unfolding atom_run all
run-atoms [] = refl
run-atoms (x ∷ s) = by_test (is_atom_char x) (λ e. rw e (and_both e (run-atoms s))) (λ e. rw e)

atom_plain : (x : ℕ) → is_atom_char x ≡ true → not (eqb x 34 || eqb x 92) ≡ true
unfolding is_atom_char between bytes member
atom_plain x h =
    by_test (eqb x 34)
    (λ e. true_not_false (is_atom_char x) h (rw (eqb-true x 34 e)))
    (λ e. by_test (eqb x 92)
    (λ f. true_not_false (is_atom_char x) h (rw (eqb-true x 92 f)))
    (λ f. rw (e, f)))

atoms-plain : (l : List ℕ) → all is_atom_char l ≡ true → escaped l ≡ l
atoms-plain l h = escaped-plain l (all_weaken is_atom_char (λ x. not (eqb x 34 || eqb x 92)) atom_plain l h)

atom_token : (n i x : ℕ) (s : List ℕ) (ts : List Token) → suc (i + length s) ≤ n → is_atom_char x ≡ true → TokensIn n (length s - atom_run s) ts
    → TokensIn n (suc (length s)) (word (record { start = i; end = suc (i + atom_run s); is_quoted = false; meaning = x ∷ take (atom_run s) s }) ∷ ts)
unfolding WordsIn token_bytes word_bytes Means is_part non_empty all
atom_token n i x s ts h e t =
    let a = and_both e (run-atoms s) in
    let r = atom_within s in
    record {
      words = (record { starts = omega arith; ends = omega arith; means = a }, t.words);
      size = rw (atoms-plain (x ∷ take (atom_run s) s) a) (omega (arith, length-take-le (atom_run s) s r));
    }

-- ---- a quoted string

quoted-token : (n i : ℕ) (s : List ℕ) (ts : List Token) → suc (i + length s) ≤ n → 0 < size_in (quoted zero false s) → TokensIn n (length s - size_in (quoted zero false s)) ts
    → TokensIn n (suc (length s)) (word (record { start = i; end = suc (i + size_in (quoted zero false s)); is_quoted = true; meaning = meaning_in (quoted zero false s) }) ∷ ts)
unfolding WordsIn token_bytes word_bytes Means
quoted-token n i s ts h e t =
    let q = quoted-closes s e in
    record {
      words = (record { starts = omega arith; ends = omega arith; means = q.texts }, t.words);
      size = omega arith;
    }

-- ---- all of them

bad-token : {n k : ℕ} → TokensIn n k (bad ∷ [])
unfolding WordsIn token_bytes
bad-token = record { words = tt; size = omega arith }

special-token : {n k c : ℕ} {ts : List Token} → TokensIn n k ts → TokensIn n (suc k) (special c ∷ ts)
unfolding WordsIn token_bytes
special-token t = record { words = t.words; size = omega arith }

-- which tokens a test chooses
by_cond : {n k : ℕ} (t : Bool) {us vs : List Token} → (t ≡ true → TokensIn n k us) → (t ≡ false → TokensIn n k vs) → TokensIn n k (cond t us vs)
by_cond true f g = f refl
by_cond false f g = g refl

first-token : (n i x : ℕ) (s : List ℕ) → suc (i + length s) ≤ n → ((skip : ℕ) → TokensIn n (length s - skip) (tokens_from (suc i) skip s))
    → TokensIn n (suc (length s)) (tokens_from i zero (x ∷ s))
unfolding tokens_from
first-token n i x s h t =
    by_cond (ltb 0 (gap (x ∷ s)))
    (λ e. looser {j = length s - (gap (x ∷ s) - 1)} (omega arith) (t (gap (x ∷ s) - 1)))
    (λ _. by_cond (is_atom_char x)
    (λ e. atom_token n i x s (tokens_from (suc i) (atom_run s) s) h e (t (atom_run s)))
    (λ _. by_cond (eqb x 34)
    (λ _. by_cond (ltb 0 (size_in (quoted zero false s)))
    (λ e. quoted-token n i s (tokens_from (suc i) (size_in (quoted zero false s)) s) h (ltb-true 0 (size_in (quoted zero false s)) e) (t (size_in (quoted zero false s))))
    (λ _. bad-token))
    (λ _. by_cond (is_mailbox_special x)
    (λ _. special-token (looser {j = length s - zero} (omega arith) (t zero)))
    (λ _. bad-token))))

tokens-from : (n i skip : ℕ) (s : List ℕ) → i + length s ≤ n → TokensIn n (length s - skip) (tokens_from i skip s)
unfolding tokens_from WordsIn token_bytes
tokens-from n i skip [] h = record { words = tt; size = omega arith }
tokens-from n i (suc skip) (x ∷ s) h = looser {j = length s - skip} (omega arith) (tokens-from n (suc i) skip s (omega arith))
tokens-from n i zero (x ∷ s) h = looser {j = suc (length s)} (omega arith) (first-token n i x s (omega arith) (λ k. tokens-from n (suc i) k s (omega arith)))

pub line-tokens : (s : List ℕ) → TokensIn (length s) (length s) (tokens_at s 0)
unfolding tokens_at
line-tokens s = looser {j = length s - zero} (omega arith) (tokens-from (length s) zero zero s (omega arith))
