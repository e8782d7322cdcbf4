-- Laws of tokens: how a text begins that begins with an atom, with a dot or an `@`, or with a quoted string that has no fold.
-- Assumes nothing.
use mathlib.Core.Path.{◌≡◌, refl, ap, ◌∙◌}
use mathlib.Core.Bool.{true, false}
use mathlib.Core.List.{List, [], ◌∷◌, ◌++◌}
use Rattle.std.proofs.Common.{Some}
use Prim.Native.Nat.{ℕ, suc, ◌+◌, ◌<◌}
use native.Mathlib.Nat.{add-zero}
use native.Mathlib.Omega.{arith}
use borrow.Author.Tests.{leb-true, lt-ltb, ne_eqb}
use lib.Dec.{eqb, leb}
use lib.ListN.{length, take, get_or}
use lib.Seq.{take-append_seam}
use Rattle.chars.specs.Class.{between, is_atom_char}
use Rattle.chars.specs.Lists.{all, bytes, first, member}
use Rattle.chars.proofs.Laws.Lists.{and_left, and_right, true_not_false}
use Rattle.mailaddr.specs.Shape.{closing, is_text, unescaped}
use Rattle.mailaddr.proofs.Laws.Closing.{unescaped-plain}
use Rattle.lexical.specs.Comment.{comment}
use Rattle.lexical.specs.Quoted.{keeping, meaning_in, passing, quoted, quoted_by, quoted_step, size_in, text_step}
use Rattle.lexical.specs.Space.{is_fold, is_space}
use Rattle.lexical.specs.Tokens.{Word, atom_run, comment_size, gap, is_mailbox_special, special, tokens_from, word}
use Rattle.lexical.proofs.Laws.Closing.{by-closing}

-- ---- what is passed

pub tokens_skip : (i : ℕ) (w r : List ℕ) → tokens_from i (length w) (w ++ r) ≡ tokens_from (i + length w) 0 r
unfolding tokens_from
tokens_skip i [] r = rw (add-zero i)
tokens_skip i (x ∷ w) r = let e : suc i + length w ≡ i + suc (length w) = omega arith in tokens_skip (suc i) w r ∙ rw e

-- a byte that begins neither white space nor a comment
gap-none : (x : ℕ) (s : List ℕ) → is_space x ≡ false → eqb x 13 ≡ false → eqb x 40 ≡ false → gap (x ∷ s) ≡ 0
unfolding gap is_fold comment first comment_size
gap-none x s e f g = rw (e, f, g)

-- ---- atoms

atom_not : (c : ℕ) → is_atom_char c ≡ false → (x : ℕ) → is_atom_char x ≡ true → eqb x c ≡ false
atom_not c h x e = ne_eqb x c (λ r. true_not_false (is_atom_char x) e (ap is_atom_char r ∙ h))

atom_gap : (x : ℕ) (s : List ℕ) → is_atom_char x ≡ true → gap (x ∷ s) ≡ 0
unfolding is_space is_atom_char between bytes member
atom_gap x s h =
    gap-none x s (rw (atom_not 32 refl x h, atom_not 9 refl x h)) (atom_not 13 refl x h) (atom_not 40 refl x h)

atom_run_lem : (w r : List ℕ) → all is_atom_char w ≡ true → is_atom_char (first r) ≡ false → atom_run (w ++ r) ≡ length w
unfolding atom_run all first
atom_run_lem [] [] h k = refl
atom_run_lem [] (y ∷ r) h k = rw k
atom_run_lem (x ∷ w) r h k = rw (and_left (is_atom_char x) (all is_atom_char w) h, atom_run_lem w r (and_right (is_atom_char x) (all is_atom_char w) h) k)

-- the word that an atom at place i of its line is
abbrev pub atom_word : ℕ → List ℕ → Word
atom_word i w = record { start = i; end = i + length w; is_quoted = false; meaning = w }

pub tokens_atom : (i x : ℕ) (w r : List ℕ) → all is_atom_char (x ∷ w) ≡ true → is_atom_char (first r) ≡ false
    → tokens_from i 0 (x ∷ w ++ r) ≡ word (atom_word i (x ∷ w)) ∷ tokens_from (i + length (x ∷ w)) 0 r
unfolding tokens_from all
tokens_atom i x w r h k =
    let e = and_left (is_atom_char x) (all is_atom_char w) h in
    let n = atom_run_lem w r (and_right (is_atom_char x) (all is_atom_char w) h) k in
    let q : suc i + length w ≡ i + suc (length w) = omega arith in
    let p : suc (i + length w) ≡ i + suc (length w) = omega arith in
    rw (atom_gap x (w ++ r) e, e, n, take-append_seam w r, tokens_skip (suc i) w r, q, p)

-- ---- a dot, and an `@`

pub tokens_dot : (i : ℕ) (r : List ℕ) → tokens_from i 0 (46 ∷ r) ≡ special 46 ∷ tokens_from (suc i) 0 r
unfolding tokens_from is_atom_char between bytes member is_mailbox_special is_space
tokens_dot i r = rw (gap-none 46 r refl refl refl)

pub tokens-at : (i : ℕ) (r : List ℕ) → tokens_from i 0 (64 ∷ r) ≡ special 64 ∷ tokens_from (suc i) 0 r
unfolding tokens_from is_atom_char between bytes member is_mailbox_special is_space
tokens-at i r = rw (gap-none 64 r refl refl refl)

-- an atom does not go on with either, nor at the end of a text
pub dot_no_atom : (r : List ℕ) → is_atom_char (first (46 ∷ r)) ≡ false
unfolding is_atom_char between bytes member first
dot_no_atom r = refl

pub at_no_atom : (r : List ℕ) → is_atom_char (first (64 ∷ r)) ≡ false
unfolding is_atom_char between bytes member first
at_no_atom r = refl

pub end_no_atom : is_atom_char (first []) ≡ false
unfolding is_atom_char between first
end_no_atom = refl

-- ---- quoted strings without folds

-- a byte of 32 to 126 begins no fold
text-fold : (x y z : ℕ) → is_text x ≡ true → is_fold x y z ≡ false
unfolding is_fold is_text between
text-fold x y z h = rw (ne_eqb x 13 (λ r. omega (arith, leb-true 32 x (and_left (leb 32 x) (leb x 126) h))))

quoted-text : (x : ℕ) (s : List ℕ) → eqb x 34 ≡ false → eqb x 92 ≡ false → is_text x ≡ true → quoted 0 false (x ∷ s) ≡ keeping x (quoted 0 false s)
unfolding quoted quoted_step quoted_by text_step
quoted-text x s e f g = rw (text-fold x (get_or s 0 0) (get_or s 1 0) g, e, f, g)

quoted_escape : (y : ℕ) (s : List ℕ) → is_text y ≡ true → quoted 0 false (92 ∷ y ∷ s) ≡ passing (keeping y (quoted 0 false s))
unfolding quoted quoted_step is_fold quoted_by text_step
quoted_escape y s f = rw (text-fold y (get_or s 0 0) (get_or s 1 0) f, f)

-- A quoted string of the accepted shape of an address is one of the same size here, and it means what that unquotes to. `before` bytes stand before
-- its closing quote.
pub record ReadQuoted (t : List ℕ) (n : ℕ) : Type 0 where
  pub before : ℕ
  pub size : n ≡ suc before
  pub reads : quoted 0 false t ≡ Some (record { size = n; meaning = unescaped (take before t) })

read_close : (s : List ℕ) → ReadQuoted (34 ∷ s) 1
unfolding unescaped quoted quoted_step is_fold quoted_by
read_close s = record { before = 0; size = refl; reads = refl }

read_escape : (y : ℕ) (s : List ℕ) (n : ℕ) → is_text y ≡ true → ReadQuoted s n → ReadQuoted (92 ∷ y ∷ s) (suc (suc n))
unfolding unescaped keeping passing
read_escape y s n f k =
    record {
      before = suc (suc k.before);
      size = omega (arith, k.size);
      reads = quoted_escape y s f ∙ rw k.reads;
    }

read-text : (x : ℕ) (s : List ℕ) (n : ℕ) → eqb x 34 ≡ false → eqb x 92 ≡ false → is_text x ≡ true → ReadQuoted s n → ReadQuoted (x ∷ s) (suc n)
unfolding keeping
read-text x s n e f g k =
    record {
      before = suc k.before;
      size = omega (arith, k.size);
      reads = quoted-text x s e f g ∙ rw (k.reads, unescaped-plain x (take k.before s) f);
    }

pub quoted-closing : (t : List ℕ) (n : ℕ) → closing t ≡ Some n → ReadQuoted t n
quoted-closing = by-closing ReadQuoted read_close read_escape read-text

-- the word that a quoted string of n bytes behind its opening quote is
abbrev pub quoted_word : ℕ → ℕ → List ℕ → Word
quoted_word i n t = record { start = i; end = suc (i + n); is_quoted = true; meaning = t }

pub tokens-quoted : (i : ℕ) (t r : List ℕ) (n : ℕ) (u : List ℕ) → quoted 0 false (t ++ r) ≡ Some (record { size = n; meaning = u }) → n ≡ length t → 0 < n
    → tokens_from i 0 (34 ∷ t ++ r) ≡ word (quoted_word i n u) ∷ tokens_from (suc (i + n)) 0 r
unfolding tokens_from is_atom_char between bytes member is_space size_in meaning_in
tokens-quoted i t r n u h k l =
    let q : suc i + length t ≡ suc (i + length t) = omega arith in
    rw (gap-none 34 (t ++ r) refl refl refl, h, lt-ltb 0 n l, k, tokens_skip (suc i) t r, q)
