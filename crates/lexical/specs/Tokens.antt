-- RFC 822, section 3.3: a line as its tokens. White space and comments, which may stand between any two tokens and at both ends, are said here and
-- nowhere else.
-- Assumes nothing.
use Rattle.std.specs.Prelude.{ℕ, zero, suc, ◌+◌, ◌-◌, Bool, true, false, cond, List, [], ◌∷◌, eqb, ltb, take, drop, get_or, Option, None, Some}
use Rattle.chars.specs.Class.{is_atom_char}
use Rattle.chars.specs.Lists.{bytes, member}
use Rattle.lexical.specs.Comment.{comment, deepest_comment}
use Rattle.lexical.specs.Quoted.{meaning_in, quoted, size_in}
use Rattle.lexical.specs.Space.{is_fold, is_space}

-- request 2: refusal 2, "for a line over 4,096 bytes"
abbrev pub longest_line : ℕ
longest_line = 4096

-- word = atom / quoted-string: where it stands in the line (from its first byte to behind its last), and the text that it means
pub record Word : Type 0 where
  pub start : ℕ
  pub end : ℕ
  pub is_quoted : Bool
  pub meaning : List ℕ

-- a word, a special of the grammar, or what is no token, behind which nothing is read
pub data Token : Type 0 where
  word : Word → Token
  special : ℕ → Token
  bad : Token

-- the bytes of the white space or the comment at the front, 0 where there is neither. A fold's space or tab is white space of its own.
unfoldable pub comment_size : Option ℕ → ℕ
comment_size None = 0
comment_size (Some n) = n

unfoldable pub gap : List ℕ → ℕ
unfolding is_space is_fold comment comment_size
gap [] = 0
gap (x ∷ s) =
    cond (is_space x) 1
    (cond (is_fold x (get_or s 0 0) (get_or s 1 0)) 2
    (comment_size (comment deepest_comment (x ∷ s))))

-- how many atom characters stand at the front
unfoldable pub atom_run : List ℕ → ℕ
unfolding is_atom_char
atom_run [] = zero
atom_run (x ∷ s) = cond (is_atom_char x) (suc (atom_run s)) zero

-- the specials that the grammar of a mailbox has, quotes and comments aside
unfoldable pub is_mailbox_special : ℕ → Bool
unfolding bytes member
is_mailbox_special b = member b (bytes ".@<>,:")

-- the tokens of a text that begins at place i of its line, `skip` bytes being passed first
unfoldable pub tokens_from : ℕ → ℕ → List ℕ → List Token
unfolding gap atom_run is_atom_char is_mailbox_special quoted size_in meaning_in
tokens_from i skip [] = []
tokens_from i (suc skip) (x ∷ s) = tokens_from (suc i) skip s
tokens_from i zero (x ∷ s) =
    cond (ltb 0 (gap (x ∷ s))) (tokens_from (suc i) (gap (x ∷ s) - 1) s)
    (cond (is_atom_char x)
    (word (record { start = i; end = suc (i + atom_run s); is_quoted = false; meaning = x ∷ take (atom_run s) s }) ∷ tokens_from (suc i) (atom_run s) s)
    (cond (eqb x 34)
    (cond (ltb 0 (size_in (quoted zero false s)))
    (word (record { start = i; end = suc (i + size_in (quoted zero false s)); is_quoted = true; meaning = meaning_in (quoted zero false s) })
    ∷ tokens_from (suc i) (size_in (quoted zero false s)) s)
    (bad ∷ []))
    (cond (is_mailbox_special x) (special x ∷ tokens_from (suc i) zero s) (bad ∷ []))))

-- the tokens of a line from a place on
unfoldable pub tokens_at : List ℕ → ℕ → List Token
unfolding tokens_from
tokens_at s i = tokens_from i zero (drop i s)
