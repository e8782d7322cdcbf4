-- A text in a lent buffer where it fits, as the check shows a witness.
-- Assumes nothing.
use Rattle.std.specs.Prelude.{◌≡◌, cond, List, ℕ, ltb, length}
use Rattle.chars.specs.Write.{front}

-- the buffer with the text at its front, if that fits; else as before
unfoldable pub filled : List ℕ → List ℕ → List ℕ
unfolding front
filled s old = cond (ltb (length old) (length s)) old (front s old)

-- a text and its length
pub record ShownText (s old : List ℕ) (n : ℕ) (new : List ℕ) : Type 0 where
  pub size : n ≡ length s
  pub buffer : new ≡ filled s old
