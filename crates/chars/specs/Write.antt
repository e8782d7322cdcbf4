-- Writing text into a buffer that somebody lent.
-- Assumes nothing.
use Rattle.std.specs.Prelude.{◌≡◌, ℕ, ◌+◌, cond, List, ◌++◌, ltb, length, drop, Option, Some, None}
use Rattle.std.proofs.lemmas.List.Edits.{sets}

-- the text at the front of the buffer, and the rest as before
unfoldable pub front : List ℕ → List ℕ → List ℕ
front text old = text ++ drop (length text) old

-- the text written at a place of a buffer: where the next one goes, and what the buffer then holds
pub record Wrote (old : List ℕ) (at : ℕ) (text : List ℕ) (next : ℕ) (new : List ℕ) : Type 0 where
  pub moved : next ≡ at + length text
  pub holds : new ≡ sets old at text

-- a text for the front of a buffer: its length where there is room for it
unfoldable pub placed_size : List ℕ → List ℕ → Option ℕ
placed_size s old = cond (ltb (length old) (length s)) None (Some (length s))

-- and what the buffer then holds; where there is no room, what it held
unfoldable pub placed_buffer : List ℕ → List ℕ → List ℕ
unfolding front
placed_buffer s old = cond (ltb (length old) (length s)) old (front s old)

-- what a call that writes a text into a lent buffer comes to: its number, the text's length with 0 (else 0), and what the buffer then holds
pub record TextResult : Type 0 where
  pub number : ℕ
  pub size : ℕ
  pub buffer : List ℕ

-- document 01: "length 0, buffer as before"
unfoldable pub refused_text : ℕ → List ℕ → TextResult
refused_text n old = record { number = n; size = 0; buffer = old }

-- the text in the buffer; or document 01's 6, "the buffer is shorter than the text"
unfoldable pub placed_text : List ℕ → List ℕ → TextResult
unfolding refused_text front
placed_text s old = cond (ltb (length old) (length s)) (refused_text 6 old) (record { number = 0; size = length s; buffer = front s old })
