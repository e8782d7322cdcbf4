-- What the functions for C return: a number and a count in one value, or a place.
-- Assumes nothing.
use Rattle.std.specs.Prelude.{◌≡◌, cond, List, [], Result, Ok, Err, ℕ, ◌+◌, ◌*◌, ◌%◌, eqb}
use Rattle.chars.specs.Parts.{Place}
use Rattle.chars.specs.Write.{TextResult}

-- every number is below it
abbrev pub number_limit : ℕ
number_limit = 16

-- no count of the mappings and the check is greater: a table text of 65,536 bytes has at most so many lines, and no text is longer
abbrev pub most_count : ℕ
most_count = 65539

-- the number, and 16 times the length that was written, or with 7 the line
unfoldable pub packed_count : ℕ → ℕ → ℕ → ℕ
packed_count number line size = number + number_limit * cond (eqb number 7) line size

-- ---- a text in a buffer: dates, the restricted encoding, and mailboxes

-- 2 to the power 60. A number and 16 times a length below it fit in one value; and no buffer has so many bytes, since an address of the machine
-- has 57 bits at most
abbrev pub length_limit : ℕ
length_limit = 1152921504606846976

-- the number, and 16 times the length that was written
abbrev pub packed_text : TextResult → ℕ
packed_text o = o.number + number_limit * (o.size % length_limit)

-- the value that is returned and the buffer, of a result
pub record ExportedText (o : TextResult) (r : ℕ) (new : List ℕ) : Type 0 where
  pub value : r ≡ packed_text o
  pub buffer : new ≡ o.buffer

-- the value that is returned for a text that was written, by its length, or for a refusal, by a number that it converts to
abbrev pub PackedResult : {E : Type 0} → (E → ℕ → Type 0) → Result ℕ E → ℕ → Type 0
PackedResult converts (Ok n) r = r ≡ packed_text (record { number = 0; size = n; buffer = [] })
PackedResult converts (Err e) r = (n : ℕ) × converts e n × (r ≡ packed_text (record { number = n; size = 0; buffer = [] }))

-- ---- the place of a phrase

-- no phrase starts or ends behind it
abbrev pub place_limit : ℕ
place_limit = 65536

-- start × 65,536 + length
abbrev pub packed_place : Place → ℕ
packed_place p = p.start * place_limit + p.size
