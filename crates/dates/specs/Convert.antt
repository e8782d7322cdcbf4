-- Request 6: each form to the other. "Refusals: 10 for a date that is malformed or impossible, then 6", and the buffer as before.
-- Assumes nothing.
use Rattle.std.specs.Prelude.{Option, None, Some, List, ℕ}
use Rattle.chars.specs.Write.{TextResult, placed_text, refused_text}
use Rattle.date_read.specs.Read.{read_date, read_utc}
use Rattle.dates.specs.Write.{date_text, utc_text}
use Rattle.date_read.specs.declared.date.DateTime.{DateTime}

unfoldable pub converted : (DateTime → List ℕ) → Option DateTime → List ℕ → TextResult
unfolding refused_text placed_text
converted text None old = refused_text 10 old
converted text (Some d) old = placed_text (text d) old

unfoldable pub utc_to_date : List ℕ → List ℕ → TextResult
unfolding converted date_text read_utc
utc_to_date s old = converted date_text (read_utc s) old

unfoldable pub date_to_utc : List ℕ → List ℕ → TextResult
unfolding converted utc_text read_date
date_to_utc s old = converted utc_text (read_date s) old
