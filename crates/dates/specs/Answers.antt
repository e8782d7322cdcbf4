-- What the answers of the code stand for.
-- Assumes nothing.
use Rattle.std.specs.Prelude.{List, ℕ, Result, Ok, Err}
use Rattle.chars.specs.Write.{TextResult}
use Rattle.dates.specs.declared.convert.DateFault.{DateFault}
use Rattle.dates.specs.declared.convert.DateFault.TheVariants.{NoDate, ShortBuffer}

-- request 6's number for each refusal; with 0 the text is written
abbrev pub date_number : DateFault → ℕ
date_number NoDate = 10
date_number ShortBuffer = 6

abbrev pub told : Result ℕ DateFault → List ℕ → TextResult
told (Ok n) new = record { number = 0; size = n; buffer = new }
told (Err e) new = record { number = date_number e; size = 0; buffer = new }
