-- What the program looks at of its input.
-- Assumes nothing.
use Rattle.std.specs.Prelude.{ℕ, ◌+◌}
use Rattle.mailaddr.specs.Shape.{longest_address}

-- the longest text of a case, one byte longer than an address; the cases have none longer
abbrev pub longest_case : ℕ
longest_case = longest_address + 1
