-- What a table was read as, as far as address to record reads it.
-- Assumes nothing.
use Rattle.std.specs.Prelude.{Result, Ok, Err}
use Rattle.table.specs.Lines.{TableOutcome, malformed, well_formed}
use Rattle.table.specs.declared.load.Malformed.{Malformed}
use Rattle.mapping.specs.Answers.{inward}
use Rattle.mapping.specs.declared.sides.Inward.{Inward}

-- its gateway and the rows to a path, or the number of the first bad line
abbrev pub inward_answer : Result Inward Malformed → TableOutcome
inward_answer (Ok t) = well_formed (inward t.text.now t.to_path.now t.loaded)
inward_answer (Err e) = malformed e.line
