-- `restricted::parse::char_of` meets its contract.
-- Assumes nothing.
use mathlib.Core.Path.{sym, ◌∙◌}
use native.Mathlib.Omega.{arith}
use Rattle.std.proofs.lemmas.Grind.{common_steps}
use Rattle.chars.specs.Lists.{bytes}
use Rattle.restricted.specs.Code.{char_in, char_of, short}
use Rattle.restricted.proofs.parse.char_of.Goals as goal

pub returns-in-117-clause-value : goal.returns-in-117-clause-value
unfolding char_of char_in short bytes
returns-in-117-clause-value c = rw (sym c.fold_case.ensures ∙ c.in-117.is)

pub returns-in-108-clause-value : goal.returns-in-108-clause-value
unfolding char_of char_in short bytes
returns-in-108-clause-value c = rw (sym c.fold_case.ensures ∙ c.in-108.is)

pub returns-in-114-clause-value : goal.returns-in-114-clause-value
unfolding char_of char_in short bytes
returns-in-114-clause-value c = rw (sym c.fold_case.ensures ∙ c.in-114.is)

pub returns-in-109-clause-value : goal.returns-in-109-clause-value
unfolding char_of char_in short bytes
returns-in-109-clause-value c = rw (sym c.fold_case.ensures ∙ c.in-109.is)

pub returns-in-99-clause-value : goal.returns-in-99-clause-value
unfolding char_of char_in short bytes
returns-in-99-clause-value c = rw (sym c.fold_case.ensures ∙ c.in-99.is)

pub returns-in-98-clause-value : goal.returns-in-98-clause-value
unfolding char_of char_in short bytes
returns-in-98-clause-value c = rw (sym c.fold_case.ensures ∙ c.in-98.is)

pub returns-in-104-clause-value : goal.returns-in-104-clause-value
unfolding char_of char_in short bytes
returns-in-104-clause-value c = rw (sym c.fold_case.ensures ∙ c.in-104.is)

pub returns-in-101-clause-value : goal.returns-in-101-clause-value
unfolding char_of char_in short bytes
returns-in-101-clause-value c = rw (sym c.fold_case.ensures ∙ c.in-101.is)

pub returns-in-115-clause-value : goal.returns-in-115-clause-value
unfolding char_of char_in short bytes
returns-in-115-clause-value c = rw (sym c.fold_case.ensures ∙ c.in-115.is)

pub returns-in_default-clause-value : goal.returns-in_default-clause-value
unfolding char_of char_in short bytes
returns-in_default-clause-value c = grind (arith, common_steps)
