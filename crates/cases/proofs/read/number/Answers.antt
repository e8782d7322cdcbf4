-- `cases::read::number` meets its contract: the four digits, each by its value.
-- Assumes nothing.
use mathlib.Core.Path.{◌∙◌, ap}
use native.Mathlib.Omega.{arith}
use Rattle.cases.specs.Read.{decimals, number_in, value_in}
use Rattle.cases.proofs.read.number.Goals as goal

pub returns : goal.returns
unfolding number_in decimals
returns c =
    record {
      spelt = omega (
        arith,
        c.digit-a.ensures.value ∙ ap (value_in decimals) c.byte_at.ensures,
        c.digit-b.ensures.value ∙ ap (value_in decimals) c.byte_at-2.ensures,
        c.digit-c.ensures.value ∙ ap (value_in decimals) c.byte_at-3.ensures,
        c.digit-d.ensures.value ∙ ap (value_in decimals) c.byte_at-4.ensures,
      );
      small = omega arith;
    }
