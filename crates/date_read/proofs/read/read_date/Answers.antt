-- `date_read::read::read_date` meets its contract.
-- Assumes nothing.
use mathlib.Core.Path.{◌∙◌, ap}
use native.Mathlib.Omega.{arith}
use borrow.Author.Tests.{eq-eqb, ne_eqb}
use Rattle.chars.specs.Lists.{bytes}
use Rattle.date_read.specs.Read.{day_names, number_in, read_date}
use Rattle.date_read.proofs.read.read_date.Goals as goal

pub returns-then-byte_at-ne44 : goal.returns-then-byte_at-ne44
unfolding read_date
returns-then-byte_at-ne44 c = rw (← c.byte_at.ensures, ne_eqb _ _ c.if-byte_at-ne44.true) c.read_body.ensures

pub returns-then-byte_at-ne32 : goal.returns-then-byte_at-ne32
unfolding read_date
returns-then-byte_at-ne32 c =
    rw (← c.byte_at.ensures, eq-eqb _ _ c.if-byte_at-ne44.false, ← c.byte_at-2.ensures, ne_eqb _ _ c.if-byte_at-ne32.true)

pub returns-in_err-number_in : goal.returns-in_err-number_in
unfolding read_date bytes
returns-in_err-number_in c =
    let n = c.in_err-number_in.ensures.value ∙ ap (number_in 1 day_names) c.three.ensures in
    c.from_residual.ensures ∙ rw (
      ← c.byte_at.ensures,
      eq-eqb _ _ c.if-byte_at-ne44.false,
      ← c.byte_at-2.ensures,
      eq-eqb _ _ c.if-byte_at-ne32.false,
      ← n,
    )

pub returns : goal.returns
unfolding read_date bytes
returns c =
    let n = c.in_ok-number_in.ensures.value ∙ ap (number_in 1 day_names) c.three.ensures in
    rw (
      ← c.byte_at.ensures,
      eq-eqb _ _ c.if-byte_at-ne44.false,
      ← c.byte_at-2.ensures,
      eq-eqb _ _ c.if-byte_at-ne32.false,
      ← n,
      ne_eqb c.in_ok-number_in.field-0 0 (λ q. omega (arith, c.in_ok-number_in.ensures.least)),
      ← c.behind.ensures,
    )
    c.read_body-2.ensures
