-- `table_lookup::extend::count_extension` meets its contract. The loop's invariant: the levels passed, and those that follow as domain parts.
-- Assumes nothing.
use Rattle.std.proofs.Common.{◌∙◌, sym, ap}
use mathlib.Core.Path.{refl}
use native.Mathlib.Omega.{arith}
use Rattle.chars.specs.Domain.{is_domain_part}
use Rattle.table_lookup.proofs.Laws.Extension.{extension-ends, extension-more, extension-past}
use Rattle.table_lookup.proofs.extend.count_extension.Goals as goal

pub loop-i-init : goal.loop-i-init
loop-i-init c = (c.requires, refl)

pub returns-then-not-is_domain_part : goal.returns-then-not-is_domain_part
returns-then-not-is_domain_part c =
    let l = c.loop-i in
    let part = sym (ap is_domain_part c.level.ensures) ∙ sym c.is_domain_part.ensures ∙ c.if-not-is_domain_part.true in
    omega (arith, l.invariant.1, extension-ends c.args.levels.now.bytes.now c.args.levels.now.ends.now l.i (omega arith) part)

pub loop-i-preserved : goal.loop-i-preserved
loop-i-preserved c =
    let l = c.loop-i in
    let part = sym (ap is_domain_part c.level.ensures) ∙ sym c.is_domain_part.ensures ∙ c.if-not-is_domain_part.false in
    let more = extension-more c.args.levels.now.bytes.now c.args.levels.now.ends.now l.i (omega arith) part in
    (omega arith, omega (arith, l.invariant.1, more))

pub returns : goal.returns
returns c =
    let l = c.loop-i in
    omega (arith, l.invariant.1, extension-past c.args.levels.now.bytes.now c.args.levels.now.ends.now l.i (omega arith))
