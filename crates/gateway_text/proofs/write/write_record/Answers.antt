-- `gateway_text::write::write_record` meets its contract.
-- Assumes nothing.
use mathlib.Core.Path.{sym, ◌∙◌}
use Rattle.mapping.specs.Answers.{address_bad_line, address_number, told_address}
use Rattle.mapping.specs.Results.{refused_address}
use Rattle.gateway_text.specs.Texts.{text_of_record}
use Rattle.gateway_text.proofs.write.write_record.Goals as goal

pub returns-then-not-is_canonical : goal.returns-then-not-is_canonical
unfolding text_of_record told_address address_number address_bad_line refused_address
returns-then-not-is_canonical c =
    let i = c.is_canonical in
    rw (sym i.ensures ∙ c.if-not-is_canonical.true)

pub write_canonical-requires : goal.write_canonical-requires
write_canonical-requires c =
    let i = c.is_canonical in
    sym i.ensures ∙ c.if-not-is_canonical.false

pub returns : goal.returns
unfolding text_of_record
returns c =
    let i = c.is_canonical in
    rw (sym i.ensures ∙ c.if-not-is_canonical.false) c.write_canonical.ensures
