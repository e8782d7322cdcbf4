-- `ortext_segments::keys::key_number` meets its contract: a text of one byte is that byte alone.
-- Assumes nothing.
use mathlib.Core.Path.{ap, ◌∙◌}
use Rattle.ortext_segments.specs.Keys.{key_of, keys}
use Rattle.ortext_segments.proofs.Laws.KeyLengths.{one_byte}
use Rattle.ortext_segments.proofs.keys.key_number.Goals as goal

pub returns-then-s-eq1 : goal.returns-then-s-eq1
returns-then-s-eq1 c =
    let at = c in
    c.one_letter.ensures ∙ ap (key_of keys) (one_byte at.args.s.now at.if-s-eq1.true)
