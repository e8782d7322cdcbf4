-- `ortext_write::write::write_text` meets its contract: the segments and the last slash.
-- Assumes nothing.
use native.Mathlib.Omega.{arith}
use Rattle.oraddr.specs.View.{view}
use Rattle.chars.proofs.Laws.Write.{wrote-length, wrote_one, wrote_then}
use Rattle.ortext_write.specs.Write.{record_text, remaining, segments_text}
use Rattle.ortext_write.proofs.Laws.Write.{length-text}
use Rattle.ortext_write.proofs.write.write_text.Goals as goal

pub put_keys-next-requires : goal.put_keys-next-requires
put_keys-next-requires c = omega (arith, length-text (remaining c.args.from (view c.args.rec)), c.requires)

pub bounds-dst-next : goal.bounds-dst-next
bounds-dst-next c =
    omega (arith, length-text (remaining c.args.from (view c.args.rec)), c.requires, c.put_keys-next.ensures.moved, wrote-length c.put_keys-next.ensures)

pub overflow_add-result : goal.overflow_add-result
overflow_add-result c = omega (arith, length-text (remaining c.args.from (view c.args.rec)), c.requires, c.put_keys-next.ensures.moved)

pub returns : goal.returns
unfolding record_text segments_text
returns c = wrote_then c.put_keys-next.ensures (wrote_one 47)
