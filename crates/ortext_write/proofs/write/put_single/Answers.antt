-- `ortext_write::write::put_single` meets its contract: nothing, or the segment of the value.
-- Assumes nothing.
use mathlib.Core.Path.{sym, ap, ◌∙◌}
use native.Mathlib.Omega.{arith}
use lib.ListN.{length}
use Rattle.oraddr.specs.View.{value_view, view}
use Rattle.chars.proofs.Laws.Seq.{no_length}
use Rattle.chars.proofs.Laws.Write.{wrote_nothing}
use Rattle.ortext_segments.specs.Keys.{keys}
use Rattle.ortext_write.proofs.Laws.Write.{single-none, single-some}
use Rattle.ortext_write.proofs.write.put_single.Goals as goal

pub returns-then-size-eq0 : goal.returns-then-size-eq0
returns-then-size-eq0 c =
    let none = sym c.single-value.ensures ∙ no_length (value_view c.single-value.result) (omega (arith, c.size.ensures, c.if-size-eq0.true)) in
    rw (single-none keys (view c.args.rec) c.args.k c.requires.key none) wrote_nothing

pub put_segment-requires-clause-room : goal.put_segment-requires-clause-room
put_segment-requires-clause-room c =
    let some = single-some (view c.args.rec) c.args.k c.requires.key (omega (arith, ap length c.single-value.ensures, c.size.ensures, c.if-size-eq0.false)) in
    rw (c.text.ensures ∙ c.single-value.ensures) (rw some at c.requires.room)

pub returns : goal.returns
returns c =
    let some = single-some (view c.args.rec) c.args.k c.requires.key (omega (arith, ap length c.single-value.ensures, c.size.ensures, c.if-size-eq0.false)) in
    rw some (rw (c.text.ensures ∙ c.single-value.ensures) at c.put_segment.ensures)
