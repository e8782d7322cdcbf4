-- `level_span` meets its contract: level k is the path's first where k is 0, and else level k - 1 of those behind. The measure is k.
-- Assumes nothing.
use Rattle.std.proofs.Common.{◌≡◌, [], get_or, length, take, drop, sym, ap, ◌∙◌}
use Rattle.table.specs.Rows.{fields_at}
use Rattle.table_lookup.specs.Levels.{Levelled, level_token, span_text}
use Rattle.table_lookup.specs.declared.level.LevelKind.TheVariants.{Named, Omitted}
use Rattle.table_lookup.specs.declared.level.Span.{Span}
use Rattle.soundness.proofs.Laws.Marks.{at_first}
use Rattle.soundness_fresh.proofs.fresh.+level_span.Goals.{in-Omitted, in-Named}
use Rattle.soundness_fresh.proofs.fresh.+level_span.Goals as goal

pub returns-then-k-eq0-clause-token : goal.returns-then-k-eq0-clause-token
unfolding level_token span_text
returns-then-k-eq0-clause-token t c =
    let a = c.args in
    let s = a.text.now in
    let level = c.level_at-level in
    let next = level.result.next in
    elim c.match-level.branch [
      | in-Omitted w ↦
          let l : Levelled s a.at a.end next Omitted = rw w.in-Omitted.is at level.ensures in
          rw w.span-is (sym (at_first (fields_at s a.at a.end) [] (fields_at s next a.end) l.fields a.k c.if-k-eq0.true))
      | in-Named w ↦
          let p = w.in-Named.span in
          let l : Levelled s a.at a.end next (Named p) = rw w.in-Named.is at level.ensures in
          rw w.span-is (sym (at_first (fields_at s a.at a.end) (span_text s p) (fields_at s next a.end) l.found.fields a.k c.if-k-eq0.true))
    ]
