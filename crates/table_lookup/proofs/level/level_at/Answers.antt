-- `table_lookup::level::level_at` meets its contract: the field that starts at `at` is the first of those up to `end`, and the others
-- start behind its tab.
-- Assumes nothing.
use mathlib.Core.Path.{refl, sym, ap, ◌∙◌}
use Prim.Native.Nat.{◌+◌}
use mathlib.Core.List.{◌∷◌}
use native.Mathlib.Omega.{arith}
use lib.Seq.{length-take-le}
use Rattle.table.specs.Table.{Token}
use Rattle.table.specs.Rows.{between, fields_at}
use Rattle.table_lookup.specs.Levels.{level_token, span_text}
use Rattle.table.proofs.Laws.Fields.{between_none, fields-first, fields-past, stop_within}
use Rattle.table_lookup.proofs.level.level_at.Goals as goal

pub returns-then-end-at : goal.returns-then-end-at
returns-then-end-at c =
    let a = c.args in
    record { fields = fields-past a.text.now a.at a.end c.if-end-at.true; past = c.if-end-at.true; stays = refl }

pub slice_bounds-part_end-end : goal.slice_bounds-part_end-end
slice_bounds-part_end-end c =
    let a = c.args in
    sym (length-take-le a.end a.text.now (omega arith))

pub returns-then-stop-at : goal.returns-then-stop-at
unfolding level_token
returns-then-stop-at c =
    let a = c.args in
    let stop = c.part_end-stop.result in
    let w = stop_within a.text.now a.at a.end stop (omega arith) (omega arith) c.part_end-stop.ensures in
    record {
      fields = fields-first a.text.now a.at a.end stop (omega arith) (omega arith) c.part_end-stop.ensures
          ∙ ap (λ (t : Token). t ∷ fields_at a.text.now (stop + 1) a.end) (between_none a.text.now a.at stop (omega arith));
      onward = omega arith;
      within = omega arith;
    }

pub overflow_add-result-2 : goal.overflow_add-result-2
overflow_add-result-2 c =
    let a = c.args in
    omega (arith, stop_within a.text.now a.at a.end c.part_end-stop.result (omega arith) (omega arith) c.part_end-stop.ensures)

pub returns : goal.returns
unfolding level_token span_text between
returns c =
    let a = c.args in
    let stop = c.part_end-stop.result in
    let w = stop_within a.text.now a.at a.end stop (omega arith) (omega arith) c.part_end-stop.ensures in
    record {
      found = record {
        fields = fields-first a.text.now a.at a.end stop (omega arith) (omega arith) c.part_end-stop.ensures;
        onward = omega arith;
        within = omega arith;
      };
      starts = refl;
      some = omega arith;
      ends = omega arith;
    }
