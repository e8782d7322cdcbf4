-- `soundness_fresh::fresh::free_number` meets its contract: the marks that it makes are those of the row, in the definition's order.
-- Assumes nothing.
use mathlib.Core.List.{List, map}
use Rattle.std.specs.Option.{unwrap_or}
use mathlib.Core.Path.{ap, ap₂, sym, ◌∙◌}
use Rattle.table.specs.Rows.{rows_at}
use Rattle.soundness.specs.Folded.{path_row}
use Rattle.soundness.specs.Labels.{first_free, marked}
use Rattle.soundness.specs.Tokens.{Row}
use Rattle.soundness.proofs.Laws.Marks.{free-fresh, free_place}
use Rattle.soundness_fresh.proofs.fresh.free_number.Goals as goal

pub returns : goal.returns
returns c =
    let a = c.args in
    let D : List Row = map path_row (rows_at a.table.now.text.now a.table.now.to_path.now a.table.now.loaded.to_path) in
    c.unwrap_or.ensures
    ∙ ap₂ unwrap_or c.first_free.ensures (sym (c.mark_domains.auto.marks ∙ c.mark_paths.auto.marks))
    ∙ free_place c.mark_domains.new.marks
    ∙ ap first_free (c.mark_domains.ensures ∙ ap (marked a.parts D) c.mark_paths.ensures)
    ∙ free-fresh a.table.now.text.now a.table.now.to_path.now a.table.now.to_domain.now a.table.now.loaded a.row a.levels a.parts c.requires.levels_value c.requires.parts_value
