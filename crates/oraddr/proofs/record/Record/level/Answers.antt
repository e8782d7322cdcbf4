-- `Record::level` meets its contract: the first levels are attributes that a record has once, the others are units.
-- Assumes nothing.
use mathlib.Core.Path.{◌≡◌, sym, ap, ◌∙◌}
use borrow.Author.Rules.{rules}
use lib.ListN.{length, length-map}
use Rattle.oraddr.specs.Bounds.{O, bound_of, single_count}
use Rattle.oraddr.specs.View.{held_text, singles_view, view}
use Rattle.oraddr.proofs.Laws.Text.{view_text}
use Rattle.oraddr.proofs.Laws.View.{level_own, level_unit}
use Rattle.oraddr.proofs.record.Record.level.Goals as goal

pub returns-then-k-lt-OWN_LEVELS : goal.returns-then-k-lt-OWN_LEVELS
unfolding singles_view view
returns-then-k-lt-OWN_LEVELS c =
    let singles : length (view c.args.self).single ≡ single_count = simp length-map (search rules) in
    c.single.ensures ∙ sym (level_own (view c.args.self) c.args.k singles c.if-k-lt-OWN_LEVELS.true)

pub returns : goal.returns
unfolding singles_view view
returns c =
    let singles : length (view c.args.self).single ≡ single_count = simp length-map (search rules) in
    ap held_text c.of.ensures
    ∙ view_text (bound_of O) c.text.result.now
    ∙ c.text.ensures
    ∙ c.unit.ensures
    ∙ sym (level_unit (view c.args.self) c.args.k singles c.if-k-lt-OWN_LEVELS.false c.requires)
