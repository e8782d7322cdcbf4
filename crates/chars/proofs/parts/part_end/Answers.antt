-- `chars::parts::part_end` meets its contract: the place of the first separator in what is left of the text, or the length of that.
-- Assumes nothing.
use Rattle.std.proofs.Common.{rules, ◌≡◌, ◌+◌, ◌∙◌, ap, arith, drop, length, sym}
use Rattle.std.proofs.lemmas.Iterator.{YieldsList-from_slice}
use Rattle.std.proofs.lemmas.Iterator.Search.{position_from_yields_List}
use Rattle.std.proofs.lemmas.Grind.{common_steps}
use Rattle.std.specs.Option.{unwrap_or}
use Rattle.std.specs.Prelude.{◌==◌}
use Rattle.chars.specs.Parts.{run}
use Rattle.chars.proofs.Laws.Parts.{run-position}
use Rattle.chars.proofs.parts.part_end.Goals as goal

pub returns : goal.returns
returns c =
    let s = c.args.s.now in
    let sep = c.args.sep in
    let t = c.iter.result.rest.now in
    let p = position_from_yields_List (λ b. b == sep) c.position.new.self _ c.position.result c.position.ensures.ran (YieldsList-from_slice t cc) (λ x b q k. search rules) in
    let f : t ≡ drop c.args.from s = grind (arith, common_steps) in
    let u : c.unwrap_or.result ≡ unwrap_or c.position.result (length t) = c.unwrap_or.ensures ∙ ap (λ l. unwrap_or c.position.result (length l)) (sym c.iter.ensures.rest) in
    ap (λ n. c.args.from + n) (u ∙ ap (λ r. unwrap_or r (length t)) p ∙ run-position sep t ∙ ap (run sep) f)
