-- `chars::case::same_text` meets its contract: two texts are as long, and each pair of their bytes is the same.
-- Assumes nothing.
use Rattle.std.proofs.Common.{rules, ◌∙◌, sym}
use Rattle.std.proofs.lemmas.Iterator.{YieldsList-from_slice, YieldsList-from_zip}
use Rattle.std.proofs.lemmas.Iterator.Search.{all_from_yields_List}
use borrow.Author.Tests.{ne_eqb}
use Rattle.chars.specs.Case.{same_byte, same_text}
use Rattle.chars.proofs.Laws.Case.{agree_lengths_differ, agree_zip}
use Rattle.chars.proofs.case.same_text.Goals as goal

pub returns-then-a-b : goal.returns-then-a-b
unfolding same_text
returns-then-a-b c =
    let a = c.args.a.now in
    let b = c.args.b.now in
    let chain = YieldsList-from_zip {s = c.zip.result} (YieldsList-from_slice {s = c.zip.result.a} a cc) (YieldsList-from_slice {s = c.zip.result.b} b cc) in
    all_from_yields_List (λ p. same_byte p.0 p.1) c.all.new.self _ c.all.result c.all.ensures.ran chain (λ x r q k. search rules)
    ∙ agree_zip same_byte a b c.if-a-b.true

pub returns-else-a-b : goal.returns-else-a-b
unfolding same_text
returns-else-a-b c =
    let a = c.args.a.now in
    let b = c.args.b.now in
    ne_eqb _ _ c.if-a-b.false ∙ sym (agree_lengths_differ same_byte a b c.if-a-b.false)
