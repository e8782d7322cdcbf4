-- `date_read::read::zone_of` meets its contract.
-- Assumes nothing.
use mathlib.Core.Path.{◌≡◌, sym, ◌∙◌}
use mathlib.Core.List.{map}
use Rattle.std.proofs.Common.{rules, tests}
use Rattle.std.proofs.lemmas.Iterator.{YieldsList-from_slice}
use Rattle.std.proofs.lemmas.Iterator.Search.{any_from_yields_List}
use Rattle.std.specs.List.{list_any}
use Rattle.chars.specs.Case.{same_text}
use Rattle.date_read.proofs.Laws.Names.{named_by}
use Rattle.date_read.proofs.Laws.Read.{zone_named, zone_unnamed}
use Rattle.date_read.proofs.read.zone_of.Goals as goal

pub returns-then-any : goal.returns-then-any
returns-then-any c =
    let s = c.args.s.now in
    let ns = c.args.names.now in
    let e : c.any.result ≡ list_any (λ n. same_text n.now s) ns =
    any_from_yields_List (λ n. same_text n.now s) _ _ c.any.result c.any.ensures.ran (YieldsList-from_slice ns cc) (λ x b q k. search (rules, tests)) in
    zone_named (map (λ n. n.now) ns) s (sym (named_by ns s) ∙ sym e ∙ c.if-any.true)

pub returns : goal.returns
returns c =
    let s = c.args.s.now in
    let ns = c.args.names.now in
    let e : c.any.result ≡ list_any (λ n. same_text n.now s) ns =
    any_from_yields_List (λ n. same_text n.now s) _ _ c.any.result c.any.ensures.ran (YieldsList-from_slice ns cc) (λ x b q k. search (rules, tests)) in
    c.offset_of.ensures ∙ zone_unnamed (map (λ n. n.now) ns) s (sym (named_by ns s) ∙ sym e ∙ c.if-any.false)
