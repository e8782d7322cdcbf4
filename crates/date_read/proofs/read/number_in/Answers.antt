-- `date_read::read::number_in` meets its contract.
-- Assumes nothing.
use mathlib.Core.Path.{◌≡◌, sym, ap, ◌∙◌}
use Prim.Native.Nat.{suc}
use native.Mathlib.Numerals.{add-one}
use Rattle.std.specs.Prelude.{option_map, unwrap_or}
use Rattle.std.proofs.Common.{rules, tests}
use Rattle.std.proofs.lemmas.Iterator.{YieldsList-from_slice}
use Rattle.std.proofs.lemmas.Iterator.Search.{position_from_yields_List}
use Rattle.std.proofs.lemmas.Iterator.Adapters.{position_from-zero}
use Rattle.std.specs.List.{position_from}
use Rattle.chars.specs.Case.{same_text}
use Rattle.date_read.proofs.Laws.Names.{numbered}
use Rattle.date_read.proofs.read.number_in.Goals as goal

pub returns-in_err-place-clause-value : goal.returns-in_err-place-clause-value
returns-in_err-place-clause-value c =
    let s = c.args.s.now in
    let ns = c.args.names.now in
    let e : c.position.result ≡ position_from (λ n. same_text n s) 0 ns =
    position_from_yields_List (λ n. same_text n s) _ _ c.position.result c.position.ensures.ran (YieldsList-from_slice ns cc) (λ x b q k. search (rules, tests))
    ∙ position_from-zero (λ n. same_text n s) ns in
    rw c.from_residual.ensures (ap (λ o. unwrap_or (option_map (λ i. suc i) o) 0) (sym c.in_err-place.was ∙ e) ∙ numbered ns 0 s)

pub returns-clause-value : goal.returns-clause-value
returns-clause-value c =
    let s = c.args.s.now in
    let ns = c.args.names.now in
    let e : c.position.result ≡ position_from (λ n. same_text n s) 0 ns =
    position_from_yields_List (λ n. same_text n s) _ _ c.position.result c.position.ensures.ran (YieldsList-from_slice ns cc) (λ x b q k. search (rules, tests))
    ∙ position_from-zero (λ n. same_text n s) ns in
    add-one c.in_ok-place.place ∙ ap (λ o. unwrap_or (option_map (λ i. suc i) o) 0) (sym c.in_ok-place.was ∙ e) ∙ numbered ns 0 s
