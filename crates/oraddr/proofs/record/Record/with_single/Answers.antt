-- `Record::with_single` meets its contract: the value goes to a place that is free.
-- Assumes nothing.
use mathlib.Core.Path.{◌≡◌, sym, ap, ◌∙◌}
use mathlib.Core.Bool.{true}
use mathlib.Core.List.{[]}
use native.Mathlib.Omega.{arith}
use borrow.Author.Rules.{rules}
use borrow.Author.Tests.{eq-eqb}
use lib.Dec.{eqb}
use lib.ListN.{length}
use Rattle.chars.proofs.Laws.Seq.{get_d_any}
use Rattle.oraddr.specs.Add.{add_single, outcome, set_single}
use Rattle.oraddr.specs.Bounds.{rule, single_count}
use Rattle.oraddr.specs.View.{value_of}
use Rattle.oraddr.proofs.record.Record.with_single.Goals as goal

pub returns : goal.returns
unfolding add_single outcome set_single
returns c =
    let at = c.args in
    let values = at.self.singles.values in
    let kept : rule at.k at.value.now ≡ true = sym c.keeps_rule.ensures ∙ c.if-not-keeps_rule.false in
    let few : length values ≡ single_count = search rules in
    let there = get_d_any values at.k (value_of []) (record { len = 0; bytes = [] }) (omega (arith, c.requires)) in
    rw (c.of.ensures, kept, ap (λ v. eqb v.len 0) there ∙ eq-eqb _ 0 c.if-self-k-ne0.false)
