-- `is_tail` meets its contract, by the laws of tails by whole parts.
-- Assumes nothing.
use mathlib.Core.Path.{ap, sym, ◌∙◌}
use mathlib.Core.List.{List}
use Prim.Native.Nat.{ℕ, ◌-◌}
use native.Mathlib.Omega.{arith}
use lib.ListN.{length, drop, length-drop}
use lib.Seq.{take_all}
use Rattle.chars.specs.Case.{same_text}
use Rattle.table.specs.Rows.{between}
use Rattle.table.proofs.Laws.Fields.{between-length}
use Rattle.table_lookup.proofs.Laws.Tails.{tail_dot, tail-inner, tail-short, tail-whole}
use Rattle.table_lookup.proofs.lookup.is_tail.Goals as goal

pub returns-then-domain-n : goal.returns-then-domain-n
returns-then-domain-n c =
    let args = c.args in
    let row : List ℕ = between args.text.now args.a args.b in
    let l = between-length args.text.now args.a args.b c.requires.0 c.requires.1 in
    sym (tail-short row args.domain.now (omega arith))

pub returns-then-from-eq0 : goal.returns-then-from-eq0
unfolding between
returns-then-from-eq0 c =
    let args = c.args in
    let row : List ℕ = between args.text.now args.a args.b in
    let l = between-length args.text.now args.a args.b c.requires.0 c.requires.1 in
    c.same_text.ensures ∙ sym (tail-whole row args.domain.now (omega arith))

pub returns-then-domain-from-ne46 : goal.returns-then-domain-from-ne46
returns-then-domain-from-ne46 c =
    let args = c.args in
    let row : List ℕ = between args.text.now args.a args.b in
    let l = between-length args.text.now args.a args.b c.requires.0 c.requires.1 in
    sym (tail-inner row args.domain.now (length args.domain.now - (args.b - args.a)) (omega arith) (omega arith) c.if-domain-from-ne46.true)

pub returns : goal.returns
unfolding between
returns c =
    let args = c.args in
    let row : List ℕ = between args.text.now args.a args.b in
    let l = between-length args.text.now args.a args.b c.requires.0 c.requires.1 in
    let n : ℕ = length args.domain.now - (args.b - args.a) in
    c.same_text-2.ensures
    ∙ ap (λ (t : List ℕ). same_text t row)
    (take_all (length args.domain.now - n) (drop n args.domain.now) (omega (arith, length-drop n args.domain.now)))
    ∙ sym (tail_dot row args.domain.now n (omega arith) (omega arith) c.if-domain-from-ne46.false)
