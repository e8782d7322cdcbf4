-- `ortext_write::write::is_own_empty` meets its contract. The loop's invariant: what is left to test.
-- Assumes nothing.
use mathlib.Core.Path.{◌≡◌, sym, ap, ◌∙◌}
use mathlib.Core.List.{[]}
use native.Mathlib.Omega.{arith}
use lib.ListN.{length}
use Rattle.chars.specs.Lists.{non_empty}
use Rattle.chars.proofs.Laws.Seq.{no_length, some-length}
use Rattle.oraddr.specs.Attributes.{single_of}
use Rattle.oraddr.specs.View.{value_view, view}
use Rattle.ortext_write.proofs.Laws.Write.{own_end, own_start, own_step}
use Rattle.ortext_write.proofs.write.is_own_empty.Goals as goal

pub loop-k-init : goal.loop-k-init
loop-k-init c = (omega arith, own_start c.args.from (view c.args.rec))

pub returns-then-size-gt0 : goal.returns-then-size-gt0
returns-then-size-gt0 c =
    let l = c.loop-k in
    let a = c.args in
    sym (l.invariant.1 ∙ own_step a.from (view a.rec) l.k (omega arith) (omega arith)
    ∙ rw (some-length (single_of (view a.rec) l.k) (omega (arith, ap length c.single.ensures))))

pub loop-k-preserved : goal.loop-k-preserved
unfolding non_empty
loop-k-preserved c =
    let l = c.loop-k in
    let a = c.args in
    let e : single_of (view a.rec) l.k ≡ [] = sym c.single.ensures ∙ no_length (value_view c.single.result) (omega arith) in
    (omega arith, l.invariant.1 ∙ own_step a.from (view a.rec) l.k (omega arith) (omega arith) ∙ rw e)

pub returns : goal.returns
returns c = sym (c.loop-k.invariant.1 ∙ own_end c.args.from (view c.args.rec) c.loop-k.k (omega arith))
