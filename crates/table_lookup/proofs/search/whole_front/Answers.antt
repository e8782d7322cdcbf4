-- `table_lookup::search::whole_front` meets its contract. The loop's invariant: no token ends at a place passed.
-- Assumes nothing.
use mathlib.Core.Path.{◌≡◌, sym, ◌∙◌}
use mathlib.Core.Bool.{true, false}
use Prim.Native.Nat.{◌-◌}
use native.Mathlib.Omega.{arith}
use borrow.Author.Tests.{eqb-true, eqb-false, ltb-true, ltb-false}
use lib.Dec.{eqb, ltb}
use lib.ListN.{get_or}
use Rattle.chars.proofs.Laws.Lists.{by_test}
use Rattle.table_order.specs.Order.{spell_by}
use Rattle.table_lookup.proofs.search.whole_front.Goals as goal

pub loop-k-init : goal.loop-k-init
loop-k-init c = λ j l m h. omega arith

pub returns-then-is_end : goal.returns-then-is_end
returns-then-is_end c =
    let a = c.args in
    let k = c.loop-k.k in
    let e : eqb (get_or (spell_by a.key a.query.now) (k - 1) 0) 0 ≡ true = sym c.is_end.ensures ∙ c.if-is_end.true in
    record {
      within = omega arith;
      ends = eqb-true _ 0 e;
      most = λ j m h. by_test (ltb (k - 1) j)
          (λ f. absurd (c.loop-k.invariant j (omega (arith, ltb-true (k - 1) j f)) m h))
          (λ f. ltb-false (k - 1) j f);
    }

pub loop-k-preserved : goal.loop-k-preserved
loop-k-preserved c =
    let a = c.args in
    let k = c.loop-k.k in
    let e : eqb (get_or (spell_by a.key a.query.now) (k - 1) 0) 0 ≡ false = sym c.is_end.ensures ∙ c.if-is_end.false in
    λ j l m h. by_test (eqb j (k - 1))
    (λ f. let g : j ≡ k - 1 = eqb-true j (k - 1) f in eqb-false _ 0 e (rw g at h))
    (λ f. c.loop-k.invariant j (omega (arith, eqb-false j (k - 1) f)) m h)

pub returns : goal.returns
returns c = λ j m h. c.loop-k.invariant j (omega arith) m h
