-- `mapping_to_address::levels::flatten` meets its contract. The loop's invariant: the first k levels stand in the buffer, 64 bytes each at most.
-- Assumes nothing.
use mathlib.Core.Path.{◌≡◌, ◌∙◌, subst}
use Prim.Native.Nat.{ℕ, ◌+◌}
use native.Mathlib.Omega.{arith}
use borrow.Author.Rules.{rules}
use lib.ListN.{length, length-map, length-set}
use Rattle.chars.proofs.Laws.Write.{wrote-length}
use Rattle.oraddr.specs.Attributes.{levels}
use Rattle.oraddr.specs.View.{singles_view, value_view, view}
use Rattle.mapping.proofs.Laws.Flat.{Filled, filled-all, filled_more, filled_none, length-levels}
use Rattle.mapping_to_address.proofs.levels.flatten.Goals as goal

pub loop-k-init : goal.loop-k-init
loop-k-init c =
    let a = c.args in
    (search rules, search rules, search rules, filled_none (levels (view a.rec)) a.flat.now a.ends.now (search rules))

pub loop-k-preserved : goal.loop-k-preserved
loop-k-preserved c =
    let at = c.loop-k in
    let p = c.put_level-n in
    let w = p.ensures.wrote in
    let l = p.ensures.short in (
      wrote-length w ∙ at.invariant.0,
      length-set at.ends (at.k + 1) p.result ∙ at.invariant.1,
      omega (arith, w.moved),
      filled_more (levels (view c.args.rec)) at.flat p.new.dst at.ends at.k at.n p.result (omega arith) w (omega (arith, w.moved)) at.invariant.3,
    )

pub returns : goal.returns
unfolding singles_view view
returns c =
    let the_eight : length (levels (view c.args.rec)) ≡ 8 =
    length-levels (view c.args.rec)
    (length-map c.args.rec.singles.values value_view ∙ c.well_formed.0.1.1.0.1.1.0.1.0.1) in
    let at = c.loop-k in
    let ls = levels (view c.args.rec) in
    let e : at.k ≡ 8 = omega arith in
    filled-all ls at.n at.flat at.ends the_eight (omega arith) (omega arith) (omega arith)
    (subst (λ (k : ℕ). Filled ls k at.n at.flat at.ends) e at.invariant.3)
