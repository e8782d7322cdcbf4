-- `ortext_name::name::count_initials` meets its contract. The loop's invariant: the initials counted and those behind them are all.
-- Assumes nothing.
use mathlib.Core.Path.{◌≡◌, sym, ap, ◌∙◌}
use Prim.Native.Nat.{◌+◌, ◌*◌}
use mathlib.Core.Bool.{and-false}
use native.Mathlib.Omega.{arith}
use borrow.Author.Tests.{eq-eqb, ne_eqb}
use lib.ListN.{length, drop, get_or, length-drop}
use Rattle.chars.proofs.Laws.Lists.{and_both}
use Rattle.ortext_name.proofs.Laws.Name.{initials-more, initials-short, initials_stop}
use Rattle.ortext_name.proofs.name.count_initials.Goals as goal
use Rattle.ortext_name.proofs.name.count_initials.Goals.{then-not-is_letter-via-then-not-is_letter, then-not-is_letter-via-else-not-is_letter+then-s-n-ne46}

pub returns-then-not-is_letter : goal.returns-then-not-is_letter
returns-then-not-is_letter c =
    let s = c.args.s.now in
    let i = 2 * c.loop-n.n in
    elim c.then-not-is_letter.branch [
      | then-not-is_letter-via-then-not-is_letter w ↦
          let e = sym c.is_letter.ensures ∙ w.if-not-is_letter.true in omega (arith, c.loop-n.invariant, ap length (initials_stop s i (omega arith) (rw e)))
      | then-not-is_letter-via-else-not-is_letter+then-s-n-ne46 w ↦
          omega (arith, c.loop-n.invariant, ap length (initials_stop s i (omega arith) (rw (ne_eqb (get_or s (i + 1) 0) 46 w.if-s-n-ne46.true, and-false))))
    ]

pub loop-n-preserved : goal.loop-n-preserved
loop-n-preserved c =
    let s = c.args.s.now in
    let i = 2 * c.loop-n.n in
    let e = sym c.is_letter.ensures ∙ c.if-not-is_letter.false in
    let n : 2 * (c.loop-n.n + 1) ≡ i + 2 = omega arith in
    rw n (omega (arith, c.loop-n.invariant, ap length (initials-more s i (omega arith) (and_both e (eq-eqb (get_or s (i + 1) 0) 46 c.if-s-n-ne46.false)))))

pub returns : goal.returns
returns c =
    let s = c.args.s.now in
    omega (arith, c.loop-n.invariant, ap length (initials-short (drop (2 * c.loop-n.n) s) (rw length-drop (omega arith))))
