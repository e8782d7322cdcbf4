-- `mailaddr::shape::unescape` meets its contract. The loop's invariant: what is left to write, written, gives the whole text written.
-- Assumes nothing.
use mathlib.Core.Path.{refl, sym, ap, ◌∙◌}
use mathlib.Core.List.{List}
use Prim.Native.Nat.{ℕ, ◌≤◌}
use native.Mathlib.Numerals.{add-one}
use native.Mathlib.Omega.{arith}
use lib.ListN.{length, length-set, drop_of_length-le}
use Rattle.mailaddr.specs.Shape.{unescaped}
use Rattle.mailaddr.proofs.Laws.Closing.{char_step}
use Rattle.mailaddr.proofs.shape.unescape.Goals as goal

pub loop-i-init : goal.loop-i-init
loop-i-init c = (omega arith, refl, omega arith, refl)

pub bounds-s-from : goal.bounds-s-from
bounds-s-from c =
    let p = char_step c.args.s.now c.loop-i.i (omega arith) c.char_at-from.result c.char_at-from.ensures in
    p.1

pub bounds-dst-n : goal.bounds-dst-n
bounds-dst-n c = omega (arith, c.requires)

pub overflow_add-i : goal.overflow_add-i
overflow_add-i c =
    let p = char_step c.args.s.now c.loop-i.i (omega arith) c.char_at-from.result c.char_at-from.ensures in
    omega (arith, p.1)

pub loop-i-smaller : goal.loop-i-smaller
loop-i-smaller c =
    let p = char_step c.args.s.now c.loop-i.i (omega arith) c.char_at-from.result c.char_at-from.ensures in
    omega (arith, p.0)

pub loop-i-preserved : goal.loop-i-preserved
loop-i-preserved c =
    let p = char_step c.args.s.now c.loop-i.i (omega arith) c.char_at-from.result c.char_at-from.ensures in
    let l = c.loop-i in
    (omega (arith, p.0), simp length-set l.invariant.1, omega (arith, l.invariant.2, ap length p.2), l.invariant.3 ∙ rw (p.2, add-one l.n))

pub shape_of-dst : goal.shape_of-dst
shape_of-dst c = c.loop-i.invariant.1

pub returns : goal.returns
unfolding unescaped
returns c =
    let l = c.loop-i in
    let s = c.args.s.now in
    let h : length s ≤ l.i = omega arith in
    record {
      moved = omega (arith, l.invariant.2, ap (λ (t : List ℕ). length (unescaped t)) (drop_of_length-le s h));
      holds = sym (l.invariant.3 ∙ rw (drop_of_length-le s h));
    }
