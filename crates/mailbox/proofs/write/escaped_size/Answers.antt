-- `mailbox::write::escaped_size` meets its contract. The loop's invariant: the length so far and the length of what is left are the whole length.
-- Assumes nothing.
use mathlib.Core.Path.{ap}
use mathlib.Core.List.{List, [], ◌∷◌}
use Prim.Native.Nat.{ℕ, ◌+◌, ◌≤◌}
use native.Mathlib.Omega.{arith}
use lib.ListN.{length, drop, get_or, length-append, drop_of_length-le}
use Rattle.mailaddr.specs.Shape.{escaped}
use Rattle.mailaddr.proofs.Laws.Closing.{escaped_step, length-escaped}
use Rattle.mailbox.proofs.write.escaped_size.Goals as goal

pub overflow_add-n : goal.overflow_add-n
overflow_add-n c =
    let s = c.args.s.now in
    let l = c.loop-b in
    omega (
      arith,
      l.invariant,
      c.escaped_byte_size-n.ensures,
      ap length (escaped_step s l.b-index (omega arith)),
      length-append (escaped (get_or s l.b-index 0 ∷ [])) (escaped (drop (l.b-index + 1) s)),
      length-escaped s,
    )

pub loop-b-preserved : goal.loop-b-preserved
loop-b-preserved c =
    let s = c.args.s.now in
    let l = c.loop-b in
    omega (
      arith,
      l.invariant,
      c.escaped_byte_size-n.ensures,
      ap length (escaped_step s l.b-index (omega arith)),
      length-append (escaped (get_or s l.b-index 0 ∷ [])) (escaped (drop (l.b-index + 1) s)),
    )

pub returns : goal.returns
unfolding escaped
returns c =
    let l = c.loop-b in
    let s = c.args.s.now in
    let h : length s ≤ l.b-index = omega arith in
    omega (arith, l.invariant, ap (λ (t : List ℕ). length (escaped t)) (drop_of_length-le s h))
