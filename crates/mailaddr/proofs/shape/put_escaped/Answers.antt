-- `mailaddr::shape::put_escaped` meets its contract. The loop's invariant: what is left to write, written, gives the whole text written.
-- Assumes nothing.
use mathlib.Core.Path.{refl, sym, ap, ◌∙◌}
use mathlib.Core.List.{List, [], ◌∷◌}
use Prim.Native.Nat.{ℕ, ◌+◌, ◌≤◌}
use native.Mathlib.Omega.{arith}
use lib.ListN.{length, drop, get_or, length-append, drop_of_length-le}
use Rattle.chars.proofs.Laws.Write.{wrote-length}
use Rattle.mailaddr.specs.Shape.{escaped}
use Rattle.mailaddr.proofs.Laws.Closing.{escaped_step, escaped_turn}
use Rattle.mailaddr.proofs.shape.put_escaped.Goals as goal

pub loop-b-init : goal.loop-b-init
loop-b-init c = (refl, refl, refl)

pub put_byte-next-requires : goal.put_byte-next-requires
put_byte-next-requires c =
    let l = c.loop-b in
    let s = c.args.s.now in
    omega (
      arith,
      l.invariant.1,
      c.requires,
      ap length (escaped_step s l.b-index (omega arith)),
      length-append (escaped (get_or s l.b-index 0 ∷ [])) (escaped (drop (l.b-index + 1) s)),
    )

pub loop-b-preserved : goal.loop-b-preserved
loop-b-preserved c =
    let l = c.loop-b in
    let w = c.put_byte-next.ensures in
    let t = escaped_turn c.args.s.now l.b-index (omega arith) w in
    (wrote-length w ∙ l.invariant.0, l.invariant.1 ∙ t.0, l.invariant.2 ∙ t.1)

pub shape_of-dst : goal.shape_of-dst
shape_of-dst c = c.loop-b.invariant.0

pub returns : goal.returns
unfolding escaped
returns c =
    let l = c.loop-b in
    let s = c.args.s.now in
    let h : length s ≤ l.b-index = omega arith in
    record {
      moved = omega (arith, l.invariant.1, ap (λ (t : List ℕ). length (escaped t)) (drop_of_length-le s h));
      holds = sym (l.invariant.2 ∙ rw (drop_of_length-le s h));
    }
