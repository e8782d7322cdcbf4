-- `mailaddr::shape::put_local` meets its contract: atoms as they are, any other text between quotes.
-- Assumes nothing.
use mathlib.Core.Path.{◌≡◌, refl, sym, ap, ◌∙◌}
use mathlib.Core.Bool.{false}
use mathlib.Core.List.{List, [], ◌∷◌}
use Prim.Native.Nat.{ℕ, ◌+◌, ◌≤◌}
use native.Mathlib.Omega.{arith}
use lib.ListN.{length, set, length-append, length-set}
use Rattle.chars.specs.Write.{Wrote}
use Rattle.chars.proofs.Laws.Write.{wrote-length, wrote_then}
use Rattle.chars.specs.Parts.{is_atoms}
use Rattle.mailaddr.specs.Shape.{escaped, quoted_local}
use Rattle.mailaddr.proofs.Laws.Shape.{quoted-atoms, quoted_other}
use Rattle.mailaddr.proofs.shape.put_local.Goals as goal

-- the room that a text between quotes takes
room : (s : List ℕ) (at n : ℕ) → is_atoms s ≡ false → at + length (quoted_local s) ≤ n → at + (length (escaped s) + 2) ≤ n
room s at n e h = omega (arith, ap length (quoted_other s e), length-append (escaped s) (34 ∷ []))

pub put-requires : goal.put-requires
put-requires c = omega (arith, ap length (quoted-atoms c.args.s.now (sym c.is_atoms.ensures ∙ c.if-is_atoms.true)), c.requires)

pub returns-then-is_atoms : goal.returns-then-is_atoms
returns-then-is_atoms c = rw (quoted-atoms c.args.s.now (sym c.is_atoms.ensures ∙ c.if-is_atoms.true)) c.put.ensures

pub bounds-dst-at : goal.bounds-dst-at
bounds-dst-at c = omega (arith, room c.args.s.now c.args.at _ (sym c.is_atoms.ensures ∙ c.if-is_atoms.false) c.requires)

pub put_escaped-end-requires : goal.put_escaped-end-requires
put_escaped-end-requires c =
    simp length-set (omega (arith, room c.args.s.now c.args.at _ (sym c.is_atoms.ensures ∙ c.if-is_atoms.false) c.requires))

pub bounds-dst-end : goal.bounds-dst-end
bounds-dst-end c =
    let a = c.args in
    let w = c.put_escaped-end.ensures in
    omega (arith, room a.s.now a.at _ (sym c.is_atoms.ensures ∙ c.if-is_atoms.false) c.requires, w.moved, wrote-length w, length-set a.dst.now a.at 34)

pub overflow_add-result : goal.overflow_add-result
overflow_add-result c =
    let a = c.args in
    let w = c.put_escaped-end.ensures in
    omega (arith, room a.s.now a.at _ (sym c.is_atoms.ensures ∙ c.if-is_atoms.false) c.requires, w.moved, wrote-length w, length-set a.dst.now a.at 34)

pub shape_of-dst : goal.shape_of-dst
shape_of-dst c =
    let a = c.args in
    let p = c.put_escaped-end in
    length-set p.new.dst p.result 34 ∙ wrote-length p.ensures ∙ length-set a.dst.now a.at 34

pub returns : goal.returns
returns c =
    let a = c.args in
    let quote : Wrote a.dst.now a.at (34 ∷ []) (a.at + 1) (set a.dst.now a.at 34) = record { moved = refl; holds = refl } in
    rw (quoted_other a.s.now (sym c.is_atoms.ensures ∙ c.if-is_atoms.false))
    (wrote_then (wrote_then quote c.put_escaped-end.ensures) (record { moved = refl; holds = refl }))
