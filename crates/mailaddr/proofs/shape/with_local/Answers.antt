-- `mailaddr::shape::with_local` meets its contract: the two tests are those of the definition, and the `@` stands in the text.
-- Assumes nothing.
use mathlib.Core.Path.{◌≡◌, sym, ap, ◌∙◌}
use mathlib.Core.Bool.{true, false, and-false}
use Prim.Native.Nat.{◌+◌}
use borrow.Author.Tests.{eq-eqb, ne_eqb}
use lib.ListN.{get_or, drop}
use Rattle.chars.specs.Parts.{is_atoms}
use Rattle.chars.proofs.Laws.Seq.{rest_of}
use Rattle.mailaddr.specs.Shape.{with_local}
use Rattle.mailaddr.specs.Answers.{address_at, from_shape, shape_answer}
use Rattle.mailaddr.proofs.shape.with_local.Goals as goal
use Rattle.mailaddr.proofs.shape.with_local.Goals.{then-byte_at-ne64-via-then-byte_at-ne64, then-byte_at-ne64-via-else-byte_at-ne64+then-not-is_atoms}

pub returns-then-byte_at-ne64 : goal.returns-then-byte_at-ne64
unfolding shape_answer from_shape with_local
returns-then-byte_at-ne64 c =
    let a = c.args in
    elim c.then-byte_at-ne64.branch [
      | then-byte_at-ne64-via-then-byte_at-ne64 w ↦ rw (ne_eqb (get_or a.s.now a.at 0) 64 (λ e. w.if-byte_at-ne64.true (c.byte_at.ensures ∙ e)))
      | then-byte_at-ne64-via-else-byte_at-ne64+then-not-is_atoms w ↦
          let e : is_atoms (drop (a.at + 1) a.s.now) ≡ false =
          sym (ap is_atoms (rest_of (a.at + 1) a.s.now)) ∙ sym w.is_atoms.ensures ∙ w.if-not-is_atoms.true in
          rw (e, and-false)
    ]

pub returns : goal.returns
unfolding shape_answer address_at from_shape with_local
returns c =
    let a = c.args in
    let e : is_atoms (drop (a.at + 1) a.s.now) ≡ true =
    sym (ap is_atoms (rest_of (a.at + 1) a.s.now)) ∙ sym c.is_atoms.ensures ∙ c.if-not-is_atoms.false in
    rw (eq-eqb (get_or a.s.now a.at 0) 64 (sym c.byte_at.ensures ∙ c.if-byte_at-ne64.false), e)
