-- `chars::parts::is_parted` meets its contract. The loop's invariant: the answer is that of the pass over what is left.
-- Assumes nothing.
use mathlib.Core.Path.{sym, ◌∙◌}
use native.Mathlib.Omega.{arith}
use borrow.Author.Tests.{eq-eqb, ne_eqb}
use Rattle.chars.specs.Class.{is_in}
use Rattle.chars.proofs.Laws.Parts.{parted-from, from_sep, from_byte, from_end}
use Rattle.chars.proofs.parts.is_parted.Goals as goal
use Rattle.chars.proofs.parts.is_parted.Goals.{then-b-sep+else-open, else-b-sep+else-not-is_in}

pub loop-b-init : goal.loop-b-init
loop-b-init c =
    let a = c.args in
    parted-from a.sep (is_in a.class) a.s.now

pub returns-then-open : goal.returns-then-open
returns-then-open c =
    let l = c.loop-b in
    let a = c.args in
    sym
    (l.invariant
    ∙ from_sep a.sep (is_in a.class) l.«open» a.s.now l.b-index (omega arith) (eq-eqb _ _ c.if-b-sep.true)
    ∙ rw c.if-open.true)

pub returns-then-not-is_in : goal.returns-then-not-is_in
returns-then-not-is_in c =
    let l = c.loop-b in
    let a = c.args in
    sym
    (l.invariant
    ∙ from_byte a.sep (is_in a.class) l.«open» a.s.now l.b-index (omega arith) (ne_eqb _ _ c.if-b-sep.false)
    ∙ rw (← c.is_in.ensures, c.if-not-is_in.true))

pub loop-b-preserved : goal.loop-b-preserved
loop-b-preserved c =
    let l = c.loop-b in
    let a = c.args in
    l.invariant
    ∙ elim c.if-b-sep.branch [
      | then-b-sep+else-open w ↦
          from_sep a.sep (is_in a.class) l.«open» a.s.now l.b-index (omega arith) (eq-eqb _ _ w.if-b-sep.true) ∙ rw (w.if-open.false, eq-eqb _ _ w.if-b-sep.true)
      | else-b-sep+else-not-is_in w ↦
          from_byte a.sep (is_in a.class) l.«open» a.s.now l.b-index (omega arith) (ne_eqb _ _ w.if-b-sep.false)
          ∙ rw (← w.is_in.ensures, w.if-not-is_in.false, ne_eqb _ _ w.if-b-sep.false)
    ]

pub returns : goal.returns
returns c =
    let l = c.loop-b in
    let a = c.args in
    sym (l.invariant ∙ from_end a.sep (is_in a.class) l.«open» a.s.now l.b-index (omega arith))
