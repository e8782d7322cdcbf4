-- `ortext_segments::scan::text_end` meets its contract. The loop's invariant: what starts at `i` stops where what starts at `from` does.
-- Assumes nothing.
use mathlib.Core.Path.{◌≡◌, sym, ap, ◌∙◌}
use mathlib.Core.Bool.{Bool}
use Prim.Native.Nat.{ℕ, ◌+◌}
use native.Mathlib.Omega.{arith}
use borrow.Author.Tests.{eq-eqb, ne_eqb}
use lib.ListN.{get_or}
use Rattle.chars.proofs.Laws.Seq.{byte_inside}
use Rattle.chars.specs.Class.{is_printable}
use Rattle.ortext_segments.proofs.Laws.Scan.{end_none, end-plain, end-quoted, end_stop, end-unquoted, printable_some}
use Rattle.ortext_segments.proofs.scan.text_end.Goals as goal

-- what the test r of the quoted character b says
quoted : {b : ℕ} {r : Bool} (x : ℕ) (t : Bool) → b ≡ x → r ≡ is_printable b → r ≡ t → is_printable x ≡ t
quoted x t is test e = sym (ap is_printable is) ∙ sym test ∙ e

pub returns-then-is_stop : goal.returns-then-is_stop
returns-then-is_stop c =
    sym (c.loop-i.invariant ∙ end_stop c.args.s.now c.loop-i.i (omega arith) (sym c.is_stop.ensures ∙ c.if-is_stop.true))

pub returns-then-not-is_printable : goal.returns-then-not-is_printable
returns-then-not-is_printable c =
    sym
    (c.loop-i.invariant
    ∙ end-unquoted c.args.s.now c.loop-i.i (omega arith) (sym c.is_stop.ensures ∙ c.if-is_stop.false) (eq-eqb _ _ c.if-b-eq36.true)
    (quoted _ _ c.byte_at.ensures c.is_printable.ensures c.if-not-is_printable.true))

pub overflow_add-i-then-b-eq36 : goal.overflow_add-i-then-b-eq36
overflow_add-i-then-b-eq36 c =
    let tail = c.args.s.now in
    let next = c.loop-i.i + 1 in
    omega (arith, byte_inside tail next (printable_some (get_or tail next 0) (quoted _ _ c.byte_at.ensures c.is_printable.ensures c.if-not-is_printable.false)))

pub loop-i-preserved-then-b-eq36 : goal.loop-i-preserved-then-b-eq36
loop-i-preserved-then-b-eq36 c =
    c.loop-i.invariant
    ∙ end-quoted c.args.s.now c.loop-i.i (omega arith) (sym c.is_stop.ensures ∙ c.if-is_stop.false) (eq-eqb _ _ c.if-b-eq36.true)
    (quoted _ _ c.byte_at.ensures c.is_printable.ensures c.if-not-is_printable.false)

pub loop-i-preserved : goal.loop-i-preserved
loop-i-preserved c =
    c.loop-i.invariant
    ∙ end-plain c.args.s.now c.loop-i.i (omega arith) (sym c.is_stop.ensures ∙ c.if-is_stop.false) (ne_eqb _ _ c.if-b-eq36.false)

pub returns : goal.returns
returns c = sym (c.loop-i.invariant ∙ end_none c.args.s.now c.loop-i.i (omega arith))
