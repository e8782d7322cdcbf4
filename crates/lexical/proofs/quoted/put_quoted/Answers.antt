-- `lexical::quoted::put_quoted` meets its contract. The loop's invariant: what is left to write, written, gives the whole text written, and the
-- string still closes.
-- Assumes nothing.
use mathlib.Core.Path.{◌≡◌, refl, sym, ap, ◌∙◌}
use mathlib.Core.List.{List, []}
use Prim.Native.Nat.{ℕ, ◌+◌}
use native.Mathlib.Numerals.{add-one}
use native.Mathlib.Omega.{arith}
use borrow.Author.Rules.{rules}
use lib.ListN.{length, length-set}
use lib.Seq.{sets}
use Rattle.chars.specs.Write.{Wrote}
use Rattle.lexical.proofs.Laws.Quoted.{fold-inside, left_break, left_close, left_end, left_escape, left_fold, left_keep}
use Rattle.lexical.proofs.quoted.put_quoted.Goals as goal

-- nothing is left: all is written
done : {o n t r : List ℕ} {k j : ℕ} → k + length t ≡ j + length r → sets o k t ≡ sets n j r → r ≡ [] → Wrote o k t j n
done {o} {n} {t} {r} {k} {j} m h e = record { moved = omega (arith, ap length e); holds = sym (h ∙ rw e) }

pub loop-i-init : goal.loop-i-init
loop-i-init c = (search rules, refl, refl, refl)

pub overflow_add-i : goal.overflow_add-i
overflow_add-i c =
    let l = c.loop-i in
    omega (arith, fold-inside c.args.s.now l.i l.escaped (sym c.in-Fold.ensures))

pub loop-i-preserved-in-Fold : goal.loop-i-preserved-in-Fold
loop-i-preserved-in-Fold c =
    let l = c.loop-i in
    let p = left_fold c.args.s.now l.i l.escaped (omega arith) l.invariant.0 (sym c.in-Fold.ensures) in
    (p.closes, l.invariant.1, omega (arith, l.invariant.2, ap length p.text), l.invariant.3 ∙ rw p.text)

pub returns-in-Close : goal.returns-in-Close
returns-in-Close c =
    let l = c.loop-i in
    done l.invariant.2 l.invariant.3 (left_close c.args.s.now l.i l.escaped (omega arith) (sym c.in-Close.ensures))

pub loop-i-preserved-in-Escape : goal.loop-i-preserved-in-Escape
loop-i-preserved-in-Escape c =
    let l = c.loop-i in
    let p = left_escape c.args.s.now l.i l.escaped (omega arith) l.invariant.0 (sym c.in-Escape.ensures) in
    (p.closes, l.invariant.1, omega (arith, l.invariant.2, ap length p.text), l.invariant.3 ∙ rw p.text)

pub bounds-dst-next : goal.bounds-dst-next
bounds-dst-next c =
    let l = c.loop-i in
    let p = left_keep c.args.s.now l.i l.escaped (omega arith) l.invariant.0 (sym c.in-Keep.ensures) in
    omega (arith, c.requires.s_in_bounds, l.invariant.1, l.invariant.2, ap length p.text)

pub overflow_add-next : goal.overflow_add-next
overflow_add-next c =
    let l = c.loop-i in
    let p = left_keep c.args.s.now l.i l.escaped (omega arith) l.invariant.0 (sym c.in-Keep.ensures) in
    omega (arith, c.requires.s_in_bounds, l.invariant.1, l.invariant.2, ap length p.text)

pub loop-i-preserved : goal.loop-i-preserved
loop-i-preserved c =
    let l = c.loop-i in
    let p = left_keep c.args.s.now l.i l.escaped (omega arith) l.invariant.0 (sym c.in-Keep.ensures) in
    (p.closes, simp length-set l.invariant.1, omega (arith, l.invariant.2, ap length p.text), l.invariant.3 ∙ rw (p.text, add-one l.next))

pub returns-in-Break : goal.returns-in-Break
returns-in-Break c =
    let l = c.loop-i in
    done l.invariant.2 l.invariant.3 (left_break c.args.s.now l.i l.escaped (omega arith) (sym c.in-Break.ensures))

pub returns : goal.returns
returns c =
    let l = c.loop-i in
    done l.invariant.2 l.invariant.3 (left_end c.args.s.now l.i l.escaped (omega arith))
