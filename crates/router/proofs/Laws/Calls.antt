-- The router's theorem: however the input is cut into chunks as it arrives, and however small the room for output (from that of one answer
-- up), the whole output is that of the whole input; and calls with that room come to an end.
-- Assumes nothing.
use mathlib.Core.Path.{◌≡◌, sym, ap, subst, ◌∙◌}
use mathlib.Core.Logic.{◌⊎◌, inl, inr}
use mathlib.Core.Bool.{Bool, true, false}
use mathlib.Core.List.{List, [], ◌++◌, append_assoc}
use Prim.Native.Nat.{ℕ, ◌≤◌, ◌<◌}
use native.Mathlib.Omega.{arith}
use borrow.Author.Tests.{ltb-false, ltb-true}
use lib.Dec.{ltb}
use lib.ListN.{length, take, drop}
use Rattle.chars.specs.Parts.{run}
use Rattle.chars.proofs.Laws.Lists.{by_test}
use Rattle.table.specs.Lines.{TableOutcome}
use Rattle.router_line.specs.Line.{answer_room}
use Rattle.router.specs.Run.{Calls, Lacks, Routing, Waits, after_line, called, due, ended, whole}
use Rattle.table_load.specs.Load.{FormedBy}
use Rattle.router.specs.declared.run.Routed.{Routed}
use Rattle.router_line.proofs.Laws.Line.{answer-length}
use Rattle.router.proofs.Laws.Run.{whole-none}

-- when nothing is left, nothing is due
due-none : (l : TableOutcome) (over : Bool) → due l over [] ≡ []
unfolding due after_line run
due-none l false = whole-none l
due-none l true = whole-none l

-- what calls write, one after the other, is what was due when they began
pub calls_due : {l : TableOutcome} {over : Bool} {kept input out : List ℕ} → Calls l over kept input out → out ≡ due l over (kept ++ input)
calls_due {l} (ended over) = sym (due-none l over)
calls_due {l} (called over last kept chunk rest out old new r c e next) =
    ap (λ (t : List ℕ). c.went.text ++ t) (calls_due next)
    ∙ sym (c.went.owed rest e)
    ∙ ap (due l over) (append_assoc kept chunk rest)

-- the whole output is that of the whole input
pub calls_whole : {l : TableOutcome} {input out : List ℕ} → Calls l false [] input out → out ≡ whole l input
unfolding due
calls_whole c = calls_due c

-- a call with room for one answer that takes nothing has nothing to answer: no LF has come, nor more than a line may have, nor the end
pub call_moves : {l : TableOutcome} {over last : Bool} {s old new : List ℕ} {r : Routed} → FormedBy l → Routing l over s last old r new
    → answer_room ≤ length old → r.taken ≡ 0 → Waits last s
call_moves {l} {over} {last} {s} {old} {new} {r} f c k z =
    by_stop (subst (λ (n : ℕ). Waits last (drop n s) ⊎ Lacks l (drop n s) r.written (length old)) z c.stops)
  where
    unpaid : r.written ≡ 0
    unpaid =
        by_test (ltb 0 (length c.went.text))
        (λ e. let p : length s < length s = subst (λ (n : ℕ). length (drop n s) < length s) z (c.went.paid (ltb-true 0 (length c.went.text) e)) in absurd (omega arith))
        (λ e. omega (arith, ltb-false 0 (length c.went.text) e, c.went.wrote.moved))

    by_stop : (Waits last s ⊎ Lacks l s r.written (length old)) → Waits last s
    by_stop (inl w) = w
    by_stop (inr n) = absurd (omega (arith, n.short, unpaid, answer-length l (take (run 10 s) s) f))
